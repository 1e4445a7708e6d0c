-- The locals that lines mention, from left to right and line by line (own).
use Rattle.std.specs.Prelude.{ℕ, zero, suc, ◌+◌, Bool, nat_lt, not, ◌==◌, if◌then◌else◌, List, [], ◌∷◌, ◌++◌, Option, Some, None}
use Rattle.std.specs.List.{filter, list_all}
use Rattle.task_code.specs.declared.code.Index.{Index}
use Rattle.task_code.specs.declared.code.Index.TheVariants as index
use Rattle.task_code.specs.declared.code.Operand.{Operand}
use Rattle.task_code.specs.declared.code.Operand.TheVariants as operand
use Rattle.task_code.specs.declared.code.Expr.{Expr}
use Rattle.task_code.specs.declared.code.Action.{Action}
use Rattle.task_code.specs.declared.code.Action.TheVariants as action
use Rattle.task_code.specs.declared.code.Line.{Line}
use Rattle.task_code.specs.declared.code.Line.TheVariants as line
use Rattle.task_code.specs.Operands.{over_expr, over_action, over_line}

abbrev pub in_index : Index → List ℕ
in_index (index.Local i) = i ∷ []
in_index _ = []

abbrev pub in_operand : Operand → List ℕ
in_operand (operand.Plain i) = in_index i
in_operand (operand.Cell c) = in_index c.index

abbrev pub in_expr : Expr → List ℕ
in_expr e = over_expr ◌++◌ [] in_operand e

-- the local that an action sets
abbrev pub set_by : Action → List ℕ
set_by (action.Let i e) = i ∷ []
set_by _ = []

abbrev pub set_in : Line → List ℕ
set_in (line.Do a) = set_by a
set_in _ = []

abbrev pub in_action : Action → List ℕ
in_action a = set_by a ++ over_action ◌++◌ [] in_operand a

-- the end of a loop mentions what its first line does, as the text doesn't say it again
abbrev pub in_line : Line → List ℕ
in_line l = over_line ◌++◌ [] in_operand in_action (λ e. []) l

abbrev pub mentions : List Line → List ℕ
mentions [] = []
mentions (l ∷ ls) = in_line l ++ mentions ls

-- How many locals have been mentioned after these, if this many were before: each mention is of one of those, or of the
-- next in the list of locals.
abbrev pub mentioned : ℕ → List ℕ → Option ℕ
mentioned k [] = Some k
mentioned k (i ∷ is) = if i == k then mentioned (k + 1) is else if nat_lt i k then mentioned k is else None

-- each mention is of one of this many locals
abbrev pub are_below : ℕ → List ℕ → Bool
are_below count is = list_all (λ i. nat_lt i count) is

-- each number once, at its first place
abbrev pub firsts : List ℕ → List ℕ
firsts [] = []
firsts (i ∷ is) = i ∷ filter (λ j. not (j == i)) (firsts is)

-- this many numbers in a row
abbrev pub places : ℕ → ℕ → List ℕ
places k zero = []
places k (suc n) = k ∷ places (k + 1) n

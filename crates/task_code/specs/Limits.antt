-- What the limits of a body count, and which numbers lines may have (own).
use Rattle.std.specs.Prelude.{ℕ, ◌+◌, ◌-◌, max, Bool, true, false, ◌&&◌, nat_lt, List, [], ◌∷◌, count_by}
use Rattle.text_lines.specs.Number.{fits_i64}
use Rattle.superstep_memory.specs.declared.arrays.PutKind.{PutKind}
use Rattle.superstep_memory.specs.declared.arrays.PutKind.TheVariants.{Set, Add}
use Rattle.task_code.specs.declared.code.Index.{Index}
use Rattle.task_code.specs.declared.code.Index.TheVariants as index
use Rattle.task_code.specs.declared.code.Operand.{Operand}
use Rattle.task_code.specs.declared.code.Operand.TheVariants as operand
use Rattle.task_code.specs.declared.code.Expr.{Expr}
use Rattle.task_code.specs.declared.code.Action.{Action}
use Rattle.task_code.specs.declared.code.Action.TheVariants as action
use Rattle.task_code.specs.declared.code.Line.{Line}
use Rattle.task_code.specs.declared.code.Line.TheVariants as line
use Rattle.task_code.specs.Operands.{over_expr, over_action, over_line}

-- each line but `else` and the ends is a statement
abbrev pub is_statement : Line → Bool
is_statement (line.Else n) = false
is_statement line.EndIf = false
is_statement (line.EndWhile e n) = false
is_statement _ = true

abbrev pub statements : List Line → ℕ
statements code = count_by is_statement code

-- how many `if` and `while` lines are open after a line, if this many were open before it
abbrev pub opened : ℕ → Line → ℕ
opened k (line.Do a) = k
opened k (line.If e n) = k + 1
opened k (line.Else n) = k
opened k line.EndIf = k - 1
opened k (line.While e n) = k + 1
opened k (line.EndWhile e n) = k - 1

-- how many are open at once at most, if this many are open before these lines
abbrev pub deepest : ℕ → List Line → ℕ
deepest k [] = k
deepest k (l ∷ ls) = max k (deepest (opened k l) ls)

-- the number of arrays; those that these name are among them
module _ (arrays : ℕ) where
  abbrev pub is_operand : Operand → Bool
  is_operand (operand.Plain i) = true
  is_operand (operand.Cell c) = nat_lt c.array arrays

  abbrev pub is_expr : Expr → Bool
  is_expr e = over_expr ◌&&◌ true is_operand e

-- the number of bodies; the one that these name is among them
module _ (bodies : ℕ) where
  abbrev pub has_body : Action → Bool
  has_body (action.Spawn b e) = nat_lt b bodies
  has_body _ = true

  abbrev pub has_body_in : Line → Bool
  has_body_in (line.Do a) = has_body a
  has_body_in _ = true

-- the numbers of arrays and of bodies; those that these name are among them
module _ (arrays bodies : ℕ) where
  abbrev pub is_action : Action → Bool
  is_action a = has_body bodies a && over_action ◌&&◌ true (is_operand arrays) a

  abbrev pub is_line : Line → Bool
  is_line l = over_line ◌&&◌ true (is_operand arrays) is_action (is_expr arrays) l

-- format 1 has each line but an add
abbrev pub is_set : PutKind → Bool
is_set Set = true
is_set Add = false

abbrev pub adds_nothing : Action → Bool
adds_nothing (action.Put k c e) = is_set k
adds_nothing _ = true

abbrev pub is_of_first : Line → Bool
is_of_first (line.Do a) = adds_nothing a
is_of_first _ = true

-- the numbers of a line are of 64 signed bits
abbrev pub fits_index : Index → Bool
fits_index (index.Number n) = fits_i64 n
fits_index _ = true

abbrev pub fits_operand : Operand → Bool
fits_operand (operand.Plain i) = fits_index i
fits_operand (operand.Cell c) = fits_index c.index

abbrev pub fits_expr : Expr → Bool
fits_expr e = over_expr ◌&&◌ true fits_operand e

abbrev pub fits_action : Action → Bool
fits_action a = over_action ◌&&◌ true fits_operand a

abbrev pub fits_line : Line → Bool
fits_line l = over_line ◌&&◌ true fits_operand fits_action (λ e. true) l

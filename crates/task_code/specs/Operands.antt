-- The one way through the operands of a line, from left to right (own).
use Rattle.std.specs.Prelude.{Bool, if◌then◌else◌, List, [], ◌∷◌, ◌++◌, Option, Some, None}
use Rattle.task_code.specs.declared.code.Operand.{Operand}
use Rattle.task_code.specs.declared.code.Operand.TheVariants as operand
use Rattle.task_code.specs.declared.code.Expr.{Expr}
use Rattle.task_code.specs.declared.code.Expr.TheVariants as expr
use Rattle.task_code.specs.declared.code.Action.{Action}
use Rattle.task_code.specs.declared.code.Action.TheVariants as action
use Rattle.task_code.specs.declared.code.Line.{Line}
use Rattle.task_code.specs.declared.code.Line.TheVariants as line
use Rattle.task_code.specs.declared.operands.Operands.{Operands}

-- What an operand is asked, how two answers are joined, and the answer if there is no operand.
module _ {X : Type 0} (join : X → X → X) (none : X) (ask : Operand → X) where
  abbrev pub over_expr : Expr → X
  over_expr (expr.One a) = ask a
  over_expr (expr.Two a o b) = join (ask a) (ask b)

  -- the cell that is put to comes first
  abbrev pub over_action : Action → X
  over_action (action.Let i e) = over_expr e
  over_action (action.Put k c e) = join (ask (operand.Cell c)) (over_expr e)
  over_action (action.Print e) = over_expr e
  over_action (action.Spawn b e) = over_expr e
  over_action action.Sync = none
  over_action action.Stop = none

  -- What an action is asked as a whole; and, as the end of a loop says again what its first line does and the text doesn't, what that end
  -- is.
  abbrev pub over_line : (Action → X) → (Expr → X) → Line → X
  over_line act again (line.Do a) = act a
  over_line act again (line.If e n) = over_expr e
  over_line act again (line.Else n) = none
  over_line act again line.EndIf = none
  over_line act again (line.While e n) = over_expr e
  over_line act again (line.EndWhile e n) = again e

-- The operands themselves; with those of the end of a loop, or without.
abbrev pub alone : Operand → List Operand
alone a = a ∷ []

abbrev pub line_operands : Bool → Line → List Operand
line_operands again l =
    over_line ◌++◌ [] alone (over_action ◌++◌ [] alone) (λ e. if again then over_expr ◌++◌ [] alone e else []) l

-- What an operand that may be absent is asked.
abbrev pub if_any : {X : Type 0} → X → (Operand → X) → Option Operand → X
if_any none ask None = none
if_any none ask (Some a) = ask a

-- What operands are asked, from left to right.
abbrev pub over_operands : {X : Type 0} → (X → X → X) → X → (Operand → X) → Operands → X
over_operands join none ask o = join (if_any none ask o.cell) (join (if_any none ask o.left) (if_any none ask o.right))

abbrev pub listed : Operands → List Operand
listed o = over_operands ◌++◌ [] alone o

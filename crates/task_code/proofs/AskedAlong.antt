-- A line is asked as its operands are, one after the other.
use Rattle.std.proofs.Common.{◌≡◌, ℕ, Bool, true, false, ◌&&◌, List, [], ◌∷◌, ◌++◌, refl, sym, ◌∙◌, ap}
use Rattle.std.specs.Prelude.{Option, Some, None}
use Rattle.std.proofs.lemmas.List.{append-nil, append_assoc}
use Rattle.task_code.specs.declared.code.Operand.{Operand}
use Rattle.task_code.specs.declared.code.Operand.TheVariants as operand
use Rattle.task_code.specs.declared.code.Expr.{Expr}
use Rattle.task_code.specs.declared.code.Expr.TheVariants as expr
use Rattle.task_code.specs.declared.code.Action.{Action}
use Rattle.task_code.specs.declared.code.Action.TheVariants as action
use Rattle.task_code.specs.declared.code.Line.{Line}
use Rattle.task_code.specs.declared.code.Line.TheVariants as line
use Rattle.task_code.specs.declared.operands.Operands.{Operands}
use Rattle.task_code.specs.Operands.{over_expr, over_action, alone, line_operands, if_any, over_operands, listed}
use Rattle.task_code.specs.Limits.{is_operand, is_expr, is_line, has_body, has_body_in, fits_operand, fits_line}
use Rattle.task_code.specs.Mentions.{in_operand, in_line, set_by, set_in}

-- what a list of operands is asked
abbrev asked : {X : Type 0} → (X → X → X) → X → (Operand → X) → List Operand → X
asked join none ask [] = none
asked join none ask (a ∷ os) = join (ask a) (asked join none ask os)

-- if an absent operand says nothing, before others and after them
module _ {X : Type 0} (join : X → X → X) (none : X) (before : (x : X) → join none x ≡ x) (behind : (x : X) → join x none ≡ x)
    (ask : Operand → X) where
  of_two : (b c : Option Operand)
      → join (if_any none ask b) (if_any none ask c) ≡ asked join none ask (if_any [] alone b ++ if_any [] alone c)
  of_two None None = before none
  of_two None (Some c) = before (ask c) ∙ sym (behind (ask c))
  of_two (Some b) None = refl
  of_two (Some b) (Some c) = ap (join (ask b)) (sym (behind (ask c)))

  of_three : (a b c : Option Operand) → join (if_any none ask a) (join (if_any none ask b) (if_any none ask c))
      ≡ asked join none ask (if_any [] alone a ++ (if_any [] alone b ++ if_any [] alone c))
  of_three None b c = before (join (if_any none ask b) (if_any none ask c)) ∙ of_two b c
  of_three (Some a) b c = ap (join (ask a)) (of_two b c)

  -- what operands are asked whose list is this one
  of_listed : (o : Operands) (os : List Operand) → listed o ≡ os → over_operands join none ask o ≡ asked join none ask os
  of_listed o os e = of_three o.cell o.left o.right ∙ ap (asked join none ask) e

  of_expr : (e : Expr) → asked join none ask (over_expr ◌++◌ [] alone e) ≡ over_expr join none ask e
  of_expr (expr.One a) = behind (ask a)
  of_expr (expr.Two a o b) = ap (join (ask a)) (behind (ask b))

  of_action : (a : Action) → asked join none ask (over_action ◌++◌ [] alone a) ≡ over_action join none ask a
  of_action (action.Let i e) = of_expr e
  of_action (action.Put k c e) = ap (join (ask (operand.Cell c))) (of_expr e)
  of_action (action.Print e) = of_expr e
  of_action (action.Spawn b e) = of_expr e
  of_action action.Sync = refl
  of_action action.Stop = refl

all_behind : (b : Bool) → b && true ≡ b
all_behind true = refl
all_behind false = refl

module _ (arrays bodies : ℕ) where
  expr_is : (e : Expr) → asked ◌&&◌ true (is_operand arrays) (over_expr ◌++◌ [] alone e) ≡ is_expr arrays e
  expr_is e = of_expr ◌&&◌ true (λ _. refl) all_behind (is_operand arrays) e

  line_asked : (l : Line) → (has_body_in bodies l && asked ◌&&◌ true (is_operand arrays) (line_operands true l)) ≡ is_line arrays bodies l
  line_asked (line.Do a) = ap (λ b. has_body bodies a && b) (of_action ◌&&◌ true (λ _. refl) all_behind (is_operand arrays) a)
  line_asked (line.If e n) = expr_is e
  line_asked (line.Else n) = refl
  line_asked line.EndIf = refl
  line_asked (line.While e n) = expr_is e
  line_asked (line.EndWhile e n) = expr_is e

  -- a line whose body is among the bodies is allowed if its operands are among the arrays, with those of the end of a
  -- loop
  pub line_is : (l : Line) (o : Operands) → listed o ≡ line_operands true l → has_body_in bodies l ≡ true
      → over_operands ◌&&◌ true (is_operand arrays) o ≡ is_line arrays bodies l
  line_is l o e h = of_listed ◌&&◌ true (λ _. refl) all_behind (is_operand arrays) o (line_operands true l) e
      ∙ ap (λ b. b && asked ◌&&◌ true (is_operand arrays) (line_operands true l)) (sym h) ∙ line_asked l

expr_fits : (e : Expr) → asked ◌&&◌ true fits_operand (over_expr ◌++◌ [] alone e) ≡ over_expr ◌&&◌ true fits_operand e
expr_fits e = of_expr ◌&&◌ true (λ _. refl) all_behind fits_operand e

line_tested : (l : Line) → asked ◌&&◌ true fits_operand (line_operands false l) ≡ fits_line l
line_tested (line.Do a) = of_action ◌&&◌ true (λ _. refl) all_behind fits_operand a
line_tested (line.If e n) = expr_fits e
line_tested (line.Else n) = refl
line_tested line.EndIf = refl
line_tested (line.While e n) = expr_fits e
line_tested (line.EndWhile e n) = refl

-- the numbers of a line are those of its operands
pub line_fits : (l : Line) (o : Operands) → listed o ≡ line_operands false l → over_operands ◌&&◌ true fits_operand o ≡ fits_line l
line_fits l o e = of_listed ◌&&◌ true (λ _. refl) all_behind fits_operand o (line_operands false l) e ∙ line_tested l

abbrev noted : List Operand → List ℕ
noted os = asked {X = List ℕ} ◌++◌ [] in_operand os

expr_noted : (e : Expr) → noted (over_expr ◌++◌ [] alone e) ≡ over_expr {X = List ℕ} ◌++◌ [] in_operand e
expr_noted e = of_expr {X = List ℕ} ◌++◌ [] (λ _. refl) append-nil in_operand e

line_said : (l : Line) → (set_in l ++ noted (line_operands false l)) ≡ in_line l
line_said (line.Do a) = ap (λ (is : List ℕ). set_by a ++ is) (of_action {X = List ℕ} ◌++◌ [] (λ _. refl) append-nil in_operand a)
line_said (line.If e n) = expr_noted e
line_said (line.Else n) = refl
line_said line.EndIf = refl
line_said (line.While e n) = expr_noted e
line_said (line.EndWhile e n) = refl

-- a line mentions what it sets, and then what its operands mention
pub line_noted : (l : Line) (o : Operands) (before : List ℕ) → listed o ≡ line_operands false l
    → before ++ set_in l ++ over_operands {X = List ℕ} ◌++◌ [] in_operand o ≡ before ++ in_line l
line_noted l o before e = append_assoc before (set_in l) (over_operands {X = List ℕ} ◌++◌ [] in_operand o)
    ∙ ap (λ (is : List ℕ). before ++ (set_in l ++ is))
    (of_listed {X = List ℕ} ◌++◌ [] (λ _. refl) append-nil in_operand o (line_operands false l) e)
    ∙ ap (λ (is : List ℕ). before ++ is) (line_said l)

-- Written lines of a body are read as themselves.
use Rattle.std.proofs.Common.{◌≡◌, ℕ, ◌<◌, Bool, true, false, List, [], ◌∷◌, length, Option, Some, Result, Ok, refl, ap, ◌∙◌, codes, zero-add}
use Rattle.std.specs.Prelude.{unwrap_or}
use Rattle.text_lines.specs.declared.refusal.Code.{Code}
use Rattle.task_code.specs.Names.{are_names}
use Rattle.superstep_memory.specs.declared.arrays.PutKind.{PutKind}
use Rattle.superstep_memory.specs.declared.arrays.PutKind.TheVariants.{Set, Add}
use Rattle.task_code.specs.declared.code.Cell.{Cell}
use Rattle.task_code.specs.declared.code.Expr.{Expr}
use Rattle.task_code.specs.declared.code.Action.{Action}
use Rattle.task_code.specs.declared.code.Action.TheVariants as action
use Rattle.task_code.specs.declared.code.Line.{Line}
use Rattle.task_code.specs.declared.code.Line.TheVariants as line
use Rattle.job_reader.specs.Faults.{both, made}
use Rattle.job_reader.specs.Words.{Word, place_from, name_at}
use Rattle.job_reader.specs.Exprs.{Names, cell_word, expr_words, expr_of}
use Rattle.job_reader.specs.Lines.{
  keyword_of,
  line_words,
  body_at,
  let_line,
  put_line,
  put_of,
  spawn_line,
  line_behind,
  line_of,
}
use Rattle.job_reader.proofs.WrittenLemmas.{named-free, names-free, place-name, declared-written}
use Rattle.job_reader.proofs.WrittenExprs.{AreGood, CellIs, ExprIs, cell-written, expr-written}

abbrev pub ActionIs : Names → Action → Type 0
ActionIs s (action.Let i e) = (i < length s.locals) × ExprIs s e
ActionIs s (action.Put kind c e) = CellIs s c × ExprIs s e
ActionIs s (action.Print e) = ExprIs s e
ActionIs s (action.Spawn b e) = (b < length s.bodies) × ExprIs s e
ActionIs s action.Sync = Unit {0}
ActionIs s action.Stop = Unit {0}

-- what a line names exists, its numbers are of 64 bits, and an `else` is allowed at its place
abbrev pub LineIs : Names → Bool → Line → Type 0
LineIs s fits (line.Do a) = ActionIs s a
LineIs s fits (line.If e n) = ExprIs s e
LineIs s fits (line.Else n) = fits ≡ true
LineIs s fits line.EndIf = Unit {0}
LineIs s fits (line.While e n) = ExprIs s e
LineIs s fits (line.EndWhile e n) = Unit {0}

-- a line as it is read, while jumps aren't known and ends look alike
abbrev pub as_read : Line → Line
as_read (line.Do a) = line.Do a
as_read (line.If e n) = line.If e 0
as_read (line.Else n) = line.Else 0
as_read line.EndIf = line.EndIf
as_read (line.While e n) = line.While e 0
as_read (line.EndWhile e n) = line.EndIf

body-written : (bodies : List Word) (b : ℕ) → are_names bodies ≡ true → b < length bodies → body_at bodies (name_at bodies b) ≡ Ok b
body-written bodies b e h =
    ap (λ (r : Result (Unit {0}) Code). made (λ _. unwrap_or (place_from 0 bodies (name_at bodies b)) 0) r)
    (named-free (name_at bodies b) (names-free bodies b e h))
    ∙ ap (λ (o : Option ℕ). Ok (unwrap_or o 0)) (place-name 0 bodies b e h ∙ ap (λ (x : ℕ). Some x) (zero-add b))

put-written : (s : Names) (kind : PutKind) (c : Cell) (e : Expr) → AreGood s → CellIs s c × ExprIs s e
    → put_of s kind (cell_word s c ∷ codes "=" ∷ expr_words s e) ≡ Ok (line.Do (action.Put kind c e))
put-written s kind c e g h =
    ap (λ (r : Result Cell Code). made (put_line kind) (both (both r (Ok tt)) (expr_of s (expr_words s e)))) (cell-written s c g h.0)
    ∙ ap (λ (r : Result Expr Code). made (put_line kind) (both (Ok (c, tt)) r)) (expr-written s e g h.1)

action-written : (s : Names) (fits : Bool) (a : Action) → AreGood s → ActionIs s a
    → line_of s fits (line_words s (line.Do a)) ≡ Ok (line.Do a)
unfolding line_behind keyword_of
action-written s fits (action.Let i e) g h =
    ap (λ (r : Result ℕ Code). made let_line (both (both (Ok tt) r) (expr_of s (expr_words s e))))
    (declared-written s.locals i g.locals h.0)
    ∙ ap (λ (r : Result Expr Code). made let_line (both (Ok (tt, i)) r)) (expr-written s e g h.1)
action-written s fits (action.Put Set c e) g h = put-written s Set c e g h
action-written s fits (action.Put Add c e) g h = put-written s Add c e g h
action-written s fits (action.Print e) g h = ap (made (λ e. line.Do (action.Print e))) (expr-written s e g h)
action-written s fits (action.Spawn b e) g h =
    ap (λ (r : Result ℕ Code). made spawn_line (both r (expr_of s (expr_words s e)))) (body-written s.bodies b g.bodies h.0)
    ∙ ap (λ (r : Result Expr Code). made spawn_line (both (Ok b) r)) (expr-written s e g h.1)
action-written s fits action.Sync g h = refl
action-written s fits action.Stop g h = refl

else-written : (s : Names) (fits : Bool) → fits ≡ true → line_of s fits ((codes "else") ∷ []) ≡ Ok (line.Else 0)
unfolding line_behind keyword_of
else-written s true h = refl
else-written s false h = absurd cc

-- a written line has no fault, and says itself
pub line-written : (s : Names) (fits : Bool) (l : Line) → AreGood s → LineIs s fits l → line_of s fits (line_words s l) ≡ Ok (as_read l)
unfolding line_behind keyword_of
line-written s fits (line.Do a) g h = action-written s fits a g h
line-written s fits (line.If e n) g h = ap (made (λ e. line.If e 0)) (expr-written s e g h)
line-written s fits (line.Else n) g h = else-written s fits h
line-written s fits line.EndIf g h = refl
line-written s fits (line.While e n) g h = ap (made (λ e. line.While e 0)) (expr-written s e g h)
line-written s fits (line.EndWhile e n) g h = refl

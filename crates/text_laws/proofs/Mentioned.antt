-- A written line mentions the locals of its line, in their order.
use Rattle.std.proofs.Common.{◌≡◌, ℕ, Bool, true, false, List, [], ◌∷◌, ◌++◌, map, refl, sym, ap, ◌∙◌, codes}
use Rattle.std.specs.Prelude.{if◌then◌else◌, ◌||◌}
use Rattle.text_lines.proofs.NumbersLemmas.{number-begins}
use Rattle.std.specs.Fmt.{signed_decimal}
use Rattle.std.specs.Str.{bytes_eq}
use Rattle.std.proofs.lemmas.List.{map-append}
use Rattle.task_code.specs.Names.{is_name, is_reserved, is_free, are_names}
use Rattle.task_code.specs.Mentions as mentions
use Rattle.task_code.specs.declared.code.Index.{Index}
use Rattle.task_code.specs.declared.code.Index.TheVariants as index
use Rattle.task_code.specs.declared.code.Cell.{Cell}
use Rattle.task_code.specs.declared.code.Operand.{Operand}
use Rattle.task_code.specs.declared.code.Operand.TheVariants as operand
use Rattle.task_code.specs.declared.code.Expr.{Expr}
use Rattle.task_code.specs.declared.code.Expr.TheVariants.{One, Two}
use Rattle.task_code.specs.declared.code.Action.{Action}
use Rattle.task_code.specs.declared.code.Action.TheVariants as action
use Rattle.task_code.specs.declared.code.Line.{Line}
use Rattle.task_code.specs.declared.code.Line.TheVariants as line
use Rattle.superstep_memory.specs.declared.arrays.PutKind.TheVariants.{Set, Add}
use Rattle.job_reader.specs.Words.{Word, name_at, index_word, in_index}
use Rattle.job_reader.specs.Exprs.{Names, cell_word, operand_word, expr_words, in_parts, in_operand, in_expr}
use Rattle.job_reader.specs.Lines.{line_words, keyword_of, mentions_behind, mentions_of}
use Rattle.job_reader.proofs.GrowLemmas.{and-right}
use Rattle.job_reader.proofs.WrittenLemmas.{names-free, not-true, other-word, arg-reserved, step-reserved, free-begins}
use Rattle.job_reader.proofs.WrittenExprs.{plain-cell, cell-bracket, plain-bracket, name-plain, AreGood, IndexIs, CellIs, OperandIs, ExprIs, index-plain}
use Rattle.job_reader.proofs.WrittenLines.{ActionIs, LineIs}
use Rattle.text_laws.proofs.MentionedLocals.{number-none, arg-none, step-none, operand-if as operand-by}

name-one : (w : Word) → is_free w ≡ true → in_index w ≡ w ∷ []
unfolding in_index
name-one w free =
    let plain : is_reserved w ≡ false = not-true (is_reserved w) (and-right (is_name w) _ free) in
    let arg : bytes_eq w (codes "arg") ≡ false = other-word _ w (codes "arg") refl arg-reserved plain in
    let step : bytes_eq w (codes "step") ≡ false = other-word _ w (codes "step") refl step-reserved plain in
    ap (λ (b : Bool). if b || bytes_eq w (codes "arg") || bytes_eq w (codes "step") then [] else w ∷ []) (free-begins w free)
    ∙ ap (λ (b : Bool). if b || bytes_eq w (codes "step") then [] else w ∷ []) arg
    ∙ ap (λ (b : Bool). if b then [] else w ∷ []) step

-- the names of locals
abbrev pub named_at : List Word → List ℕ → List Word
named_at locals is = map (name_at locals) is

index-mentions : (locals : List Word) (i : Index) → are_names locals ≡ true → IndexIs locals i
    → in_index (index_word locals i) ≡ named_at locals (mentions.in_index i)
index-mentions locals (index.Number n) e h = number-none (signed_decimal n) (number-begins n h)
index-mentions locals (index.Local i) e h = name-one (name_at locals i) (names-free locals i e h)
index-mentions locals index.Arg e h = arg-none
index-mentions locals index.Step e h = step-none

cell-mentions : (s : Names) (c : Cell) → AreGood s → CellIs s c → in_operand (cell_word s c) ≡ named_at s.locals (mentions.in_index c.index)
cell-mentions s c g h =
    let name : Word = name_at s.arrays c.array in
    let at : Word = index_word s.locals c.index in
    operand-by (cell_word s c) true (cell-bracket name (at ++ 93 ∷ []))
    ∙ ap in_parts
    (plain-cell name at (name-plain name (names-free s.arrays c.array g.arrays h.0)) (index-plain s.locals c.index g.locals h.1))
    ∙ index-mentions s.locals c.index g.locals h.1

operand-mentions : (s : Names) (o : Operand) → AreGood s → OperandIs s o
    → in_operand (operand_word s o) ≡ named_at s.locals (mentions.in_operand o)
operand-mentions s (operand.Plain i) g h =
    operand-by (index_word s.locals i) false (plain-bracket (index_word s.locals i) (index-plain s.locals i g.locals h))
    ∙ index-mentions s.locals i g.locals h
operand-mentions s (operand.Cell c) g h = cell-mentions s c g h

expr-mentions : (s : Names) (e : Expr) → AreGood s → ExprIs s e → in_expr (expr_words s e) ≡ named_at s.locals (mentions.in_expr e)
expr-mentions s (One a) g h = operand-mentions s a g h
expr-mentions s (Two a op b) g h =
    ap (λ (x : List Word). x ++ in_operand (operand_word s b)) (operand-mentions s a g h.0)
    ∙ ap (λ (x : List Word). named_at s.locals (mentions.in_operand a) ++ x) (operand-mentions s b g h.1)
    ∙ sym (map-append (name_at s.locals) (mentions.in_operand a) (mentions.in_operand b))

action-mentions : (s : Names) (a : Action) → AreGood s → ActionIs s a
    → mentions_of (line_words s (line.Do a)) ≡ named_at s.locals (mentions.in_action a)
unfolding keyword_of mentions_behind
action-mentions s (action.Let i e) g h = ap (λ (x : List Word). name_at s.locals i ∷ x) (expr-mentions s e g h.1)
action-mentions s (action.Put Set c e) g h =
    ap (λ (x : List Word). x ++ in_expr (expr_words s e)) (cell-mentions s c g h.0)
    ∙ ap (λ (x : List Word). named_at s.locals (mentions.in_index c.index) ++ x) (expr-mentions s e g h.1)
    ∙ sym (map-append (name_at s.locals) (mentions.in_index c.index) (mentions.in_expr e))
action-mentions s (action.Put Add c e) g h =
    ap (λ (x : List Word). x ++ in_expr (expr_words s e)) (cell-mentions s c g h.0)
    ∙ ap (λ (x : List Word). named_at s.locals (mentions.in_index c.index) ++ x) (expr-mentions s e g h.1)
    ∙ sym (map-append (name_at s.locals) (mentions.in_index c.index) (mentions.in_expr e))
action-mentions s (action.Print e) g h = expr-mentions s e g h
action-mentions s (action.Spawn b e) g h = expr-mentions s e g h.1
action-mentions s action.Sync g h = refl
action-mentions s action.Stop g h = refl

pub line-mentions : (s : Names) (fits : Bool) (l : Line) → AreGood s → LineIs s fits l
    → mentions_of (line_words s l) ≡ named_at s.locals (mentions.in_line l)
unfolding keyword_of mentions_behind
line-mentions s fits (line.Do a) g h = action-mentions s a g h
line-mentions s fits (line.If e n) g h = expr-mentions s e g h
line-mentions s fits (line.Else n) g h = refl
line-mentions s fits line.EndIf g h = refl
line-mentions s fits (line.While e n) g h = expr-mentions s e g h
line-mentions s fits (line.EndWhile e n) g h = refl

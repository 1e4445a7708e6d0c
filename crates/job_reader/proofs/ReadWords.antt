-- Words of a line that are read: the locals that they mention may be so called, and their numbers fit.
use Rattle.std.proofs.Common.{◌≡◌, ℕ, Bool, true, false, ◌&&◌, List, [], ◌∷◌, ◌++◌, Option, Some, None, Result, Ok, Err, ℤ, refl, sym, ap, subst, ◌∙◌, codes}
use Rattle.std.specs.Prelude.{if◌then◌else◌, not, ◌||◌}
use Rattle.std.specs.List.{list_all}
use Rattle.std.specs.Str.{bytes_eq}
use Rattle.std.proofs.lemmas.List.Folds.{list_all-append}
use Rattle.text_lines.specs.declared.refusal.Code.{Code}
use Rattle.text_lines.specs.declared.refusal.Code.TheVariants.{Reserved, BadName}
use Rattle.text_lines.specs.Number.{number_of, fits_i64}
use Rattle.text_lines.proofs.NumbersLemmas.{numbers_law, fits_back as fits-back}
use Rattle.task_code.specs.Limits.{fits_index, fits_operand, fits_expr, fits_line}
use Rattle.task_code.specs.Names.{is_name, is_reserved, is_free}
use Rattle.task_code.specs.declared.code.Index.{Index}
use Rattle.task_code.specs.declared.code.Index.TheVariants as index
use Rattle.task_code.specs.declared.code.Cell.{Cell}
use Rattle.task_code.specs.declared.code.Operand.{Operand}
use Rattle.task_code.specs.declared.code.Operand.TheVariants as operand
use Rattle.task_code.specs.declared.code.Expr.{Expr}
use Rattle.task_code.specs.declared.code.Expr.TheVariants.{One}
use Rattle.task_code.specs.declared.code.Action.TheVariants as action
use Rattle.task_code.specs.declared.code.Line.{Line}
use Rattle.task_code.specs.declared.code.Line.TheVariants as line
use Rattle.job_reader.specs.Faults.{both, made}
use Rattle.job_reader.specs.Words.{Word, Words, begins_number, named, numbered, place_from, or_unknown, declared_at, name_at, index_word, index_of, in_index}
use Rattle.job_reader.specs.Exprs.{Names, cell_parts, cell_at, cell_from, cell_of, has_bracket, operand_of, operator_of, expr_of, two, in_parts, in_operand, in_expr}
use Rattle.job_reader.specs.declared.lines.Keyword.{Keyword}
use Rattle.job_reader.specs.declared.lines.Keyword.TheVariants.{Let, Put, Print, Spawn, Sync, Stop, If, Else, While, End}
use Rattle.job_reader.specs.Lines.{is_equals, body_at, let_line, put_line, spawn_line, alone, else_of, line_behind, mentions_behind}
use Rattle.job_reader.proofs.SaidLemmas.{made-ok, both-ok, and-true, cell-said, number-ok}
use Rattle.job_reader.proofs.WrittenExprs.{cell-bracket}

named-cases : (a b : Bool) (u : Unit {0})
    → ◌≡◌ {A = Result (Unit {0}) Code} (if a then Err Reserved else if b then Ok tt else Err BadName) (Ok u) → (b && not a) ≡ true
named-cases true b u e = absurd cc
named-cases false true u e = refl
named-cases false false u e = absurd cc

-- a name without a fault may be used
pub free-named : (w : Word) (u : Unit {0}) → named w ≡ Ok u → is_free w ≡ true
free-named w u e = named-cases (is_reserved w) (is_name w) u e

free-declared : (names : List Word) (w : Word) (i : ℕ) → declared_at names w ≡ Ok i → is_free w ≡ true
free-declared names w i e =
    let m = made-ok (λ (p : Unit {0} × ℕ). p.1) _ i e in
    let b = both-ok (named w) (or_unknown (place_from 0 names w)) m.0 m.1 in
    free-named w m.0.0 b.0

-- a number that is read fits
pub number-fits : (w : Word) (n : ℤ) → numbered w ≡ Ok n → fits_i64 n ≡ true
number-fits w n e = fits-back n (numbers_law.1 w n (number-ok (number_of w) n e)).1

-- the mentions may be called so, and the numbers fit
abbrev pub Reads : List Word → Bool → Type 0
Reads mentions fits = (list_all is_free mentions ≡ true) × (fits ≡ true)

index-cases : (locals : List Word) (w : Word) (i : Index) (a b c : Bool)
    → (if a then made index.Number (numbered w) else if b then Ok index.Arg else if c then Ok index.Step
    else made index.Local (declared_at locals w))
    ≡ Ok i
    → Reads (if a || b || c then [] else w ∷ []) (fits_index i)
index-cases locals w i true b c e =
    let m = made-ok index.Number (numbered w) i e in
    (refl, ap fits_index (sym m.2) ∙ number-fits w m.0 m.1)
index-cases locals w i false true c e = let same : index.Arg ≡ i = cc in (refl, ap fits_index (sym same))
index-cases locals w i false false true e = let same : index.Step ≡ i = cc in (refl, ap fits_index (sym same))
index-cases locals w i false false false e =
    let m = made-ok index.Local (declared_at locals w) i e in
    (and-true _ true (free-declared locals w m.0 m.1) refl, ap fits_index (sym m.2))

index-reads : (locals : List Word) (w : Word) (i : Index) → index_of locals w ≡ Ok i → Reads (in_index w) (fits_index i)
unfolding index_of in_index
index-reads locals w i e = index-cases locals w i (begins_number w) (bytes_eq w (codes "arg")) (bytes_eq w (codes "step")) e

cell-from-reads : (s : Names) (o : Option (Word × Word)) (c : Cell) → cell_from s o ≡ Ok c → Reads (in_parts o) (fits_index c.index)
cell-from-reads s None c e = absurd cc
cell-from-reads s (Some p) c e =
    let m = made-ok cell_at (both (declared_at s.arrays p.0) (index_of s.locals p.1)) c e in
    let b = both-ok (declared_at s.arrays p.0) (index_of s.locals p.1) m.0 m.1 in
    subst (λ (x : Cell). Reads (in_index p.1) (fits_index x.index)) m.2 (index-reads s.locals p.1 m.0.1 b.1)

cell-reads : (s : Names) (w : Word) (c : Cell) → cell_of s w ≡ Ok c → Reads (in_parts (cell_parts w)) (fits_index c.index)
unfolding cell_of
cell-reads s w c e = cell-from-reads s (cell_parts w) c e

operand-cases : (s : Names) (w : Word) (o : Operand) (b : Bool)
    → (if b then made operand.Cell (cell_of s w) else made operand.Plain (index_of s.locals w)) ≡ Ok o
    → Reads (if b then in_parts (cell_parts w) else in_index w) (fits_operand o)
operand-cases s w o true e =
    let m = made-ok operand.Cell (cell_of s w) o e in
    subst (λ (x : Operand). Reads (in_parts (cell_parts w)) (fits_operand x)) m.2 (cell-reads s w m.0 m.1)
operand-cases s w o false e =
    let m = made-ok operand.Plain (index_of s.locals w) o e in
    subst (λ (x : Operand). Reads (in_index w) (fits_operand x)) m.2 (index-reads s.locals w m.0 m.1)

operand-reads : (s : Names) (w : Word) (o : Operand) → operand_of s w ≡ Ok o → Reads (in_operand w) (fits_operand o)
unfolding operand_of in_operand
operand-reads s w o e = operand-cases s w o (has_bracket w) e

-- a cell has a bracket
put-reads : (s : Names) (w : Word) (c : Cell) → cell_of s w ≡ Ok c → Reads (in_operand w) (fits_index c.index)
unfolding in_operand
put-reads s w c e =
    let bracket : has_bracket w ≡ true =
    ap has_bracket (cell-said s w c e).0 ∙ cell-bracket (name_at s.arrays c.array) (index_word s.locals c.index ++ 93 ∷ []) in
    subst (λ (b : Bool). Reads (if b then in_parts (cell_parts w) else in_index w) (fits_index c.index)) (sym bracket) (cell-reads s w c e)

two-free : (xs ys : List Word) → list_all is_free xs ≡ true → list_all is_free ys ≡ true → list_all is_free (xs ++ ys) ≡ true
two-free xs ys e f = list_all-append is_free xs ys ∙ and-true _ _ e f

expr-reads : (s : Names) (ws : Words) (e : Expr) → expr_of s ws ≡ Ok e → Reads (in_expr ws) (fits_expr e)
expr-reads s [] e h = absurd cc
expr-reads s (a ∷ []) e h =
    let m = made-ok One (operand_of s a) e h in
    subst (λ (x : Expr). Reads (in_operand a) (fits_expr x)) m.2 (operand-reads s a m.0 m.1)
expr-reads s (a ∷ op ∷ []) e h = absurd cc
expr-reads s (a ∷ op ∷ b ∷ []) e h =
    let m = made-ok two (both (both (operand_of s a) (operator_of op)) (operand_of s b)) e h in
    let outer = both-ok (both (operand_of s a) (operator_of op)) (operand_of s b) m.0 m.1 in
    let inner = both-ok (operand_of s a) (operator_of op) m.0.0 outer.0 in
    let x = operand-reads s a m.0.0.0 inner.0 in
    let y = operand-reads s b m.0.1 outer.1 in
    subst (λ (x : Expr). Reads (in_operand a ++ in_operand b) (fits_expr x)) m.2
    (two-free (in_operand a) (in_operand b) x.0 y.0, and-true _ _ x.1 y.1)
expr-reads s (a ∷ op ∷ b ∷ c ∷ ws) e h = absurd cc

test-reads : (s : Names) (f : Expr → Line) (ws : Words) (l : Line) → ((e : Expr) → fits_line (f e) ≡ fits_expr e)
    → made f (expr_of s ws) ≡ Ok l
    → Reads (in_expr ws) (fits_line l)
test-reads s f ws l w e =
    let m = made-ok f (expr_of s ws) l e in
    let x = expr-reads s ws m.0 m.1 in
    (x.0, ap fits_line (sym m.2) ∙ w m.0 ∙ x.1)

alone-reads : (x l : Line) (ws : Words) → fits_line x ≡ true → alone x ws ≡ Ok l → Reads [] (fits_line l)
alone-reads x l [] f e = let same : x ≡ l = cc in (refl, ap fits_line (sym same) ∙ f)
alone-reads x l (v ∷ ws) f e = absurd cc

else-reads : (fits : Bool) (ws : Words) (l : Line) → else_of fits ws ≡ Ok l → Reads [] (fits_line l)
else-reads true [] l e = let same : line.Else 0 ≡ l = cc in (refl, ap fits_line (sym same))
else-reads true (w ∷ ws) l e = absurd cc
else-reads false [] l e = absurd cc
else-reads false (w ∷ ws) l e = absurd cc

-- a line of a body that is read
pub line-reads : (s : Names) (fits : Bool) (k : Option Keyword) (ws : Words) (l : Line) → line_behind s fits k ws ≡ Ok l
    → Reads (mentions_behind k ws) (fits_line l)
unfolding line_behind mentions_behind
line-reads s fits None ws l e = absurd cc
line-reads s fits (Some Let) [] l e = absurd cc
line-reads s fits (Some Let) (w ∷ []) l e = absurd cc
line-reads s fits (Some Let) (w ∷ v ∷ ws) l e =
    let m = made-ok let_line (both (both (is_equals v) (declared_at s.locals w)) (expr_of s ws)) l e in
    let outer = both-ok (both (is_equals v) (declared_at s.locals w)) (expr_of s ws) m.0 m.1 in
    let inner = both-ok (is_equals v) (declared_at s.locals w) m.0.0 outer.0 in
    let x = expr-reads s ws m.0.1 outer.1 in
    (and-true _ _ (free-declared s.locals w m.0.0.1 inner.1) x.0, ap fits_line (sym m.2) ∙ x.1)
line-reads s fits (Some (Put kind)) [] l e = absurd cc
line-reads s fits (Some (Put kind)) (w ∷ []) l e = absurd cc
line-reads s fits (Some (Put kind)) (w ∷ v ∷ ws) l e =
    let m = made-ok (put_line kind) (both (both (cell_of s w) (is_equals v)) (expr_of s ws)) l e in
    let outer = both-ok (both (cell_of s w) (is_equals v)) (expr_of s ws) m.0 m.1 in
    let inner = both-ok (cell_of s w) (is_equals v) m.0.0 outer.0 in
    let x = expr-reads s ws m.0.1 outer.1 in
    let c = put-reads s w m.0.0.0 inner.0 in
    (two-free (in_operand w) _ c.0 x.0, ap fits_line (sym m.2) ∙ and-true _ _ c.1 x.1)
line-reads s fits (Some Print) ws l e = test-reads s (λ x. line.Do (action.Print x)) ws l (λ x. refl) e
line-reads s fits (Some Spawn) [] l e = absurd cc
line-reads s fits (Some Spawn) (w ∷ ws) l e =
    let m = made-ok spawn_line (both (body_at s.bodies w) (expr_of s ws)) l e in
    let outer = both-ok (body_at s.bodies w) (expr_of s ws) m.0 m.1 in
    let x = expr-reads s ws m.0.1 outer.1 in
    (x.0, ap fits_line (sym m.2) ∙ x.1)
line-reads s fits (Some Sync) ws l e = alone-reads (line.Do action.Sync) l ws refl e
line-reads s fits (Some Stop) ws l e = alone-reads (line.Do action.Stop) l ws refl e
line-reads s fits (Some If) ws l e = test-reads s (λ x. line.If x 0) ws l (λ x. refl) e
line-reads s fits (Some Else) ws l e = else-reads fits ws l e
line-reads s fits (Some While) ws l e = test-reads s (λ x. line.While x 0) ws l (λ x. refl) e
line-reads s fits (Some End) ws l e = alone-reads line.EndIf l ws refl e

-- A line that words say mentions the locals that the words do.
use Rattle.std.proofs.Common.{◌≡◌, ℕ, ◌+◌, ◌≤◌, Bool, true, false, List, [], ◌∷◌, ◌++◌, length, map, take, Option, Some, None, Ok, refl, sym, ap, subst, ◌∙◌, arith, codes, length-append, append-nil, append_assoc}
use Rattle.std.specs.Prelude.{if◌then◌else◌, nat_lt, ◌||◌, ◌==◌}
use Rattle.std.specs.List.{list_all}
use Rattle.std.specs.Str.{bytes_eq}
use Rattle.std.proofs.lemmas.List.{map-append}
use Rattle.task_code.specs.Mentions as mentions
use Rattle.task_code.specs.Names.{are_names}
use Rattle.task_code.specs.Open.{Frame, open_code, step_of}
use Rattle.task_code.specs.Tree.{Block}
use Rattle.task_code.specs.declared.code.Index.{Index}
use Rattle.task_code.specs.declared.code.Index.TheVariants as index
use Rattle.task_code.specs.declared.code.Cell.{Cell}
use Rattle.task_code.specs.declared.code.Operand.{Operand}
use Rattle.task_code.specs.declared.code.Operand.TheVariants as operand
use Rattle.task_code.specs.declared.code.Expr.{Expr}
use Rattle.task_code.specs.declared.code.Expr.TheVariants.{One}
use Rattle.task_code.specs.declared.code.Action.TheVariants as action
use Rattle.task_code.specs.declared.code.Line.{Line}
use Rattle.task_code.specs.declared.code.Line.TheVariants as line
use Rattle.job_reader.specs.Faults.{both, made}
use Rattle.job_reader.specs.Words.{Word, Words, begins_number, numbered, declared_at, name_at, index_word, index_of, in_index, noted}
use Rattle.job_reader.specs.Exprs.{Names, cell_parts, cell_at, cell_from, cell_of, has_bracket, operand_of, operator_of, expr_of, two, in_parts, in_operand, in_expr}
use Rattle.job_reader.specs.declared.lines.Keyword.{Keyword}
use Rattle.job_reader.specs.declared.lines.Keyword.TheVariants.{Let, Put, Print, Spawn, Sync, Stop, If, Else, While, End}
use Rattle.job_reader.specs.Lines.{is_equals, body_at, let_line, put_line, spawn_line, alone, else_of, line_behind, mentions_behind}
use Rattle.job_reader.proofs.SaidLemmas.{made-ok, both-ok, and-true, below-true, declared-said, cell-said, all-both}
use Rattle.job_reader.proofs.GrowLemmas.{noted-grows}
use Rattle.job_reader.proofs.WrittenExprs.{cell-bracket}
use Rattle.job_reader.proofs.NotedNames.{firsts-noted}
use Rattle.job_reader.proofs.StepCode.{step-map}

-- places of locals, by the words that mention them
abbrev Says : List Word → List Word → List ℕ → Type 0
Says locals ws is = (map (name_at locals) is ≡ ws) × (list_all (λ k. nat_lt k (length locals)) is ≡ true)

index-cases : (locals : List Word) (w : Word) (i : Index) (a b c : Bool)
    → (if a then made index.Number (numbered w) else if b then Ok index.Arg else if c then Ok index.Step
    else made index.Local (declared_at locals w))
    ≡ Ok i
    → Says locals (if a || b || c then [] else w ∷ []) (mentions.in_index i)
index-cases locals w i true b c e =
    let m = made-ok index.Number (numbered w) i e in
    subst (λ (x : Index). Says locals [] (mentions.in_index x)) m.2 (refl, refl)
index-cases locals w i false true c e = let same : index.Arg ≡ i = cc in
    subst (λ (x : Index). Says locals [] (mentions.in_index x)) same (refl, refl)
index-cases locals w i false false true e = let same : index.Step ≡ i = cc in
    subst (λ (x : Index). Says locals [] (mentions.in_index x)) same (refl, refl)
index-cases locals w i false false false e =
    let m = made-ok index.Local (declared_at locals w) i e in
    let d = declared-said locals w m.0 m.1 in
    subst (λ (x : Index). Says locals (w ∷ []) (mentions.in_index x)) m.2
    (ap (λ (x : Word). x ∷ []) d.0, and-true _ true (below-true m.0 (length locals) d.1) refl)

index-says : (locals : List Word) (w : Word) (i : Index) → index_of locals w ≡ Ok i → Says locals (in_index w) (mentions.in_index i)
unfolding index_of in_index
index-says locals w i e = index-cases locals w i (begins_number w) (bytes_eq w (codes "arg")) (bytes_eq w (codes "step")) e

cell-from-says : (s : Names) (o : Option (Word × Word)) (c : Cell) → cell_from s o ≡ Ok c
    → Says s.locals (in_parts o) (mentions.in_index c.index)
cell-from-says s None c e = absurd cc
cell-from-says s (Some p) c e =
    let m = made-ok cell_at (both (declared_at s.arrays p.0) (index_of s.locals p.1)) c e in
    let b = both-ok (declared_at s.arrays p.0) (index_of s.locals p.1) m.0 m.1 in
    subst (λ (x : Cell). Says s.locals (in_index p.1) (mentions.in_index x.index)) m.2 (index-says s.locals p.1 m.0.1 b.1)

cell-says : (s : Names) (w : Word) (c : Cell) → cell_of s w ≡ Ok c → Says s.locals (in_parts (cell_parts w)) (mentions.in_index c.index)
unfolding cell_of
cell-says s w c e = cell-from-says s (cell_parts w) c e

operand-cases : (s : Names) (w : Word) (o : Operand) (b : Bool)
    → (if b then made operand.Cell (cell_of s w) else made operand.Plain (index_of s.locals w)) ≡ Ok o
    → Says s.locals (if b then in_parts (cell_parts w) else in_index w) (mentions.in_operand o)
operand-cases s w o true e =
    let m = made-ok operand.Cell (cell_of s w) o e in
    subst (λ (x : Operand). Says s.locals (in_parts (cell_parts w)) (mentions.in_operand x)) m.2 (cell-says s w m.0 m.1)
operand-cases s w o false e =
    let m = made-ok operand.Plain (index_of s.locals w) o e in
    subst (λ (x : Operand). Says s.locals (in_index w) (mentions.in_operand x)) m.2 (index-says s.locals w m.0 m.1)

operand-says : (s : Names) (w : Word) (o : Operand) → operand_of s w ≡ Ok o → Says s.locals (in_operand w) (mentions.in_operand o)
unfolding operand_of in_operand
operand-says s w o e = operand-cases s w o (has_bracket w) e

-- a cell has a bracket
put-says : (s : Names) (w : Word) (c : Cell) → cell_of s w ≡ Ok c → Says s.locals (in_operand w) (mentions.in_index c.index)
unfolding in_operand
put-says s w c e =
    let bracket : has_bracket w ≡ true =
    ap has_bracket (cell-said s w c e).0 ∙ cell-bracket (name_at s.arrays c.array) (index_word s.locals c.index ++ 93 ∷ []) in
    subst (λ (b : Bool). Says s.locals (if b then in_parts (cell_parts w) else in_index w) (mentions.in_index c.index)) (sym bracket)
    (cell-says s w c e)

both-say : (locals vs ws : List Word) (is js : List ℕ) → Says locals vs is → Says locals ws js → Says locals (vs ++ ws) (is ++ js)
both-say locals vs ws is js x y = (
  map-append (name_at locals) is js ∙ ap (λ (t : List Word). t ++ map (name_at locals) js) x.0 ∙ ap (λ (t : List Word). vs ++ t) y.0,
  all-both (λ k. nat_lt k (length locals)) is js x.1 y.1,
)

expr-says : (s : Names) (ws : Words) (e : Expr) → expr_of s ws ≡ Ok e → Says s.locals (in_expr ws) (mentions.in_expr e)
expr-says s [] e h = absurd cc
expr-says s (a ∷ []) e h =
    let m = made-ok One (operand_of s a) e h in
    subst (λ (x : Expr). Says s.locals (in_operand a) (mentions.in_expr x)) m.2 (operand-says s a m.0 m.1)
expr-says s (a ∷ op ∷ []) e h = absurd cc
expr-says s (a ∷ op ∷ b ∷ []) e h =
    let m = made-ok two (both (both (operand_of s a) (operator_of op)) (operand_of s b)) e h in
    let outer = both-ok (both (operand_of s a) (operator_of op)) (operand_of s b) m.0 m.1 in
    let inner = both-ok (operand_of s a) (operator_of op) m.0.0 outer.0 in
    subst (λ (x : Expr). Says s.locals (in_operand a ++ in_operand b) (mentions.in_expr x)) m.2
    (both-say s.locals (in_operand a) (in_operand b) (mentions.in_operand m.0.0.0) (mentions.in_operand m.0.1)
    (operand-says s a m.0.0.0 inner.0) (operand-says s b m.0.1 outer.1))
expr-says s (a ∷ op ∷ b ∷ c ∷ ws) e h = absurd cc

test-says : (s : Names) (f : Expr → Line) (ws : Words) (l : Line) → ((e : Expr) → mentions.in_line (f e) ≡ mentions.in_expr e)
    → made f (expr_of s ws) ≡ Ok l
    → Says s.locals (in_expr ws) (mentions.in_line l)
test-says s f ws l w e =
    let m = made-ok f (expr_of s ws) l e in
    subst (λ (x : Line). Says s.locals (in_expr ws) (mentions.in_line x)) m.2
    (subst (λ (is : List ℕ). Says s.locals (in_expr ws) is) (sym (w m.0)) (expr-says s ws m.0 m.1))

alone-says : (s : Names) (x l : Line) (ws : Words) → mentions.in_line x ≡ [] → alone x ws ≡ Ok l → Says s.locals [] (mentions.in_line l)
alone-says s x l [] f e =
    let same : x ≡ l = cc in
    subst (λ (is : List ℕ). Says s.locals [] is) (sym f ∙ ap mentions.in_line same) (refl, refl)
alone-says s x l (v ∷ ws) f e = absurd cc

else-says : (s : Names) (fits : Bool) (ws : Words) (l : Line) → else_of fits ws ≡ Ok l → Says s.locals [] (mentions.in_line l)
else-says s true [] l e = let same : line.Else 0 ≡ l = cc in subst (λ (x : Line). Says s.locals [] (mentions.in_line x)) same (refl, refl)
else-says s true (w ∷ ws) l e = absurd cc
else-says s false [] l e = absurd cc
else-says s false (w ∷ ws) l e = absurd cc

line-says : (s : Names) (fits : Bool) (k : Option Keyword) (ws : Words) (l : Line) → line_behind s fits k ws ≡ Ok l
    → Says s.locals (mentions_behind k ws) (mentions.in_line l)
unfolding line_behind mentions_behind
line-says s fits None ws l e = absurd cc
line-says s fits (Some Let) [] l e = absurd cc
line-says s fits (Some Let) (w ∷ []) l e = absurd cc
line-says s fits (Some Let) (w ∷ v ∷ ws) l e =
    let m = made-ok let_line (both (both (is_equals v) (declared_at s.locals w)) (expr_of s ws)) l e in
    let outer = both-ok (both (is_equals v) (declared_at s.locals w)) (expr_of s ws) m.0 m.1 in
    let inner = both-ok (is_equals v) (declared_at s.locals w) m.0.0 outer.0 in
    let d = declared-said s.locals w m.0.0.1 inner.1 in
    subst (λ (x : Line). Says s.locals (w ∷ in_expr ws) (mentions.in_line x)) m.2
    (both-say s.locals (w ∷ []) (in_expr ws) (m.0.0.1 ∷ []) (mentions.in_expr m.0.1)
    (ap (λ (x : Word). x ∷ []) d.0, and-true _ true (below-true m.0.0.1 (length s.locals) d.1) refl) (expr-says s ws m.0.1 outer.1))
line-says s fits (Some (Put kind)) [] l e = absurd cc
line-says s fits (Some (Put kind)) (w ∷ []) l e = absurd cc
line-says s fits (Some (Put kind)) (w ∷ v ∷ ws) l e =
    let m = made-ok (put_line kind) (both (both (cell_of s w) (is_equals v)) (expr_of s ws)) l e in
    let outer = both-ok (both (cell_of s w) (is_equals v)) (expr_of s ws) m.0 m.1 in
    let inner = both-ok (cell_of s w) (is_equals v) m.0.0 outer.0 in
    subst (λ (x : Line). Says s.locals (in_operand w ++ in_expr ws) (mentions.in_line x)) m.2
    (both-say s.locals (in_operand w) (in_expr ws) (mentions.in_index m.0.0.0.index) (mentions.in_expr m.0.1)
    (put-says s w m.0.0.0 inner.0) (expr-says s ws m.0.1 outer.1))
line-says s fits (Some Print) ws l e = test-says s (λ x. line.Do (action.Print x)) ws l (λ x. refl) e
line-says s fits (Some Spawn) [] l e = absurd cc
line-says s fits (Some Spawn) (w ∷ ws) l e =
    let m = made-ok spawn_line (both (body_at s.bodies w) (expr_of s ws)) l e in
    let outer = both-ok (body_at s.bodies w) (expr_of s ws) m.0 m.1 in
    subst (λ (x : Line). Says s.locals (in_expr ws) (mentions.in_line x)) m.2 (expr-says s ws m.0.1 outer.1)
line-says s fits (Some Sync) ws l e = alone-says s (line.Do action.Sync) l ws refl e
line-says s fits (Some Stop) ws l e = alone-says s (line.Do action.Stop) l ws refl e
line-says s fits (Some If) ws l e = test-says s (λ x. line.If x 0) ws l (λ x. refl) e
line-says s fits (Some Else) ws l e = else-says s fits ws l e
line-says s fits (Some While) ws l e = test-says s (λ x. line.While x 0) ws l (λ x. refl) e
line-says s fits (Some End) ws l e = alone-says s line.EndIf l ws refl e

-- a line mentions locals that are there
pub line-below : (s : Names) (fits : Bool) (k : Option Keyword) (ws : Words) (l : Line) → line_behind s fits k ws ≡ Ok l
    → mentions.are_below (length s.locals) (mentions.in_line l) ≡ true
line-below s fits k ws l e = (line-says s fits k ws l e).1

take-front : (xs ys : List Word) → take (length xs) (xs ++ ys) ≡ xs
take-front [] ys = refl
take-front (x ∷ xs) ys = ap (λ (t : List Word). x ∷ t) (take-front xs ys)

-- a line mentions its new locals in the order in which they are noted
pub line-order : (s : Names) (ns : List Word) (fits : Bool) (k : Option Keyword) (ws : Words) (l : Line)
    → s.locals ≡ noted ns (mentions_behind k ws)
    → are_names s.locals ≡ true → line_behind s fits k ws ≡ Ok l
    → mentions.mentioned (length ns) (mentions.in_line l) ≡ Some (length s.locals)
line-order s ns fits k ws l all names e =
    let x = line-says s fits k ws l e in
    let more = noted-grows ns (mentions_behind k ws) in
    let whole : s.locals ≡ ns ++ more.0 = all ∙ more.1 in
    let front : take (length ns) s.locals ≡ ns = ap (take (length ns)) whole ∙ take-front ns more.0 in
    let capacity : length ns ≤ length s.locals = omega (arith, ap (λ (t : List Word). length t) whole, length-append ns more.0) in
    firsts-noted s.locals (mentions.in_line l) names x.1 (length ns) capacity
    (ap (λ (t : List Word). noted t (map (name_at s.locals) (mentions.in_line l))) front ∙ ap (noted ns) x.0 ∙ sym all)

mentioned-cases : (a b : Bool) (x y x' y' : Option ℕ) (m : ℕ) (r : Option ℕ) → (x ≡ Some m → x' ≡ r) → (y ≡ Some m → y' ≡ r)
    → (if a then x else if b then y else None) ≡ Some m → (if a then x' else if b then y' else None) ≡ r
mentioned-cases true b x y x' y' m r f g e = f e
mentioned-cases false true x y x' y' m r f g e = g e
mentioned-cases false false x y x' y' m r f g e = absurd cc

mentioned-behind : (k m : ℕ) (is js : List ℕ) → mentions.mentioned k is ≡ Some m → mentions.mentioned k (is ++ js) ≡ mentions.mentioned m js
mentioned-behind k m [] js e = let same : k ≡ m = cc in ap (λ (x : ℕ). mentions.mentioned x js) same
mentioned-behind k m (i ∷ is) js e =
    mentioned-cases (i == k) (nat_lt i k) _ _ _ _ m (mentions.mentioned m js) (mentioned-behind (k + 1) m is js)
    (mentioned-behind k m is js) e

abbrev joined : List (List ℕ) → List ℕ
joined [] = []
joined (x ∷ xs) = x ++ joined xs

mentions-joined : (code : List Line) → mentions.mentions code ≡ joined (map mentions.in_line code)
mentions-joined [] = refl
mentions-joined (l ∷ ls) = ap (λ (t : List ℕ). mentions.in_line l ++ t) (mentions-joined ls)

joined-one : (xs : List (List ℕ)) (x : List ℕ) → joined (xs ++ x ∷ []) ≡ joined xs ++ x
joined-one [] x = append-nil x
joined-one (y ∷ ys) x = ap (λ (t : List ℕ). y ++ t) (joined-one ys x) ∙ sym (append_assoc y (joined ys) x)

-- the open body's mentions with a line more
pub mentions-step : (l : Line) (fs : List Frame) (b : Block) (s : List Frame × Block) → step_of l fs b ≡ Some s
    → mentions.mentions (open_code s.0 s.1) ≡ mentions.mentions (open_code fs b) ++ mentions.in_line l
mentions-step l fs b s e =
    mentions-joined (open_code s.0 s.1)
    ∙ ap joined (step-map mentions.in_line (λ e n m. refl) (λ n m. refl) (λ e n m. refl) (λ e n. refl) l fs b s e)
    ∙ joined-one (map mentions.in_line (open_code fs b)) (mentions.in_line l)
    ∙ ap (λ (t : List ℕ). t ++ mentions.in_line l) (sym (mentions-joined (open_code fs b)))

-- and their order
pub order-step : (l : Line) (fs : List Frame) (b : Block) (s : List Frame × Block) (n m : ℕ) → step_of l fs b ≡ Some s
    → mentions.mentioned 0 (mentions.mentions (open_code fs b)) ≡ Some n → mentions.mentioned n (mentions.in_line l) ≡ Some m
    → mentions.mentioned 0 (mentions.mentions (open_code s.0 s.1)) ≡ Some m
order-step l fs b s n m e before here =
    ap (mentions.mentioned 0) (mentions-step l fs b s e)
    ∙ mentioned-behind 0 n (mentions.mentions (open_code fs b)) (mentions.in_line l) before ∙ here

-- A fault of a word is marked where the reader finds it.
use Rattle.std.proofs.Common.{◌≡◌, ℕ, ◌+◌, ◌==◌, inl, inr, ◌⊎◌, Bool, true, false, [], ◌∷◌, Option, Some, None, Result, Ok, Err, refl, sym, ap, subst, codes}
use Rattle.std.specs.Prelude.{if◌then◌else◌, nat_le, IsSome}
use Rattle.std.specs.Option.{option_or}
use Rattle.std.specs.Str.{bytes_eq}
use Rattle.text_lines.specs.Number.{begins_number}
use Rattle.text_lines.specs.Refusals.{code_number}
use Rattle.text_lines.specs.declared.refusal.Code.{Code}
use Rattle.text_lines.specs.declared.refusal.Code.TheVariants.{TooLong, BadByte, BadHeader, UnknownLine, BadName, BadNumber, BadLine, Twice, UnknownName, Unclosed, BadNesting, TooMany, BadLength, Reserved}
use Rattle.task_code.specs.declared.code.Operator.{Operator}
use Rattle.job_reader.specs.Exprs.{Names, cell_from, cell_of, cell_parts, expr_of, has_bracket, operand_of, operator_of}
use Rattle.job_reader.specs.Faults.{both, checked, earlier, made, rank}
use Rattle.job_reader.specs.Lines.{alone, body_at, else_of, is_equals, let_of, line_behind, put_of, spawn_of}
use Rattle.job_reader.specs.Words.{Word, Words, declared_at, index_of, named, numbered}
use Rattle.job_reader.specs.declared.lines.Keyword.TheVariants as keyword
use Rattle.superstep_memory.specs.declared.arrays.PutKind.{PutKind}
use Rattle.task_code.specs.declared.code.Action.TheVariants.{Sync, Stop}
use Rattle.task_code.specs.declared.code.Line.{Line}
use Rattle.task_code.specs.declared.code.Line.TheVariants.{Do, Else, EndIf}
use Rattle.refusal_reasons.specs.Marks.{at_fault, cell_mark, expr_mark, index_mark, let_mark, operand_mark, put_mark, spawn_mark}
use Rattle.refusal_reasons.specs.WordFaults.{WordFaultsAreMarked, is_of_word, known_of}
use Rattle.refusal_reasons.specs.declared.marks.Mark.{Mark}
use Rattle.refusal_reasons.specs.declared.marks.Part.{Part}
use Rattle.refusal_reasons.specs.declared.marks.Part.TheVariants.{Whole, Array, Index}

made-err : {A B : Type 0} (f : A → B) (r : Result A Code) (c : Code) → made f r ≡ Err c → r ≡ Err c
made-err f (Ok a) c e = absurd cc
made-err f (Err d) c e = ap (λ (x : Code). Err x) cc

picked : (a b c : Code) (x : Bool) → (if x then a else b) ≡ c → (a ≡ c) ⊎ (b ≡ c)
picked a b c true e = inl e
picked a b c false e = inr e

abbrev fail : (A : Type 0) → Code → Result A Code
fail A c = Err c

err-is : (A : Type 0) (d c : Code) → d ≡ c → fail A d ≡ fail A c
err-is A d c e = ap (fail A) e

both-err : {A B : Type 0} (x : Result A Code) (y : Result B Code) (c : Code) → both x y ≡ Err c → (x ≡ Err c) ⊎ (y ≡ Err c)
both-err {A = A} {B = B} (Ok a) (Ok b) c e = absurd cc
both-err {A = A} {B = B} (Ok a) (Err d) c e = let same : d ≡ c = cc in inr (err-is B d c same)
both-err {A = A} {B = B} (Err d) (Ok b) c e = let same : d ≡ c = cc in inl (err-is A d c same)
both-err {A = A} {B = B} (Err d) (Err h) c e =
    let same : earlier d h ≡ c = cc in
    elim (picked d h c (nat_le (rank d) (rank h)) same) [
      | inl p ↦ inl (err-is A d c p)
      | inr p ↦ inr (err-is B h c p)
    ]

left : (a b : Option Mark) → IsSome a → IsSome (option_or a b)
left None b h = absurd cc
left (Some m) b h = refl

right : (a b : Option Mark) → IsSome b → IsSome (option_or a b)
right None b h = h
right (Some m) b h = refl

same-number : (c : Code) → (code_number c == code_number c) ≡ true
same-number TooLong = refl
same-number BadByte = refl
same-number BadHeader = refl
same-number UnknownLine = refl
same-number BadName = refl
same-number BadNumber = refl
same-number BadLine = refl
same-number Twice = refl
same-number UnknownName = refl
same-number Unclosed = refl
same-number BadNesting = refl
same-number TooMany = refl
same-number BadLength = refl
same-number Reserved = refl

hit : {A : Type 0} (c : Code) (n : ℕ) (part : Part) (r : Result A Code) → r ≡ Err c → IsSome (at_fault c n part r)
hit c n part (Ok a) e = absurd cc
hit c n part (Err d) e =
    let same : d ≡ c = cc in
    subst (λ (x : Code). IsSome {T = Mark} (if code_number x == code_number c then Some (record { word = n; part = part }) else None))
    (sym same)
    (subst (λ (b : Bool). IsSome {T = Mark} (if b then Some (record { word = n; part = part }) else None)) (sym (same-number c)) refl)

not-line : (c : Code) → is_of_word c ≡ true → BadLine ≡ c → ⊥
not-line c w e = let bad : false ≡ true = subst (λ (x : Code). is_of_word x ≡ true) (sym e) w in cc

not-bad : {A : Type 0} (c : Code) → is_of_word c ≡ true → fail A BadLine ≡ fail A c → ⊥
not-bad c w e = not-line c w cc

equals-err : (b : Bool) (c : Code) → is_of_word c ≡ true → checked b BadLine ≡ Err c → ⊥
equals-err true c w e = absurd cc
equals-err false c w e = not-bad c w e

-- a test in the chain of an operator
or_else : (b : Bool) (x : Operator) (r : Result Operator Code) (c : Code) → (r ≡ Err c → ⊥) → (if b then Ok x else r) ≡ Err c → ⊥
or_else true x r c h e = absurd cc
or_else false x r c h e = h e

operator-err : (w : Word) (c : Code) → is_of_word c ≡ true → operator_of w ≡ Err c → ⊥
unfolding operator_of
operator-err w c h e =
    or_else (bytes_eq w (codes "+")) _ _ c
    (or_else (bytes_eq w (codes "-")) _ _ c
    (or_else (bytes_eq w (codes "*")) _ _ c
    (or_else (bytes_eq w (codes "/")) _ _ c
    (or_else (bytes_eq w (codes "%")) _ _ c
    (or_else (bytes_eq w (codes "<")) _ _ c
    (or_else (bytes_eq w (codes "<=")) _ _ c
    (or_else (bytes_eq w (codes "==")) _ _ c
    (or_else (bytes_eq w (codes "!=")) _ _ c
    (λ z. not-bad c h z))))))))) e

index-marked : (s : Names) (c : Code) (n : ℕ) (part : Part) (w : Word) → index_of s.locals w ≡ Err c
    → IsSome (index_mark (known_of s) c n part w)
unfolding index_of
index-marked s c n part w e = go (begins_number w) (bytes_eq w (codes "arg")) (bytes_eq w (codes "step")) refl refl refl
  where
    go : (a b d : Bool) → begins_number w ≡ a → bytes_eq w (codes "arg") ≡ b → bytes_eq w (codes "step") ≡ d
        → IsSome (index_mark (known_of s) c n part w)
    go true b d x y z = rw x (hit c n part (numbered w) (made-err _ (numbered w) c (rw x at e)))
    go false true d x y z = absurd (let bad : Ok _ ≡ Err c = rw (x, y) at e in cc)
    go false false true x y z = absurd (let bad : Ok _ ≡ Err c = rw (x, y, z) at e in cc)
    go false false false x y z =
        rw (x, y, z) (hit c n part (declared_at s.locals w) (made-err _ (declared_at s.locals w) c (rw (x, y, z) at e)))

cell-marked : (s : Names) (c : Code) (n : ℕ) (o : Option (Word × Word)) → is_of_word c ≡ true → cell_from s o ≡ Err c
    → IsSome (cell_mark (known_of s) c n o)
cell-marked s c n None h e = absurd (not-bad c h e)
cell-marked s c n (Some p) h e =
    elim
    (both-err (declared_at s.arrays p.0) (index_of s.locals p.1) c (made-err _ (both (declared_at s.arrays p.0) (index_of s.locals p.1)) c e)) [
      | inl a ↦ left _ _ (hit c n Array (declared_at s.arrays p.0) a)
      | inr i ↦ right _ _ (index-marked s c n Index p.1 i)
    ]

cell-word : (s : Names) (c : Code) (n : ℕ) (w : Word) → is_of_word c ≡ true → cell_of s w ≡ Err c
    → IsSome (cell_mark (known_of s) c n (cell_parts w))
unfolding cell_of
cell-word s c n w h e = cell-marked s c n (cell_parts w) h e

operand-marked : (s : Names) (c : Code) (n : ℕ) (w : Word) → is_of_word c ≡ true → operand_of s w ≡ Err c
    → IsSome (operand_mark (known_of s) c n w)
unfolding operand_of
operand-marked s c n w h e = go (has_bracket w) refl
  where
    go : (b : Bool) → has_bracket w ≡ b → IsSome (operand_mark (known_of s) c n w)
    go true x = rw x (cell-word s c n w h (made-err _ (cell_of s w) c (rw x at e)))
    go false x = rw x (index-marked s c n Whole w (made-err _ (index_of s.locals w) c (rw x at e)))

expr-marked : (s : Names) (c : Code) (n : ℕ) (ws : Words) → is_of_word c ≡ true → expr_of s ws ≡ Err c
    → IsSome (expr_mark (known_of s) c n ws)
expr-marked s c n [] h e = absurd (not-bad c h e)
expr-marked s c n (a ∷ []) h e = operand-marked s c n a h (made-err _ (operand_of s a) c e)
expr-marked s c n (a ∷ op ∷ []) h e = absurd (not-bad c h e)
expr-marked s c n (a ∷ op ∷ b ∷ []) h e =
    elim
    (both-err (both (operand_of s a) (operator_of op)) (operand_of s b) c (made-err _ (both (both (operand_of s a) (operator_of op)) (operand_of s b)) c e)) [
      | inl f ↦ elim (both-err (operand_of s a) (operator_of op) c f) [
        | inl x ↦ left _ _ (operand-marked s c n a h x)
        | inr o ↦ absurd (operator-err op c h o)
      ]
      | inr x ↦ right _ _ (operand-marked s c (n + 2) b h x)
    ]
expr-marked s c n (a ∷ op ∷ b ∷ d ∷ ws) h e = absurd (not-bad c h e)

let-marked : (s : Names) (c : Code) (ws : Words) → is_of_word c ≡ true → let_of s ws ≡ Err c → IsSome (let_mark (known_of s) c ws)
let-marked s c [] h e = absurd (not-bad c h e)
let-marked s c (name ∷ []) h e = absurd (not-bad c h e)
let-marked s c (name ∷ is ∷ ws) h e =
    elim
    (both-err (both (is_equals is) (declared_at s.locals name)) (expr_of s ws) c (made-err _ (both (both (is_equals is) (declared_at s.locals name)) (expr_of s ws)) c e)) [
      | inl f ↦ elim (both-err (is_equals is) (declared_at s.locals name) c f) [
        | inl q ↦ absurd (equals-err (bytes_eq is (codes "=")) c h q)
        | inr n ↦ left _ _ (hit c 1 Whole (declared_at s.locals name) n)
      ]
      | inr x ↦ right _ _ (expr-marked s c 3 ws h x)
    ]

put-marked : (s : Names) (kind : PutKind) (c : Code) (ws : Words) → is_of_word c ≡ true → put_of s kind ws ≡ Err c
    → IsSome (put_mark (known_of s) c ws)
put-marked s kind c [] h e = absurd (not-bad c h e)
put-marked s kind c (cell ∷ []) h e = absurd (not-bad c h e)
put-marked s kind c (cell ∷ is ∷ ws) h e =
    elim
    (both-err (both (cell_of s cell) (is_equals is)) (expr_of s ws) c (made-err _ (both (both (cell_of s cell) (is_equals is)) (expr_of s ws)) c e)) [
      | inl f ↦ elim (both-err (cell_of s cell) (is_equals is) c f) [
        | inl x ↦ left _ _ (cell-word s c 1 cell h x)
        | inr q ↦ absurd (equals-err (bytes_eq is (codes "=")) c h q)
      ]
      | inr x ↦ right _ _ (expr-marked s c 3 ws h x)
    ]

spawn-marked : (s : Names) (c : Code) (ws : Words) → is_of_word c ≡ true → spawn_of s ws ≡ Err c → IsSome (spawn_mark (known_of s) c ws)
spawn-marked s c [] h e = absurd (not-bad c h e)
spawn-marked s c (body ∷ ws) h e =
    elim (both-err (body_at s.bodies body) (expr_of s ws) c (made-err _ (both (body_at s.bodies body) (expr_of s ws)) c e)) [
      | inl n ↦ left _ _ (hit c 1 Whole (named body) (made-err _ (named body) c n))
      | inr x ↦ right _ _ (expr-marked s c 2 ws h x)
    ]

-- a line of one word has no fault of a word
alone-err : (l : Line) (c : Code) (ws : Words) → is_of_word c ≡ true → alone l ws ≡ Err c → ⊥
alone-err l c [] h e = absurd cc
alone-err l c (w ∷ ws) h e = not-bad c h e

nesting-err : (b : Bool) (c : Code) → is_of_word c ≡ true → checked b BadNesting ≡ Err c → ⊥
nesting-err true c h e = absurd cc
nesting-err false c h e =
    let same : BadNesting ≡ c = cc in
    let bad : false ≡ true = subst (λ (x : Code). is_of_word x ≡ true) (sym same) h in cc

else-err : (fits : Bool) (c : Code) (ws : Words) → is_of_word c ≡ true → else_of fits ws ≡ Err c → ⊥
else-err fits c ws h e =
    elim (both-err (checked fits BadNesting) (alone (Else 0) ws) c (made-err _ (both (checked fits BadNesting) (alone (Else 0) ws)) c e)) [
      | inl n ↦ nesting-err fits c h n
      | inr a ↦ alone-err (Else 0) c ws h a
    ]

pub word-faults-are-marked : WordFaultsAreMarked
unfolding line_behind
word-faults-are-marked s fits keyword.Let ws c h e = let-marked s c ws h e
word-faults-are-marked s fits (keyword.Put kind) ws c h e = put-marked s kind c ws h e
word-faults-are-marked s fits keyword.Print ws c h e = expr-marked s c 1 ws h (made-err _ (expr_of s ws) c e)
word-faults-are-marked s fits keyword.Spawn ws c h e = spawn-marked s c ws h e
word-faults-are-marked s fits keyword.Sync ws c h e = absurd (alone-err (Do Sync) c ws h e)
word-faults-are-marked s fits keyword.Stop ws c h e = absurd (alone-err (Do Stop) c ws h e)
word-faults-are-marked s fits keyword.If ws c h e = expr-marked s c 1 ws h (made-err _ (expr_of s ws) c e)
word-faults-are-marked s fits keyword.Else ws c h e = absurd (else-err fits c ws h e)
word-faults-are-marked s fits keyword.While ws c h e = expr-marked s c 1 ws h (made-err _ (expr_of s ws) c e)
word-faults-are-marked s fits keyword.End ws c h e = absurd (alone-err EndIf c ws h e)

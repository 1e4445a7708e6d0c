-- What is marked is refused when it is read by itself.
use Rattle.std.proofs.Common.{◌≡◌, ℕ, ◌+◌, ◌==◌, inl, inr, Bool, true, false, [], ◌∷◌, Option, Some, None, Result, Ok, Err, refl, sym, ap, ◌∙◌, subst, codes, arith, add-one}
use Rattle.std.specs.Prelude.{◌||◌, if◌then◌else◌, slice_get}
use Rattle.std.specs.Option.{option_or}
use Rattle.std.specs.Str.{bytes_eq}
use Rattle.std.proofs.lemmas.Bool.{eqb-true}
use Rattle.text_lines.specs.Number.{begins_number}
use Rattle.text_lines.specs.Refusals.{code_number}
use Rattle.text_lines.specs.declared.refusal.Code.{Code}
use Rattle.text_lines.specs.declared.refusal.Code.TheVariants.{TooLong, BadByte, BadHeader, UnknownLine, BadName, BadNumber, BadLine, Twice, UnknownName, Unclosed, BadNesting, TooMany, BadLength, Reserved}
use Rattle.job_reader.specs.Exprs.{cell_parts, has_bracket}
use Rattle.job_reader.specs.Words.{Word, Words, declared_at, named, numbered}
use Rattle.job_reader.specs.declared.lines.Keyword.TheVariants as keyword
use Rattle.refusal_reasons.specs.Marks.{Known, at_fault, cell_mark, expr_mark, index_mark, let_mark, local_mark, operand_mark, put_mark, spawn_mark}
use Rattle.refusal_reasons.specs.WordFaults.{IsRefused, IsRefusedPart, MarksAreRefused, MarksRefused}
use Rattle.refusal_reasons.specs.declared.marks.Mark.{Mark}
use Rattle.refusal_reasons.specs.declared.marks.Part.{Part}
use Rattle.refusal_reasons.specs.declared.marks.Part.TheVariants.{Whole, Array, Index}

abbrev back : ℕ → Code
back n =
    if n == 1 then TooLong
    else if n == 2 then BadByte
    else if n == 3 then BadHeader
    else if n == 4 then UnknownLine
    else if n == 5 then BadName
    else if n == 6 then BadNumber
    else if n == 7 then BadLine
    else if n == 8 then Twice
    else if n == 9 then UnknownName
    else if n == 10 then Unclosed
    else if n == 11 then BadNesting
    else if n == 12 then TooMany
    else if n == 13 then BadLength
    else Reserved

back-number : (c : Code) → back (code_number c) ≡ c
back-number TooLong = refl
back-number BadByte = refl
back-number BadHeader = refl
back-number UnknownLine = refl
back-number BadName = refl
back-number BadNumber = refl
back-number BadLine = refl
back-number Twice = refl
back-number UnknownName = refl
back-number Unclosed = refl
back-number BadNesting = refl
back-number TooMany = refl
back-number BadLength = refl
back-number Reserved = refl

same-code : (d c : Code) → (code_number d == code_number c) ≡ true → d ≡ c
same-code d c e = sym (back-number d) ∙ ap back (eqb-true (code_number d) (code_number c) e) ∙ back-number c

-- a part of the first of the words
fault-marked : {A : Type 0} (k : Known) (c : Code) (n : ℕ) (part : Part) (r : Result A Code) (w : Word) (ws : Words)
    → (r ≡ Err c → IsRefusedPart k c part w) → MarksRefused k c n (w ∷ ws) (at_fault c n part r)
fault-marked k c n part (Ok a) w ws h = tt
fault-marked k c n part (Err d) w ws h = go (code_number d == code_number c) refl
  where
    go : (b : Bool) → (code_number d == code_number c) ≡ b
        → MarksRefused k c n (w ∷ ws) (if b then Some (record { word = n; part = part }) else None)
    go true e = (0, w, omega arith, refl, h (ap (λ (x : Code). Err x) (same-code d c e)))
    go false e = tt

none-or : (k : Known) (c : Code) (n : ℕ) (ws : Words) (a b : Option Mark) → MarksRefused k c n ws a → MarksRefused k c n ws b
    → MarksRefused k c n ws (option_or a b)
none-or k c n ws None b x y = y
none-or k c n ws (Some m) b x y = x

-- one word further on
later : (k : Known) (c : Code) (n : ℕ) (w : Word) (ws : Words) (o : Option Mark) → MarksRefused k c (n + 1) ws o
    → MarksRefused k c n (w ∷ ws) o
later k c n w ws None x = tt
later k c n w ws (Some m) x = let e = x.2 in (x.0 + 1, x.1, omega (arith, e), got x.0 x.3, x.4)
  where
    got : (i : ℕ) → slice_get ws i ≡ Some x.1 → slice_get (w ∷ ws) (i + 1) ≡ Some x.1
    got i h = subst (λ (j : ℕ). slice_get (w ∷ ws) j ≡ Some x.1) (sym (add-one i)) h

local-marked : (k : Known) (c : Code) (n : ℕ) (w : Word) (ws : Words) → MarksRefused k c n (w ∷ ws) (local_mark k.locals c n Whole w)
local-marked k c n w ws = go k.locals refl
  where
    go : (o : Option Words) → k.locals ≡ o → MarksRefused k c n (w ∷ ws) (local_mark o c n Whole w)
    go None e = fault-marked k c n Whole (named w) w ws (λ h. inl h)
    go (Some locals) e = fault-marked k c n Whole (declared_at locals w) w ws (λ h. inr (inr (rw e h)))

-- an index, which is a part of a word or all of it
index-marked : (k : Known) (c : Code) (n : ℕ) (part : Part) (v w : Word) (ws : Words) → (IsRefused k c v → IsRefusedPart k c part w)
    → MarksRefused k c n (w ∷ ws) (index_mark k c n part v)
index-marked k c n part v w ws up = go (begins_number v) (bytes_eq v (codes "arg") || bytes_eq v (codes "step")) refl refl
  where
    by : (o : Option Words) → k.locals ≡ o → MarksRefused k c n (w ∷ ws) (local_mark o c n part v)
    by None e = fault-marked k c n part (named v) w ws (λ h. up (inl h))
    by (Some locals) e = fault-marked k c n part (declared_at locals v) w ws (λ h. up (inr (inr (rw e h))))

    go : (a b : Bool) → begins_number v ≡ a → (bytes_eq v (codes "arg") || bytes_eq v (codes "step")) ≡ b
        → MarksRefused k c n (w ∷ ws) (index_mark k c n part v)
    go true b x y = rw x (fault-marked k c n part (numbered v) w ws (λ h. up (inr (inl h))))
    go false true x y = rw (x, y) tt
    go false false x y = rw (x, y) (by k.locals refl)

cell-marked : (k : Known) (c : Code) (n : ℕ) (w : Word) (ws : Words) → MarksRefused k c n (w ∷ ws) (cell_mark k c n (cell_parts w))
cell-marked k c n w ws = go (cell_parts w) refl
  where
    go : (o : Option (Word × Word)) → cell_parts w ≡ o → MarksRefused k c n (w ∷ ws) (cell_mark k c n o)
    go None e = tt
    go (Some p) e =
        none-or k c n (w ∷ ws) _ _ (fault-marked k c n Array (declared_at k.arrays p.0) w ws (λ h. (p, e, h)))
        (index-marked k c n Index p.1 w ws (λ h. (p, e, h)))

operand-marked : (k : Known) (c : Code) (n : ℕ) (w : Word) (ws : Words) → MarksRefused k c n (w ∷ ws) (operand_mark k c n w)
operand-marked k c n w ws = go (has_bracket w) refl
  where
    go : (b : Bool) → has_bracket w ≡ b → MarksRefused k c n (w ∷ ws) (operand_mark k c n w)
    go true e = rw e (cell-marked k c n w ws)
    go false e = rw e (index-marked k c n Whole w w ws (λ h. h))

expr-marked : (k : Known) (c : Code) (n : ℕ) (ws : Words) → MarksRefused k c n ws (expr_mark k c n ws)
expr-marked k c n [] = tt
expr-marked k c n (a ∷ []) = operand-marked k c n a []
expr-marked k c n (a ∷ op ∷ []) = tt
expr-marked k c n (a ∷ op ∷ b ∷ []) =
    none-or k c n (a ∷ op ∷ b ∷ []) _ _ (operand-marked k c n a (op ∷ b ∷ []))
    (later k c n a (op ∷ b ∷ []) _ (later k c (n + 1) op (b ∷ []) _
    (subst (λ (m : ℕ). MarksRefused k c m (b ∷ []) (operand_mark k c (n + 2) b)) (omega arith) (operand-marked k c (n + 2) b []))))
expr-marked k c n (a ∷ op ∷ b ∷ d ∷ ws) = tt

let-marked : (k : Known) (c : Code) (ws : Words) → MarksRefused k c 1 ws (let_mark k c ws)
let-marked k c [] = tt
let-marked k c (name ∷ []) = tt
let-marked k c (name ∷ is ∷ ws) =
    none-or k c 1 (name ∷ is ∷ ws) _ _ (local-marked k c 1 name (is ∷ ws))
    (later k c 1 name (is ∷ ws) _ (later k c 2 is ws _ (expr-marked k c 3 ws)))

put-marked : (k : Known) (c : Code) (ws : Words) → MarksRefused k c 1 ws (put_mark k c ws)
put-marked k c [] = tt
put-marked k c (cell ∷ []) = tt
put-marked k c (cell ∷ is ∷ ws) =
    none-or k c 1 (cell ∷ is ∷ ws) _ _ (cell-marked k c 1 cell (is ∷ ws))
    (later k c 1 cell (is ∷ ws) _ (later k c 2 is ws _ (expr-marked k c 3 ws)))

spawn-marked : (k : Known) (c : Code) (ws : Words) → MarksRefused k c 1 ws (spawn_mark k c ws)
spawn-marked k c [] = tt
spawn-marked k c (body ∷ ws) =
    none-or k c 1 (body ∷ ws) _ _ (fault-marked k c 1 Whole (named body) body ws (λ h. inl h))
    (later k c 1 body ws _ (expr-marked k c 2 ws))

pub marks-are-refused : MarksAreRefused
marks-are-refused k keyword.Let ws c = let-marked k c ws
marks-are-refused k (keyword.Put kind) ws c = put-marked k c ws
marks-are-refused k keyword.Print ws c = expr-marked k c 1 ws
marks-are-refused k keyword.Spawn ws c = spawn-marked k c ws
marks-are-refused k keyword.Sync ws c = tt
marks-are-refused k keyword.Stop ws c = tt
marks-are-refused k keyword.If ws c = expr-marked k c 1 ws
marks-are-refused k keyword.Else ws c = tt
marks-are-refused k keyword.While ws c = expr-marked k c 1 ws
marks-are-refused k keyword.End ws c = tt

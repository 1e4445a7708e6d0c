-- Puts that become rows.
use Rattle.std.proofs.Common.{◌≡◌, ℕ, suc, ◌+◌, Bool, true, false, List, [], ◌∷◌, ◌++◌, ◌&&◌, length, refl, ap, ◌∙◌, arith}
use Rattle.std.specs.Prelude.{ℤ}
use Rattle.std.specs.List.{list_all}
use Rattle.std.proofs.lemmas.List.Folds.{list_all-append}
use Rattle.superstep_memory.specs.declared.arrays.Put.{Put}
use Rattle.superstep_memory.specs.declared.arrays.PutKind.TheVariants.{Set}
use Rattle.superstep_memory.specs.Rows.{row_puts}
use Rattle.bsp_steps.specs.declared.given.PutGiven.{PutGiven}
use Rattle.bsp_steps.specs.Given.{put_given}

-- a put that sets
abbrev pub set_at : ℕ → ℕ → ℤ → Put
set_at array index value = record { array = array; index = index; kind = Set; value = value }

pub row_more : (array first : ℕ) (vs : List ℤ) (v : ℤ)
    → row_puts array first (vs ++ v ∷ []) ≡ row_puts array first vs ++ set_at array (first + length vs) v ∷ []
row_more array first [] v = let e : first ≡ first + 0 = omega arith in λ i. set_at array (e i) v ∷ []
row_more array first (x ∷ vs) v =
    let e : suc first + length vs ≡ first + suc (length vs) = omega arith in
    ap (λ (ps : List Put). set_at array first x ∷ ps)
    (row_more array (suc first) vs v ∙ (λ i. row_puts array (suc first) vs ++ set_at array (e i) v ∷ []))

-- a put that is to set
pub sets_at : (p : PutGiven) (array index : ℕ) → p.adds ≡ 0 → p.array ≡ array → p.index ≡ index → put_given p ≡ set_at array index p.value
sets_at p array index a b c = kind a ∙ (λ i. set_at (b i) (c i) p.value)
  where
    kind : p.adds ≡ 0 → put_given p ≡ set_at p.array p.index p.value
    kind e = λ i. put_given (record { array = p.array; adds = e i; index = p.index; value = p.value })

-- all of a row hold, and so the rest decide
pub row_rest : (f : Put → Bool) (row rest : List Put) → list_all f row ≡ true → list_all f (row ++ rest) ≡ list_all f rest
row_rest f row rest e = list_all-append f row rest ∙ (λ i. e i && list_all f rest)

-- one more holds, and so the row decides
pub row_one : (f : Put → Bool) (row : List Put) (p : Put) → f p ≡ true → list_all f (row ++ p ∷ []) ≡ list_all f row
row_one f row p e = list_all-append f row (p ∷ []) ∙ (λ i. list_all f row && (e i && true)) ∙ and_true (list_all f row)
  where
    and_true : (t : Bool) → (t && true) ≡ t
    and_true true = refl
    and_true false = refl

-- Rows of puts.
use Rattle.std.proofs.Common.{◌≡◌, true, ℕ, zero, suc, ◌≤◌, List, [], ◌∷◌, ◌++◌, length, length-append, append_assoc, Some, None, slice_get, slice_set, map, refl, sym, ap, ◌∙◌, arith}
use Rattle.std.specs.Prelude.{ℤ}
use Rattle.std.specs.List.{AllByRecursion, list_all}
use Rattle.std.proofs.lemmas.List.{set_past}
use Rattle.std.proofs.Math.Seq.{set-append_seam}
use Rattle.std.specs.Map.{values_of}
use Rattle.indexmap.specs.IndexMap.{set_value_at}
use Rattle.superstep_memory.specs.declared.arrays.PutKind.TheVariants.{Set}
use Rattle.superstep_memory.specs.Cells.{with_place, are_distinct}
use Rattle.superstep_memory.specs.Landing.{landed, is_set}
use Rattle.superstep_memory.specs.Rows.{row_puts, row_set, with_row}
use Rattle.superstep_memory.proofs.Landed.{landed_none, landed_one}
use Rattle.superstep_memory.proofs.CellProofs.{distinct-kept, few, few-kept}

abbrev Arrays : Type 0
Arrays = List (List ℕ × List ℤ)

-- ---- in the arrays

pub row_none : (i first : ℕ) (vs : List ℤ) → with_row [] i first vs ≡ []
row_none i first [] = refl
row_none i first (v ∷ vs) = row_none i (suc first) vs

pub row_head : (a : List ℕ × List ℤ) (rest : Arrays) (first : ℕ) (vs : List ℤ)
    → with_row (a ∷ rest) zero first vs ≡ (a.0, row_set a.1 first vs) ∷ rest
row_head a rest first [] = refl
row_head a rest first (v ∷ vs) = row_head (a.0, slice_set a.1 first v) rest (suc first) vs

pub row_tail : (a : List ℕ × List ℤ) (rest : Arrays) (i first : ℕ) (vs : List ℤ)
    → with_row (a ∷ rest) (suc i) first vs ≡ a ∷ with_row rest i first vs
row_tail a rest i first [] = refl
row_tail a rest i first (v ∷ vs) = row_tail a (with_place rest i first v) i (suc first) vs

module _ {K X : Type 0} (name : K → List ℕ) (cells : X → List ℤ) where
  abbrev seen : K × X → List ℕ × List ℤ
  seen e = (name e.0, cells e.1)

  -- a row into the cells of an entry
  pub row_at : (es : List (K × X)) (i first : ℕ) (vs : List ℤ) (w x : X) → slice_get (values_of es) i ≡ Some x
      → cells w ≡ row_set (cells x) first vs
      → map (λ e. (name e.0, cells e.1)) (set_value_at es i w) ≡ with_row (map (λ e. (name e.0, cells e.1)) es) i first vs
  row_at [] i first vs w x h e = cc
  row_at (y ∷ es) zero first vs w x h e =
      let s : y.1 ≡ x = cc in
      (λ j. (name y.0, (e ∙ ap (λ z. row_set (cells z) first vs) (sym s)) j) ∷ map (λ e. (name e.0, cells e.1)) es)
      ∙ sym (row_head (name y.0, cells y.1) (map (λ e. (name e.0, cells e.1)) es) first vs)
  row_at (y ∷ es) (suc i) first vs w x h e =
      ap (λ z. (name y.0, cells y.1) ∷ z) (row_at es i first vs w x h e)
      ∙ sym (row_tail (name y.0, cells y.1) (map (λ e. (name e.0, cells e.1)) es) i first vs)

  -- a row into no entry
  pub row_nowhere : (es : List (K × X)) (i first : ℕ) (vs : List ℤ) → slice_get (values_of es) i ≡ None
      → map (λ e. (name e.0, cells e.1)) es ≡ with_row (map (λ e. (name e.0, cells e.1)) es) i first vs
  row_nowhere [] i first vs h = sym (row_none i first vs)
  row_nowhere (y ∷ es) zero first vs h = cc
  row_nowhere (y ∷ es) (suc i) first vs h =
      ap (λ z. (name y.0, cells y.1) ∷ z) (row_nowhere es i first vs h)
      ∙ sym (row_tail (name y.0, cells y.1) (map (λ e. (name e.0, cells e.1)) es) i first vs)

pub row_distinct : (xs : Arrays) (i first : ℕ) (vs : List ℤ) → are_distinct (with_row xs i first vs) ≡ are_distinct xs
row_distinct xs i first [] = refl
row_distinct xs i first (v ∷ vs) = row_distinct (with_place xs i first v) i (suc first) vs ∙ distinct-kept xs i first v

pub row_few : (xs : Arrays) (i first : ℕ) (vs : List ℤ) → AllByRecursion few xs → AllByRecursion few (with_row xs i first vs)
row_few xs i first [] h = h
row_few xs i first (v ∷ vs) h = row_few (with_place xs i first v) i (suc first) vs (few-kept xs i first v h)

-- ---- in cells

-- a row that begins past the end
pub row_past : (cells : List ℤ) (first : ℕ) (vs : List ℤ) → length cells ≤ first → row_set cells first vs ≡ cells
row_past cells first [] le = refl
row_past cells first (v ∷ vs) le =
    let e : slice_set cells first v ≡ cells = set_past cells first v le in
    ap (λ (cs : List ℤ). row_set cs (suc first) vs) e ∙ row_past cells (suc first) vs (omega (arith, le))

-- a row in place of as many cells
pub row_within : (front cells back vs : List ℤ) → length cells ≡ length vs
    → row_set (front ++ (cells ++ back)) (length front) vs ≡ front ++ (vs ++ back)
row_within front [] back [] l = refl
row_within front [] back (v ∷ vs) l = absurd (omega (arith, l))
row_within front (c ∷ cells) back [] l = absurd (omega (arith, l))
row_within front (c ∷ cells) back (v ∷ vs) l =
    ap (λ (cs : List ℤ). row_set cs (suc (length front)) vs)
    (set-append_seam front c (cells ++ back) v ∙ sym (append_assoc front (v ∷ []) (cells ++ back)))
    ∙ ap (λ (n : ℕ). row_set ((front ++ v ∷ []) ++ (cells ++ back)) n vs) (sym one_more)
    ∙ row_within (front ++ v ∷ []) cells back vs (omega (arith, l))
    ∙ append_assoc front (v ∷ []) (vs ++ back)
  where
    one_more : length (front ++ v ∷ []) ≡ suc (length front)
    one_more = let n = length-append front (v ∷ []) in omega (arith, n)

-- ---- landing

pub landed_row : (xs : Arrays) (array first : ℕ) (vs : List ℤ) → landed (row_puts array first vs) xs ≡ with_row xs array first vs
landed_row xs array first [] = landed_none xs
landed_row xs array first (v ∷ vs) =
    landed_one (record { array = array; index = first; kind = Set; value = v }) (row_puts array (suc first) vs) xs
    ∙ landed_row (with_place xs array first v) array (suc first) vs

pub sets_row : (array first : ℕ) (vs : List ℤ) → list_all is_set (row_puts array first vs) ≡ true
sets_row array first [] = refl
sets_row array first (v ∷ vs) = sets_row array (suc first) vs

pub row_count : (array first : ℕ) (vs : List ℤ) → length (row_puts array first vs) ≡ length vs
row_count array first [] = refl
row_count array first (v ∷ vs) = ap suc (row_count array (suc first) vs)

-- A test of each element, one element after another.
use Rattle.std.proofs.Common.{
  ◌≡◌,
  ℕ,
  zero,
  suc,
  ◌+◌,
  ◌≤◌,
  Bool,
  true,
  false,
  List,
  [],
  ◌∷◌,
  length,
  drop,
  Some,
  None,
  refl,
  ap,
  sym,
  ◌∙◌,
  arith,
  add-one,
}
use Rattle.std.specs.Prelude.{slice_get, ◌&&◌}
use Rattle.std.specs.List.{list_all}

module _ {X : Type 0} (p : X → Bool) where
  all-at : (xs : List X) (i : ℕ) (x : X) → slice_get xs i ≡ Some x → list_all p (drop i xs) ≡ (p x && list_all p (drop (suc i) xs))
  all-at [] i x h = absurd cc
  all-at (y ∷ ys) zero x h = let same : y ≡ x = cc in ap (λ (z : X). p z && list_all p ys) same
  all-at (y ∷ ys) (suc i) x h = all-at ys i x h

  pub all-next : (xs : List X) (i : ℕ) (x : X) → Some x ≡ slice_get xs i → p x ≡ true
      → list_all p (drop i xs) ≡ list_all p (drop (i + 1) xs)
  all-next xs i x h t =
      all-at xs i x (sym h) ∙ ap (λ (b : Bool). b && list_all p (drop (suc i) xs)) t
      ∙ ap (λ (k : ℕ). list_all p (drop k xs)) (sym (add-one i))

  pub all-not : (xs : List X) (i : ℕ) (x : X) → Some x ≡ slice_get xs i → p x ≡ false → list_all p (drop i xs) ≡ false
  all-not xs i x h t = all-at xs i x (sym h) ∙ ap (λ (b : Bool). b && list_all p (drop (suc i) xs)) t

  none-left : (xs : List X) (i : ℕ) → slice_get xs i ≡ None → list_all p (drop i xs) ≡ true
  none-left [] zero h = refl
  none-left [] (suc i) h = refl
  none-left (x ∷ xs) zero h = absurd cc
  none-left (x ∷ xs) (suc i) h = none-left xs i h

  pub all-end : (xs : List X) (i : ℕ) → length xs ≤ i → list_all p (drop i xs) ≡ true
  all-end [] zero h = refl
  all-end [] (suc i) h = refl
  all-end (x ∷ xs) zero h = absurd (omega arith)
  all-end (x ∷ xs) (suc i) h = all-end xs i (omega arith)

  none-behind : (xs : List X) (i : ℕ) → slice_get xs i ≡ None → slice_get xs (suc i) ≡ None
  none-behind [] i h = refl
  none-behind (x ∷ xs) zero h = absurd cc
  none-behind (x ∷ xs) (suc i) h = none-behind xs i h

  pub all-none : (xs : List X) (i : ℕ) → None ≡ slice_get xs i → list_all p (drop i xs) ≡ list_all p (drop (i + 1) xs)
  all-none xs i h =
      none-left xs i (sym h) ∙ sym (none-left xs (suc i) (none-behind xs i (sym h)))
      ∙ ap (λ (k : ℕ). list_all p (drop k xs)) (sym (add-one i))

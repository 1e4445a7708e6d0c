-- What a test keeps of the numbers in a row.
use Rattle.std.proofs.Common.{◌≡◌, ℕ, zero, suc, ◌+◌, ◌<◌, ◌≤◌, Bool, true, false, cond, List, [], ◌∷◌, ◌++◌, length, get_or, refl, sym, ap, ◌∙◌, arith, add-one, append-nil, inl, inr}
use Rattle.std.proofs.lemmas.Bool.{cond_both, and_parts, and_from, cases_eq}
use Rattle.std.proofs.lemmas.List.Elements.{filter-append}
use Rattle.std.specs.List.{Contains, filter, list_all, range_with_len}
use Rattle.std.specs.List.Sorted.{IsStrictlyIncreasing}

-- x is one of n numbers from a on, and passes
pub record IsKept (p : ℕ → Bool) (a n x : ℕ) : Type 0 where
  pub from : a ≤ x
  pub below : x < a + n
  pub passes : p x ≡ true

all_of_cons : (Q : ℕ → Type 0) (a : ℕ) (xs : List ℕ) → Q a → ((k : ℕ) → k < length xs → Q (get_or xs k 0)) → (k : ℕ) → k < length (a ∷ xs)
    → Q (get_or (a ∷ xs) k 0)
all_of_cons Q a xs here rest zero h = here
all_of_cons Q a xs here rest (suc k) h = rest k (omega arith)

pub kept : (p : ℕ → Bool) (n a : ℕ) → (k : ℕ) → k < length (filter p (range_with_len a n))
    → IsKept p a n (get_or (filter p (range_with_len a n)) k 0)
kept p zero a = λ k h. absurd (omega arith)
kept p (suc n) a =
    let G : List ℕ = filter p (range_with_len (a + 1) n) in
    let after : (k : ℕ) → k < length G → IsKept p a (suc n) (get_or G k 0) =
    (λ k h. let i = kept p n (a + 1) k h in record { from = omega (arith, i.from); below = omega (arith, i.below); passes = i.passes }) in
    cond_both (p a) (a ∷ G) G (λ F. (k : ℕ) → k < length F → IsKept p a (suc n) (get_or F k 0))
    (λ holds. all_of_cons (IsKept p a (suc n)) a G (record { from = omega arith; below = omega arith; passes = holds }) after)
    (λ fails. after)

rising_cons : (a : ℕ) (xs : List ℕ) → ((k : ℕ) → k < length xs → a < get_or xs k 0) → IsStrictlyIncreasing xs
    → IsStrictlyIncreasing (a ∷ xs)
rising_cons a xs low rest zero h = low 0 (omega arith)
rising_cons a xs low rest (suc k) h = rw add-one (let r = rest k (omega arith) in rw add-one at r)

pub kept_rise : (p : ℕ → Bool) (n a : ℕ) → IsStrictlyIncreasing (filter p (range_with_len a n))
kept_rise p zero a = λ k h. absurd (omega arith)
kept_rise p (suc n) a =
    let G : List ℕ = filter p (range_with_len (a + 1) n) in
    cond_both (p a) (a ∷ G) G IsStrictlyIncreasing
    (λ holds. rising_cons a G (λ k h. let i = kept p n (a + 1) k h in omega (arith, i.from)) (kept_rise p n (a + 1)))
    (λ fails. kept_rise p n (a + 1))

pub contains_cons : (a x : ℕ) (xs : List ℕ) → Contains xs x → Contains (a ∷ xs) x
contains_cons a x xs found = (suc found.0, omega (arith, found.1), found.2)

pub contains_kept : (p : ℕ → Bool) (n a x : ℕ) → a ≤ x → x < a + n → p x ≡ true → Contains (filter p (range_with_len a n)) x
contains_kept p zero a x from below passes = absurd (omega arith)
contains_kept p (suc n) a x from below passes =
    let G : List ℕ = filter p (range_with_len (a + 1) n) in
    elim (cases_eq a x) [
      | inl same ↦ cond_both (p a) (a ∷ G) G (λ F. Contains F x) (λ holds. (0, omega arith, same)) (λ fails. let e = ap p same in cc)
      | inr other ↦
          let below_one : x < a + 1 + n = omega arith in
          let there = contains_kept p n (a + 1) x (omega arith) below_one passes in
          cond_both (p a) (a ∷ G) G (λ F. Contains F x) (λ holds. contains_cons a x G there) (λ fails. there)
    ]

pub all_pass : (p : ℕ → Bool) (n a : ℕ) → ((x : ℕ) → a ≤ x → x < a + n → p x ≡ true) → list_all p (range_with_len a n) ≡ true
all_pass p zero a each = refl
all_pass p (suc n) a each =
    and_from (p a) _ (each a (omega arith) (omega arith)) (all_pass p n (a + 1) (λ x from below. each x (omega arith) (omega arith)))

pub each_passes : (p : ℕ → Bool) (n a : ℕ) → list_all p (range_with_len a n) ≡ true → (x : ℕ) → a ≤ x → x < a + n → p x ≡ true
each_passes p zero a all x from below = absurd (omega arith)
each_passes p (suc n) a all x from below =
    let parts = and_parts (p a) (list_all p (range_with_len (a + 1) n)) all in
    elim (cases_eq a x) [
      | inl same ↦ let e = ap p same in cc (e, parts.0)
      | inr other ↦ each_passes p n (a + 1) parts.1 x (omega arith) (omega arith)
    ]

pub range_more : (n a last : ℕ) → a + n ≡ last → range_with_len a (suc n) ≡ range_with_len a n ++ (last ∷ [])
range_more zero a last e = let same : a ≡ last = omega arith in ap (λ x. x ∷ []) same
range_more (suc n) a last e = ap (λ xs. a ∷ xs) (range_more n (a + 1) last (omega arith))

next_kept : (p : ℕ → Bool) (n : ℕ) → filter p (range_with_len 0 (n + 1)) ≡ filter p (range_with_len 0 n) ++ cond (p n) (n ∷ []) []
next_kept p n =
    ap (λ k. filter p (range_with_len 0 k)) (add-one n) ∙ ap (filter p) (range_more n 0 n (omega arith))
    ∙ filter-append p (range_with_len 0 n) (n ∷ [])

-- one more number, if it passes and if it doesn't
pub keeps_next : (p : ℕ → Bool) (xs : List ℕ) (n : ℕ) → p n ≡ true → xs ≡ filter p (range_with_len 0 n)
    → xs ++ (n ∷ []) ≡ filter p (range_with_len 0 (n + 1))
keeps_next p xs n passes so_far =
    ap (λ l. l ++ (n ∷ [])) so_far ∙ ap (λ b. filter p (range_with_len 0 n) ++ cond b (n ∷ []) []) (sym passes) ∙ sym (next_kept p n)

pub drops_next : (p : ℕ → Bool) (xs : List ℕ) (n : ℕ) → p n ≡ false → xs ≡ filter p (range_with_len 0 n)
    → xs ≡ filter p (range_with_len 0 (n + 1))
drops_next p xs n fails so_far =
    so_far ∙ sym (append-nil (filter p (range_with_len 0 n)))
    ∙ ap (λ b. filter p (range_with_len 0 n) ++ cond b (n ∷ []) []) (sym fails) ∙ sym (next_kept p n)

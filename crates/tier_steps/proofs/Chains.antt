-- What the root counts, and what the tiers below it count.
use Rattle.std.proofs.Common.{◌≡◌, ℕ, zero, suc, ◌<◌, ◌≤◌, false, cond, eqb, List, [], ◌∷◌, length, get_or, refl, ◌∙◌, ap, arith}
use Rattle.std.specs.Prelude.{sum_by}
use Rattle.std.specs.List.{AllByRecursion}
use Rattle.std.proofs.lemmas.List.Sums.{sum_by-cons}
use Rattle.std.proofs.lemmas.Bool.{eq-eqb}
use Rattle.tier_steps.specs.Word.{Fields}
use Rattle.tier_steps.specs.View.{View, parent_of}
use Rattle.tier_steps.specs.Tally.{IsShape, blank, word_at, counted, children_among, children, Balances}

among_counts : (f : Fields → ℕ) (u : ℕ) (ps : List ℕ) (ws : List Fields) (i : ℕ) → i < length ps → i < length ws → get_or ps i 0 ≡ u
    → counted f (get_or ws i blank) ≤ children_among f u ps ws
among_counts f u [] ws i h k e = absurd (omega arith)
among_counts f u (p ∷ ps) [] i h k e = absurd (omega arith)
among_counts f u (p ∷ ps) (w ∷ ws) zero h k e = let a : cond (eqb p u) (counted f w) 0 ≡ counted f w =
    ap (λ b. cond b (counted f w) 0) (eq-eqb p u e) in omega arith
among_counts f u (p ∷ ps) (w ∷ ws) (suc i) h k e = let a = among_counts f u ps ws i (omega arith) (omega arith) e in omega arith

-- a child that counts something is counted at its parent
pub child_counts : (f : Fields → ℕ) (ps : List ℕ) (ws : List Fields) (t : ℕ) → 0 < t → t < length ps → t < length ws
    → counted f (word_at ws t) ≤ children f (parent_of ps t) ps ws
child_counts f [] ws t h k l = absurd (omega arith)
child_counts f (p ∷ ps) [] t h k l = absurd (omega arith)
child_counts f (p ∷ ps) (w ∷ ws) zero h k l = absurd (omega arith)
child_counts f (p ∷ ps) (w ∷ ws) (suc t) h k l = among_counts f (get_or ps t 0) ps ws t (omega arith) (omega arith) refl

bit_zero : (n : ℕ) → cond {A = ℕ} (eqb n 0) 0 1 ≡ 0 → n ≡ 0
bit_zero n e = grind arith

uncounted : (f : Fields → ℕ) (w : Fields) → counted f w ≡ 0 → f w ≡ 0
uncounted f w e = bit_zero (f w) e

-- If the root counts nothing, no tier does, and no token anywhere.
pub nothing_below : (f : Fields → ℕ) (share : ℕ → View → ℕ) (ps : List ℕ) (ws : List Fields) (vs : List View) → IsShape ps
    → length ws ≡ length ps
    → (word_at ws 0).ended ≡ false → Balances f share ps ws vs → f (word_at ws 0) ≡ 0 → (n t : ℕ) → t < n → t < length ws
    → f (word_at ws t) ≡ 0
nothing_below f share ps ws vs shape long going balance root zero t h k = absurd (omega arith)
nothing_below f share ps ws vs shape long going balance root (suc n) zero h k = root
nothing_below f share ps ws vs shape long going balance root (suc n) (suc t) h k =
    let above : parent_of ps (suc t) < suc t = shape.earlier (suc t) (omega arith) (omega arith) in
    let none : f (word_at ws (parent_of ps (suc t))) ≡ 0 =
    nothing_below f share ps ws vs shape long going balance root n (parent_of ps (suc t)) (omega arith) (omega arith) in
    let sum = balance (parent_of ps (suc t)) (omega arith) (λ e. going) in
    let child = child_counts f ps ws (suc t) (omega arith) (omega arith) k in
    uncounted f (word_at ws (suc t)) (omega arith)

pub sums_zero : (f : Fields → ℕ) (share : ℕ → View → ℕ) (ps : List ℕ) (ws : List Fields) (vs : List View) → (word_at ws 0).ended ≡ false
    → Balances f share ps ws vs
    → (t : ℕ) → t < length ws → f (word_at ws t) ≡ 0 → sum_by (share t) vs ≡ 0
sums_zero f share ps ws vs going balance t h e = let a = balance t h (λ z. going) in omega arith

pub zero_each : {X : Type 0} (f : X → ℕ) (xs : List X) → sum_by f xs ≡ 0 → AllByRecursion (λ x. f x ≡ 0) xs
zero_each f [] h = tt
zero_each f (x ∷ xs) h = let a = sum_by-cons f x xs in (omega arith, zero_each f xs (omega arith))

-- for each number below n, of each element
pub each_below : {X : Type 0} (P : ℕ → X → Type 0) (n : ℕ) (xs : List X) → ((t : ℕ) → t < n → AllByRecursion (P t) xs)
    → AllByRecursion (λ x. (t : ℕ) → t < n → P t x) xs
each_below P n [] h = tt
each_below P n (x ∷ xs) h = ((λ t k. (h t k).0), each_below P n xs (λ t k. (h t k).1))

pub sum_same : {X : Type 0} (f g : X → ℕ) (xs : List X) → AllByRecursion (λ x. f x ≡ g x) xs → sum_by f xs ≡ sum_by g xs
sum_same f g [] h = refl
sum_same f g (x ∷ xs) h = sum_by-cons f x xs ∙ (let a = h.0 in let b = sum_same f g xs h.1 in let c = sum_by-cons g x xs in omega arith)

pub both : {X : Type 0} (P Q : X → Type 0) (xs : List X) → AllByRecursion P xs → AllByRecursion Q xs → AllByRecursion (λ x. P x × Q x) xs
both P Q [] a b = tt
both P Q (x ∷ xs) a b = ((a.0, b.0), both P Q xs a.1 b.1)

among_same : (f g : Fields → ℕ) (u : ℕ) (ps : List ℕ) (ws : List Fields)
    → ((i : ℕ) → i < length ws → f (get_or ws i blank) ≡ g (get_or ws i blank)) → children_among f u ps ws ≡ children_among g u ps ws
among_same f g u [] ws h = refl
among_same f g u (p ∷ ps) [] h = refl
among_same f g u (p ∷ ps) (w ∷ ws) h =
    let a : counted f w ≡ counted g w = ap (λ k. cond (eqb k 0) 0 1) (h 0 (omega arith)) in
    let b = among_same f g u ps ws (λ i k. h (suc i) (omega arith)) in
    let c : cond (eqb p u) (counted f w) 0 ≡ cond (eqb p u) (counted g w) 0 = ap (λ k. cond (eqb p u) k 0) a in
    omega arith

-- measures that agree on the tiers below the root agree on the children
pub children_same : (f g : Fields → ℕ) (u : ℕ) (ps : List ℕ) (ws : List Fields)
    → ((i : ℕ) → 0 < i → i < length ws → f (word_at ws i) ≡ g (word_at ws i)) → children f u ps ws ≡ children g u ps ws
children_same f g u [] ws h = refl
children_same f g u (p ∷ ps) [] h = refl
children_same f g u (p ∷ ps) (w ∷ ws) h = among_same f g u ps ws (λ i k. h (suc i) (omega arith) (omega arith))

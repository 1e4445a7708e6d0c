-- Locals in the order of first mention are the places of the first occurrences.
use Rattle.std.proofs.Common.{◌≡◌, ℕ, zero, suc, ◌+◌, ◌≤◌, ◌<◌, Bool, true, false, not, List, [], ◌∷◌, Option, Some, None, refl, sym, ap, ◌∙◌, arith, nat_lt, nat_le, length, ⊎_elim, if◌then◌else◌}
use Rattle.std.proofs.lemmas.Grind.{common_steps}
use Rattle.std.proofs.lemmas.Bool.{eqb-true, cases_order}
use Rattle.std.specs.Prelude.{◌&&◌, ◌==◌, ◌⊎◌}
use Rattle.std.specs.List.{filter}
use Rattle.task_code.specs.Mentions.{mentioned, mentions, firsts, places}
use Rattle.task_lang.specs.Laws.{ByFirstMention}

kept : (p : ℕ → Bool) (b : Bool) (x : ℕ) (ys zs : List ℕ) → filter p ys ≡ zs
    → filter p (if b then x ∷ ys else ys) ≡ (if b && p x then x ∷ zs else zs)
kept p true x ys zs e = ap (λ (ws : List ℕ). if p x then x ∷ ws else ws) e
kept p false x ys zs e = e

-- two filters as one
fused : (p q r : ℕ → Bool) (xs : List ℕ) → ((x : ℕ) → (q x && p x) ≡ r x) → filter p (filter q xs) ≡ filter r xs
fused p q r [] h = refl
fused p q r (x ∷ xs) h =
    kept p (q x) x (filter q xs) (filter r xs) (fused p q r xs h) ∙ ap (λ (b : Bool). if b then x ∷ filter r xs else filter r xs) (h x)

all-kept : (xs : List ℕ) → filter (nat_le 0) xs ≡ xs
all-kept [] = refl
all-kept (x ∷ xs) = let here : nat_le 0 x ≡ true = grind (arith, common_steps) in
    ap (λ (b : Bool). if b then x ∷ filter (nat_le 0) xs else filter (nat_le 0) xs) here ∙ ap (λ (ws : List ℕ). x ∷ ws) (all-kept xs)

-- as many places as there are from k on, if they are in order
abbrev counted : ℕ → List ℕ → Option ℕ
counted k [] = Some k
counted k (x ∷ xs) = if x == k then counted (k + 1) xs else None

abbrev without : ℕ → ℕ → Bool
without i j = not (j == i)

past-same : (i k x : ℕ) → i ≡ k → (without i x && nat_le k x) ≡ nat_le (k + 1) x
past-same i k x e = grind (arith, common_steps)

past-below : (i k x : ℕ) → i < k → (without i x && nat_le k x) ≡ nat_le k x
past-below i k x e = grind (arith, common_steps)

known-same : (k i : ℕ) (is F : List ℕ) → i ≡ k → mentioned (k + 1) is ≡ counted (k + 1) (filter (nat_le (k + 1)) F)
    → mentioned k (i ∷ is) ≡ counted k (filter (nat_le k) (i ∷ filter (without i) F))
known-same k i is F e h =
    let G : List ℕ = filter (nat_le k) (filter (without i) F) in
    let t : (i == k) ≡ true = grind (arith, common_steps) in
    let l : nat_le k i ≡ true = grind (arith, common_steps) in
    ap (λ (b : Bool). if b then mentioned (k + 1) is else if nat_lt i k then mentioned k is else None) t ∙ h
    ∙ ap (counted (k + 1)) (sym (fused (nat_le k) (without i) (nat_le (k + 1)) F (λ x. past-same i k x e)))
    ∙ sym (ap (λ (b : Bool). if b then counted (k + 1) G else None) t)
    ∙ sym (ap (λ (b : Bool). counted k (if b then i ∷ G else G)) l)

known-below : (k i : ℕ) (is F : List ℕ) → i < k → mentioned k is ≡ counted k (filter (nat_le k) F)
    → mentioned k (i ∷ is) ≡ counted k (filter (nat_le k) (i ∷ filter (without i) F))
known-below k i is F e h =
    let G : List ℕ = filter (nat_le k) (filter (without i) F) in
    let t : (i == k) ≡ false = grind (arith, common_steps) in
    let u : nat_lt i k ≡ true = grind (arith, common_steps) in
    let l : nat_le k i ≡ false = grind (arith, common_steps) in
    ap (λ (b : Bool). if b then mentioned (k + 1) is else if nat_lt i k then mentioned k is else None) t
    ∙ ap (λ (b : Bool). if b then mentioned k is else None) u ∙ h
    ∙ ap (counted k) (sym (fused (nat_le k) (without i) (nat_le k) F (λ x. past-below i k x e)))
    ∙ sym (ap (λ (b : Bool). counted k (if b then i ∷ G else G)) l)

known-above : (k i : ℕ) (is F : List ℕ) → k < i → mentioned k (i ∷ is) ≡ counted k (filter (nat_le k) (i ∷ filter (without i) F))
known-above k i is F e =
    let G : List ℕ = filter (nat_le k) (filter (without i) F) in
    let t : (i == k) ≡ false = grind (arith, common_steps) in
    let u : nat_lt i k ≡ false = grind (arith, common_steps) in
    let l : nat_le k i ≡ true = grind (arith, common_steps) in
    ap (λ (b : Bool). if b then mentioned (k + 1) is else if nat_lt i k then mentioned k is else None) t
    ∙ ap (λ (b : Bool). if b then mentioned k is else None) u
    ∙ sym (ap (λ (b : Bool). if b then counted (k + 1) G else None) t)
    ∙ sym (ap (λ (b : Bool). counted k (if b then i ∷ G else G)) l)

-- how many locals were mentioned, by the first mentions
counted-firsts : (k : ℕ) (is : List ℕ) → mentioned k is ≡ counted k (filter (nat_le k) (firsts is))
counted-firsts k [] = refl
counted-firsts k (i ∷ is) = ⊎_elim (λ (e : i ≡ k). known-same k i is (firsts is) e (counted-firsts (k + 1) is))
    (λ (r : (i < k) ⊎ (k < i)). ⊎_elim (λ (e : i < k). known-below k i is (firsts is) e (counted-firsts k is))
    (λ (e : k < i). known-above k i is (firsts is) e) r)
    (cases_order i k)

-- what is in order is a row of places
row-of : (k n : ℕ) → counted k (places k n) ≡ Some (k + n)
row-of k zero = let e : k ≡ k + 0 = omega arith in ap (λ (m : ℕ). Some m) e
row-of k (suc n) =
    let t : (k == k) ≡ true = grind (arith, common_steps) in
    let e : k + 1 + n ≡ k + suc n = omega arith in
    ap (λ (b : Bool). if b then counted (k + 1) (places (k + 1) n) else None) t ∙ row-of (k + 1) n ∙ ap (λ (m : ℕ). Some m) e

counted-if : (b : Bool) (o : Option ℕ) (m : ℕ) → (if b then o else None) ≡ Some m → (b ≡ true) × (o ≡ Some m)
counted-if true o m h = (refl, h)
counted-if false o m h = absurd cc

counted-least : (k m : ℕ) (xs : List ℕ) → counted k xs ≡ Some m → k ≤ m
counted-least k m [] h = let e : k ≡ m = cc in omega arith
counted-least k m (x ∷ xs) h = let r : k + 1 ≤ m = counted-least (k + 1) m xs (counted-if (x == k) (counted (k + 1) xs) m h).1 in
    omega arith

is-row : (k n : ℕ) (xs : List ℕ) → counted k xs ≡ Some (k + n) → xs ≡ places k n
is-row k n [] h =
    let e : k ≡ k + n = cc in
    let z : 0 ≡ n = omega arith in
    ap (places k) z
is-row k zero (x ∷ xs) h =
    let r : k + 1 ≤ k + 0 = counted-least (k + 1) (k + 0) xs (counted-if (x == k) (counted (k + 1) xs) (k + 0) h).1 in
    absurd (omega arith)
is-row k (suc n) (x ∷ xs) h =
    let both = counted-if (x == k) (counted (k + 1) xs) (k + suc n) h in
    let same : x ≡ k = eqb-true x k both.0 in
    let e : k + suc n ≡ k + 1 + n = omega arith in
    let rest : xs ≡ places (k + 1) n = is-row (k + 1) n xs (both.1 ∙ ap (λ (m : ℕ). Some m) e) in
    ap (λ (y : ℕ). y ∷ xs) same ∙ ap (λ (ys : List ℕ). k ∷ ys) rest

pub by-first-mention : ByFirstMention
by-first-mention b =
    let is : List ℕ = mentions b.code in
    let same : mentioned 0 is ≡ counted 0 (firsts is) = counted-firsts 0 is ∙ ap (counted 0) (all-kept (firsts is)) in
    let n : length b.locals ≡ 0 + length b.locals = omega arith in (
      λ h. is-row 0 (length b.locals) (firsts is) (sym same ∙ h ∙ ap (λ (m : ℕ). Some m) n),
      λ h. same ∙ ap (counted 0) h ∙ row-of 0 (length b.locals) ∙ ap (λ (m : ℕ). Some m) (sym n),
    )

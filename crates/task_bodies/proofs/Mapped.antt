-- One cell more.
use Rattle.std.proofs.Common.{◌≡◌, ℕ, ◌+◌, ◌-◌, ◌<◌, ◌≤◌, Bool, true, false, nat_lt, List, [], ◌∷◌, ◌++◌, length, get_or, refl, sym, ap, subst, ◌∙◌, arith}
use Rattle.std.specs.Prelude.{ℤ, pos}
use Rattle.std.proofs.lemmas.Bool.Decides.{nat_tests}
use Rattle.std.proofs.lemmas.List.{get_or_append_left, length-append}
use Rattle.std.proofs.Math.Seq.{get_or-append_seam}
use Rattle.task_bodies.specs.Kernels.{IsMapped}

mapped_more : (gives : ℤ → ℤ → ℤ → ℤ → Type 0) (cells : List ℤ) (first count : ℕ) (values : List ℤ) (v : ℤ)
    → IsMapped gives cells first count values
    → gives (get_or cells (first + count) (pos 0)) (get_or cells (first + count + 1) (pos 0)) (get_or cells (first + count + 2) (pos 0)) v
    → IsMapped gives cells first (count + 1) (values ++ v ∷ [])
mapped_more gives cells first count values v h new = record {
  long = let l = length-append values (v ∷ []) in omega (arith, l, h.long);
  each = λ i lt. by i lt (nat_lt i count) refl;
}
  where
    by : (i : ℕ) → i < count + 1 → (b : Bool) → nat_lt i count ≡ b
        → gives (get_or cells (first + i) (pos 0)) (get_or cells (first + i + 1) (pos 0)) (get_or cells (first + i + 2) (pos 0))
        (get_or (values ++ v ∷ []) i (pos 0))
    by i lt true e =
        let l : i < count = grind (arith, nat_tests) in
        let m : i < length values = omega (arith, l, h.long) in
        let P : ℤ → Type 0 =
        λ z. gives (get_or cells (first + i) (pos 0)) (get_or cells (first + i + 1) (pos 0)) (get_or cells (first + i + 2) (pos 0)) z in
        subst P (sym (get_or_append_left values (v ∷ []) (pos 0) i m)) (h.each i l)
    by i lt false e =
        let l : count ≤ i = grind (arith, nat_tests) in
        let same : count ≡ i = omega (arith, l, lt) in
        let last : get_or (values ++ v ∷ []) count (pos 0) ≡ v =
        ap (λ (n : ℕ). get_or (values ++ v ∷ []) n (pos 0)) (sym h.long) ∙ get_or-append_seam values v [] (pos 0) in
        let P : ℤ → Type 0 =
        λ z. gives (get_or cells (first + count) (pos 0)) (get_or cells (first + count + 1) (pos 0))
        (get_or cells (first + count + 2) (pos 0)) z in
        let Q : ℕ → Type 0 =
        λ n. gives (get_or cells (first + n) (pos 0)) (get_or cells (first + n + 1) (pos 0)) (get_or cells (first + n + 2) (pos 0))
        (get_or (values ++ v ∷ []) n (pos 0)) in
        subst Q same (subst P (sym last) new)

pub mapped_on : (gives : ℤ → ℤ → ℤ → ℤ → Type 0) (cells : List ℤ) (first place : ℕ) (values more : List ℤ) (x y z v : ℤ) → first ≤ place
    → IsMapped gives cells first (place - first) values → gives x y z v
    → x ≡ get_or cells place (pos 0) → y ≡ get_or cells (place + 1) (pos 0) → z ≡ get_or cells (place + 2) (pos 0)
    → more ≡ values ++ v ∷ [] → IsMapped gives cells first (place + 1 - first) more
mapped_on gives cells first place values more x y z v le h new ex ey ez eq =
    let at : place ≡ first + (place - first) = omega (arith, le) in
    let up : (place - first) + 1 ≡ place + 1 - first = omega (arith, le) in
    let P : ℕ → Type 0 = λ n. gives (get_or cells n (pos 0)) (get_or cells (n + 1) (pos 0)) (get_or cells (n + 2) (pos 0)) v in
    let here : P place = (let R : ℤ → Type 0 = λ a. gives a (get_or cells (place + 1) (pos 0)) (get_or cells (place + 2) (pos 0)) v in
    let S : ℤ → Type 0 = λ a. gives x a (get_or cells (place + 2) (pos 0)) v in
    let T : ℤ → Type 0 = λ a. gives x y a v in
    subst R ex (subst S ey (subst T ez new))) in
    let Q : ℕ → Type 0 = λ n. IsMapped gives cells first n more in
    let W : List ℤ → Type 0 = λ vs. IsMapped gives cells first ((place - first) + 1) vs in
    subst Q up (subst W (sym eq) (mapped_more gives cells first (place - first) values v h (subst P at here)))

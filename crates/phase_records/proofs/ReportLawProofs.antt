-- Each superstep has its prints.
use Rattle.std.proofs.Common.{◌≡◌, ℕ, suc, ◌+◌, ◌≤◌, ◌<◌, Bool, true, false, List, [], ◌∷◌, ◌++◌, length, refl, sym, ap, ◌∙◌, subst, arith}
use Rattle.std.specs.Prelude.{if◌then◌else◌, ◌==◌}
use Rattle.std.specs.List.{flat_map}
use Rattle.phase_records.specs.declared.record.PhaseRecord.{PhaseRecord}
use Rattle.phase_records.specs.PrintValue.{PrintValue}
use Rattle.phase_records.specs.ReportText.{print_line, record_line, front_of, rest_of, steps_text}
use Rattle.phase_records.specs.ReportLaws.{AreFrom, AreWithin, of_step, each_step, EachStepHasItsPrints}

-- no print of an earlier superstep
none_of : (n m last : ℕ) (ps : List PrintValue) → n < m → AreWithin m last ps → of_step n ps ≡ []
none_of n m last [] lt h = refl
none_of n m last (p ∷ ps) lt h =
    let b : (p.step == n) ≡ false = let le = h.0 in grind arith in
    ap (λ c. if c then p ∷ of_step n ps else of_step n ps) b ∙ none_of n p.step last ps (let le = h.0 in omega arith) h.2

-- the prints in front are all of them
front_is : (n last : ℕ) (ps : List PrintValue) → AreWithin n last ps → front_of n ps ≡ of_step n ps
front_is n last [] h = refl
front_is n last (p ∷ ps) h = by (p.step == n) refl (λ e. front_is n last ps (subst (λ k. AreWithin k last ps) e h.2))
  where
    by : (b : Bool) → (p.step == n) ≡ b → (p.step ≡ n → front_of n ps ≡ of_step n ps)
        → (if b then p ∷ front_of n ps else []) ≡ (if b then p ∷ of_step n ps else of_step n ps)
    by true e more = let s : p.step ≡ n = grind arith in ap (λ qs. p ∷ qs) (more s)
    by false e more = let le = h.0 in let lt : n < p.step = grind arith in sym (none_of n p.step last ps lt h.2)

-- those behind are of later supersteps
rest_within : (n last : ℕ) (ps : List PrintValue) → AreWithin n last ps → AreWithin (suc n) last (rest_of n ps)
rest_within n last [] h = tt
rest_within n last (p ∷ ps) h = by (p.step == n) refl (λ e. rest_within n last ps (subst (λ k. AreWithin k last ps) e h.2))
  where
    by : (b : Bool) → (p.step == n) ≡ b → (p.step ≡ n → AreWithin (suc n) last (rest_of n ps))
        → AreWithin (suc n) last (if b then rest_of n ps else p ∷ ps)
    by true e more = let s : p.step ≡ n = grind arith in more s
    by false e more = let le = h.0 in let lt : suc n ≤ p.step = grind arith in (lt, h.1, h.2)

-- and have all prints of those
same_later : (n k : ℕ) (ps : List PrintValue) → n < k → of_step k (rest_of n ps) ≡ of_step k ps
same_later n k [] lt = refl
same_later n k (p ∷ ps) lt = by (p.step == n) refl (same_later n k ps lt)
  where
    by : (b : Bool) → (p.step == n) ≡ b → of_step k (rest_of n ps) ≡ of_step k ps
        → of_step k (if b then rest_of n ps else p ∷ ps) ≡ (if p.step == k then p ∷ of_step k ps else of_step k ps)
    by true e more =
        let c : (p.step == k) ≡ false = grind arith in
        more ∙ sym (ap (λ d. if d then p ∷ of_step k ps else of_step k ps) c)
    by false e more = refl

same_each : (n m : ℕ) (rs : List PhaseRecord) (ps : List PrintValue) → n < m → AreFrom m rs → each_step (rest_of n ps) rs ≡ each_step ps rs
same_each n m [] ps lt h = refl
same_each n m (r ∷ rs) ps lt h =
    let first : of_step r.phase (rest_of n ps) ≡ of_step r.phase ps = same_later n r.phase ps (subst (λ k. n < k) (sym h.0) lt) in
    let more : each_step (rest_of n ps) rs ≡ each_step ps rs = same_each n (suc m) rs ps (omega arith) h.1 in
    λ i. flat_map print_line (first i) ++ record_line r ++ more i

pub each-step-has-its-prints : EachStepHasItsPrints
each-step-has-its-prints n [] ps f w = refl
each-step-has-its-prints n (r ∷ rs) ps f w =
    let last : n + suc (length rs) ≡ suc n + length rs = omega arith in
    let within : AreWithin n (n + suc (length rs)) ps = w in
    let front : front_of r.phase ps ≡ of_step r.phase ps =
    subst (λ k. front_of k ps ≡ of_step k ps) (sym f.0) (front_is n (n + suc (length rs)) ps within) in
    let rest : AreWithin (suc n) (suc n + length rs) (rest_of r.phase ps) =
    subst (λ k. AreWithin (suc n) (suc n + length rs) (rest_of k ps)) (sym f.0)
    (subst (λ k. AreWithin (suc n) k (rest_of n ps)) last (rest_within n (n + suc (length rs)) ps within)) in
    let more : steps_text (rest_of r.phase ps) rs ≡ each_step ps rs =
    each-step-has-its-prints (suc n) rs (rest_of r.phase ps) f.1 rest
    ∙ same_each r.phase (suc n) rs ps (subst (λ k. k < suc n) (sym f.0) (omega arith)) f.1 in
    λ i. flat_map print_line (front i) ++ record_line r ++ more i

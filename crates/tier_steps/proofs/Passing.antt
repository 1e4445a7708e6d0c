-- One party of a kind of passage passes a tier: what the tier counts falls by one, and what is owed makes up for what
-- the tier passes to its parent.
use Rattle.std.proofs.Common.{◌≡◌, ℕ, zero, suc, ◌+◌, ◌<◌, Bool, true, false, cond, eqb, List, refl, sym, ◌∙◌, ap, arith}
use Rattle.tier_steps.specs.Word.{Fields, IsLegal, late, left_one}
use Rattle.tier_steps.specs.View.{Rest, Climbing, Passage, Arrival, Departure, parent_of, errand_parties, errand_late}
use Rattle.tier_steps.specs.Tally.{counted}
use Rattle.tier_steps.specs.Step.{passed, owed}
use Rattle.tier_steps.proofs.Balance.{linked}

-- 1 for a departure
abbrev pub gone : Passage → ℕ
gone Arrival = 0
gone Departure = 1

-- the phase of the tier's word doesn't change
pub phase_passed : (t : ℕ) (k : Passage) (w : Fields) → (passed t k w).phase ≡ w.phase
phase_passed t Arrival w = refl
phase_passed zero Departure w = refl
phase_passed (suc t) Departure w = refl

-- nor does its end mark
pub ended_passed : (t : ℕ) (k : Passage) (w : Fields) → (passed t k w).ended ≡ w.ended
ended_passed t Arrival w = refl
ended_passed zero Departure w = refl
ended_passed (suc t) Departure w = refl

pub passed_parties : (t : ℕ) (k : Passage) (w : Fields) → 0 < w.parties → (passed t k w).parties + gone k ≡ w.parties
passed_parties t Arrival w h = omega arith
passed_parties zero Departure w h = omega arith
passed_parties (suc t) Departure w h = omega arith

pub passed_late : (root t : ℕ) (k : Passage) (w : Fields) → IsLegal w → w.phase ≡ root → 0 < w.parties → 0 < w.unarrived
    → late root (passed t k w) + 1 ≡ late root w
passed_late root t Arrival w legal e p u = grind arith
passed_late root zero Departure w legal e p u = grind arith
passed_late root (suc t) Departure w legal e p u = grind arith

pub passed_linked_parties : (ps : List ℕ) (t : ℕ) (k : Passage) (w : Fields) (u : ℕ) → 0 < w.parties
    → errand_parties ps (owed (parent_of ps t) t k w) u + linked ps u t (counted (λ x. x.parties) (passed t k w)) ≡ linked ps u t
    (counted (λ x. x.parties) w)
passed_linked_parties ps zero k w u h = grind arith
passed_linked_parties ps (suc t) Arrival w u h = grind arith
passed_linked_parties ps (suc t) Departure w u h = grind arith

counted_late : (root : ℕ) (w : Fields) → w.phase ≡ root → 0 < w.parties → 0 < w.unarrived → counted (late root) w ≡ 1
counted_late root w e p h = grind arith

counted_left : (root : ℕ) (w : Fields) → IsLegal w → w.phase ≡ root → 0 < w.parties → 0 < w.unarrived
    → counted (late root) (left_one w) ≡ cond (eqb w.parties 1) 0 (cond (eqb w.unarrived 1) 0 1)
counted_left root w legal e p h = grind arith

left_cases : (ps : List ℕ) (p u : ℕ) (last full : Bool)
    → errand_late ps (cond last (Climbing p Departure) (cond full (Climbing p Arrival) Rest)) u + cond (eqb p u)
    (cond last 0 (cond full 0 1)) 0 ≡ cond (eqb p u) 1 0
left_cases ps p u true full = grind arith
left_cases ps p u false true = grind arith
left_cases ps p u false false = grind arith

pub passed_linked_late : (root : ℕ) (ps : List ℕ) (t : ℕ) (k : Passage) (w : Fields) (u : ℕ) → IsLegal w → w.phase ≡ root → 0 < w.parties
    → 0 < w.unarrived
    → errand_late ps (owed (parent_of ps t) t k w) u + linked ps u t (counted (late root) (passed t k w))
    ≡ linked ps u t (counted (late root) w)
passed_linked_late root ps zero k w u legal e p h = grind arith
passed_linked_late root ps (suc t) Arrival w u legal e p h = grind arith
passed_linked_late root ps (suc t) Departure w u legal e p h =
    ap (λ n. errand_late ps (owed (parent_of ps (suc t)) (suc t) Departure w) u + cond (eqb (parent_of ps (suc t)) u) n 0)
    (counted_left root w legal e p h)
    ∙ left_cases ps (parent_of ps (suc t)) u (eqb w.parties 1) (eqb w.unarrived 1)
    ∙ ap (λ n. cond (eqb (parent_of ps (suc t)) u) n 0) (sym (counted_late root w e p h))

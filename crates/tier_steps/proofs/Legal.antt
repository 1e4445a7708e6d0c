-- Legal words: at most two unarrived if there are no parties, and otherwise no more than there are parties.
use Rattle.std.proofs.Common.{◌+◌, zero, suc, Bool, ◌≡◌, ◌≢◌, ℕ, ◌<◌, ◌≤◌, ⊎_elim, cond, sym, ap, subst, arith}
use Rattle.std.proofs.lemmas.Bool.{cases_eq, eq-eqb, ne_eqb}
use Rattle.phaser_word.specs.Fields.{most_unarrived}
use Rattle.tier_steps.specs.Word.{Fields, IsLegal, next_phase_of, joined, arrived_one, left_one, left_root, advanced, refreshed, settled}
use Rattle.tier_steps.specs.View.{Passage, Arrival, Departure}
use Rattle.tier_steps.specs.Step.{passed, added, Admits}

none_most : (n : ℕ) → n ≡ 0 → most_unarrived n ≡ 2
none_most n e = ap (λ b. cond b 2 n) (eq-eqb n 0 e)

some_most : (n : ℕ) → 0 < n → most_unarrived n ≡ n
some_most n h = ap (λ b. cond b 2 n) (ne_eqb n 0 (omega arith))

pub legal_empty : (w : Fields) → IsLegal w → w.parties ≡ 0 → w.unarrived ≤ 2
legal_empty w legal e = subst (λ k. w.unarrived ≤ k) (none_most w.parties e) legal.unarrived

pub legal_open : (w : Fields) → IsLegal w → 0 < w.parties → w.unarrived ≤ w.parties
legal_open w legal h = subst (λ k. w.unarrived ≤ k) (some_most w.parties h) legal.unarrived

pub is_legal : (w : Fields) → w.phase ≤ 2147483647 → w.parties ≤ 65535
    → (w.parties ≡ 0 → w.unarrived ≤ 2) → (0 < w.parties → w.unarrived ≤ w.parties) → IsLegal w
is_legal w phase parties empty some = record {
  phase = phase;
  parties = parties;
  unarrived = ⊎_elim
      (λ (z : w.parties ≡ 0). subst (λ k. w.unarrived ≤ k) (sym (none_most w.parties z)) (empty z))
      (λ (n : w.parties ≢ 0). let h : 0 < w.parties = omega arith in subst (λ k. w.unarrived ≤ k) (sym (some_most w.parties h)) (some h))
      (cases_eq w.parties 0);
}

-- a party that passes leaves a legal word, whatever the word was
pub passed_legal : (t : ℕ) (passage : Passage) (w : Fields) → IsLegal w → IsLegal (passed t passage w)
passed_legal t Arrival w legal =
    is_legal (arrived_one w) legal.phase legal.parties (λ e. let a = legal_empty w legal e in omega arith)
    (λ h. let a = legal_open w legal h in omega arith)
passed_legal zero Departure w legal = is_legal (left_root w) legal.phase (let a = legal.parties in omega arith)
    (λ e. ⊎_elim
    (λ (z : w.parties ≡ 0). let a = legal_empty w legal z in omega arith)
    (λ (n : w.parties ≢ 0). let a = legal_open w legal (omega arith) in omega arith) (cases_eq w.parties 0))
    (λ h. let a = legal_open w legal (omega arith) in omega arith)
passed_legal (suc t) Departure w legal = is_legal (left_one w) legal.phase (let a = legal.parties in omega arith)
    (λ e. ⊎_elim
    (λ (z : w.parties ≡ 0). let a = legal_empty w legal z in grind arith)
    (λ (n : w.parties ≢ 0). let a = legal_open w legal (omega arith) in grind arith) (cases_eq w.parties 0))
    (λ h. let a = legal_open w legal (omega arith) in grind arith)

pub joined_legal : (t n : ℕ) (w : Fields) → IsLegal w → 0 < n → Admits t n w → IsLegal (joined w n)
joined_legal t n w legal some can = is_legal (joined w n) legal.phase can.capacity (λ e. absurd (omega arith))
    (λ h. ⊎_elim
    (λ (z : w.parties ≡ 0). let a : (joined w n).unarrived ≡ n = ap (λ b. cond b n (w.unarrived + n)) (eq-eqb w.parties 0 z) in omega arith)
    (λ (k : w.parties ≢ 0).
    let a : (joined w n).unarrived ≡ w.unarrived + n = ap (λ b. cond b n (w.unarrived + n)) (ne_eqb w.parties 0 k) in
    let b = legal_open w legal (omega arith) in omega arith)
    (cases_eq w.parties 0))

pub next_legal : (p : ℕ) → p ≤ 2147483647 → next_phase_of p ≤ 2147483647
next_legal p h = grind arith

pub advanced_legal : (w : Fields) (ends : Bool) → IsLegal w → IsLegal (advanced w ends)
advanced_legal w ends legal = is_legal (advanced w ends) (next_legal w.phase legal.phase) legal.parties
    (λ z. (let a : (advanced w ends).unarrived ≡ 1 = ap (λ b. cond b 1 w.parties) (eq-eqb w.parties 0 z) in omega arith))
    (λ h. (let a : (advanced w ends).unarrived ≡ w.parties = ap (λ b. cond b 1 w.parties) (ne_eqb w.parties 0 (omega arith)) in omega arith))

pub settled_legal : (w : Fields) (phase n : ℕ) → phase ≤ 2147483647 → 0 < n → n ≤ 65535 → IsLegal (settled w phase n)
settled_legal w phase n h some few = is_legal (settled w phase n) h few (λ z. absurd (omega arith)) (λ _. omega arith)

pub unclaimed_legal : (w : Fields) (n : ℕ) → IsLegal w → n ≤ 2 → IsLegal (record w { parties = 0; unarrived = n })
unclaimed_legal w n legal h =
    is_legal (record w { parties = 0; unarrived = n }) legal.phase (omega arith) (λ _. h) (λ k. absurd (omega arith))

pub added_range : (claimed size : ℕ) → 0 < size → size ≤ 65535 → (0 < added claimed size) × (added claimed size ≤ 65535)
added_range zero size h k = (h, k)
added_range (suc claimed) size h k = (omega arith, omega arith)

pub refreshed_legal : (w : Fields) (phase : ℕ) → IsLegal w → phase ≤ 2147483647 → 0 < w.parties → IsLegal (refreshed w phase)
refreshed_legal w phase legal h some = is_legal (refreshed w phase) h legal.parties (λ z. absurd (omega arith)) (λ _. omega arith)

-- What a token may know of the tally by its view and one word, and that its steps can be run.
use Rattle.std.proofs.Common.{◌≡◌, ◌≢◌, ℕ, zero, suc, ◌+◌, ◌<◌, ◌≤◌, ⊎_elim, Bool, List, length, sym, ◌∙◌, ap, subst, arith}
use Rattle.std.proofs.lemmas.Bool.{cases_eq}
use Rattle.tier_steps.specs.Word.{Fields, IsLegal}
use Rattle.tier_steps.specs.View.{View, Errand, Opening, Climbing, Passage, Arrival, Departure, Joined, parent_of, ancestor, party_share, late_share, claim_share, advance_share}
use Rattle.tier_steps.specs.Tally.{IsShape, word_at, root_phase, ErrandFits, ViewFits, is_zero}
use Rattle.tier_steps.specs.Step.{Kind, Look, Glance, Refuse, Join, Arrive, Leave, Advance, Force, Claim, Settle, SettleBack, Climb, Refresh, added, CanRefresh, claimed_before, Needs, word_after}
use Rattle.tier_steps.specs.Known.{Known, TallyIsKnown, StepsAreRunnable}
use Rattle.tier_steps.proofs.Legal.{passed_legal, joined_legal, advanced_legal, settled_legal, unclaimed_legal, refreshed_legal, added_range}
use Rattle.tier_steps.proofs.Pass.{share_fits, unarrived_is_current}
use Rattle.tier_steps.proofs.KindLaw.{mine}

pub tally_is_known : TallyIsKnown
tally_is_known ps ws front v back t h tally = record {
  root = root_phase ws;
  ended = (word_at ws 0).ended;
  root_legal = (tally.legal 0 tally.some).phase;
  legal = tally.legal t h;
  below = λ z. tally.ends t z h;
  at_root = λ z. (ap (λ k. (word_at ws k).phase) z, ap (λ k. (word_at ws k).ended) z);
  keeps_up = tally.phases t h;
  fits = mine ps ws front back v tally;
  parties = λ going. (let a = tally.parties t h going in let b = share_fits (party_share ps t) front back v in omega arith);
  unarrived =
      λ going. (let a = tally.unarrived t h going in let b = share_fits (late_share (root_phase ws) ps t) front back v in omega arith);
  claims = (let a = tally.claims t h in let b = share_fits (claim_share ps t) front back v in omega arith);
  advances = λ z going.
      (let a = tally.advances going in let b = share_fits advance_share front back v in
      let c : is_zero (word_at ws t).unarrived ≡ is_zero (word_at ws 0).unarrived = ap (λ k. is_zero (word_at ws k).unarrived) z in
      omega arith);
}

-- a path goes down by at least one at each tier below the root
pub path_falls : (ps : List ℕ) (tier above : ℕ) → IsShape ps → tier < length ps → 0 < ancestor ps tier above
    → ancestor ps tier above + above ≤ tier
path_falls ps tier zero shape place below = omega arith
path_falls ps tier (suc above) shape place below =
    ⊎_elim
    (λ (z : ancestor ps tier above ≡ 0).
    absurd (let a : parent_of ps (ancestor ps tier above) ≡ 0 = ap (parent_of ps) z ∙ shape.root in omega arith))
    (λ (n : ancestor ps tier above ≢ 0).
    let a = path_falls ps tier above shape place (omega arith) in
    let b : parent_of ps (ancestor ps tier above) < ancestor ps tier above =
    shape.earlier (ancestor ps tier above) (omega arith) (omega arith) in
    omega arith)
    (cases_eq (ancestor ps tier above) 0)

-- a token that refreshes is in the root's phase
pub refresher : (ps : List ℕ) (root : ℕ) (ended : Bool) (t : ℕ) (w : Fields) (v : View) → ViewFits ps root ended v → CanRefresh t w v
    → v.phase ≡ root
refresher ps root ended t w v fits can = ⊎_elim
    (λ own. unarrived_is_current ps root ended v fits own.2)
    (λ (climb : (k : Passage) × (v.errand ≡ Climbing t k)).
    (let fit : ErrandFits ps root v (Climbing t climb.0) = subst (λ (x : Errand). ErrandFits ps root v x) climb.1 fits.errand in fit.0))
    can.leave

step_legal : (ps : List ℕ) (t : ℕ) (w : Fields) (v : View) (kind : Kind) → Known ps t w v → Needs ps kind t w v
    → IsLegal (word_after kind t w v)
step_legal ps t w v Look known n = known.legal
step_legal ps t w v Glance known n = known.legal
step_legal ps t w v (Refuse tier claimed size) known n = known.legal
step_legal ps t w v (Join tier claimed size) known n =
    joined_legal t (added claimed size) w known.legal (added_range claimed size n.0.some n.0.few).0 n.1
step_legal ps t w v Arrive known n = passed_legal t Arrival w known.legal
step_legal ps t w v Leave known n = passed_legal t Departure w known.legal
step_legal ps t w v (Advance ends) known n = advanced_legal w ends known.legal
step_legal ps t w v Force known n = record { phase = known.legal.phase; parties = known.legal.parties; unarrived = known.legal.unarrived }
step_legal ps t w v (Claim tier claimed size) known n = unclaimed_legal w 2 known.legal (omega arith)
step_legal ps t w v (Settle tier claimed size) known n =
    let fit : ErrandFits ps known.root v (Opening tier (suc claimed) Joined size) =
    subst (λ (x : Errand). ErrandFits ps known.root v x) n.1 known.fits.errand in
    let range = added_range claimed size fit.0.some fit.0.few in
    settled_legal w v.phase (added claimed size) (subst (λ (k : ℕ). k ≤ 2147483647) (sym fit.1.phase) known.root_legal) range.0 range.1
step_legal ps t w v (SettleBack tier claimed size) known n = unclaimed_legal w 1 known.legal (omega arith)
step_legal ps t w v (Climb passage) known n = passed_legal t passage w known.legal
step_legal ps t w v Refresh known n =
    refreshed_legal w v.phase known.legal
    (subst (λ (k : ℕ). k ≤ 2147483647) (sym (refresher ps known.root known.ended t w v known.fits n)) known.root_legal) n.some

step_claims : (ps : List ℕ) (t : ℕ) (w : Fields) (v : View) (kind : Kind) → IsShape ps → Needs ps kind t w v
    → claimed_before kind < length ps
step_claims ps t w v Look shape n = shape.some
step_claims ps t w v Glance shape n = shape.some
step_claims ps t w v (Refuse tier claimed size) shape n = shape.some
step_claims ps t w v (Join tier claimed size) shape n = shape.some
step_claims ps t w v Arrive shape n = shape.some
step_claims ps t w v Leave shape n = shape.some
step_claims ps t w v (Advance ends) shape n = shape.some
step_claims ps t w v Force shape n = shape.some
step_claims ps t w v (Claim tier claimed size) shape n =
    let below : 0 < ancestor ps tier claimed = subst (λ (k : ℕ). 0 < k) n.0.here n.1.below in
    let a = path_falls ps tier claimed shape n.0.place below in let b = n.0.place in omega arith
step_claims ps t w v (Settle tier claimed size) shape n = shape.some
step_claims ps t w v (SettleBack tier claimed size) shape n = shape.some
step_claims ps t w v (Climb passage) shape n = shape.some
step_claims ps t w v Refresh shape n = shape.some

pub steps_are_runnable : StepsAreRunnable
steps_are_runnable ps t w v kind shape long known n = record {
  legal = step_legal ps t w v kind known n;
  few = (let a = known.fits.within in let b = known.fits.few in omega arith);
  claims = (let a = step_claims ps t w v kind shape n in omega arith);
}

-- What an advance finds, what holds the root in its phase, and that a quiet tree is never due.
use Rattle.std.proofs.Common.{◌≡◌, ◌≢◌, ℕ, suc, ◌+◌, ◌-◌, ◌<◌, ◌≤◌, ⊎_elim, Bool, true, false, cond, List, [], ◌∷◌, ◌++◌, length, length-set, refl, sym, ◌∙◌, ap, subst, arith, Some, None}
use Rattle.std.specs.Prelude.{sum_by, replicate, ◌&&◌}
use Rattle.std.specs.List.{AllByRecursion}
use Rattle.std.proofs.lemmas.List.Sums.{sum_by-cons}
use Rattle.std.proofs.lemmas.Bool.{cases_eq}
use Rattle.tier_steps.specs.Word.{Fields}
use Rattle.tier_steps.specs.View.{View, Errand, Rest, Opening, Climbing, Advancing, Arrival, Departure, Seeking, Joined, GoingBack, ancestor, only_at, errand_parties, errand_late, is_hidden, party_share, late_share, errand_advances, advance_share}
use Rattle.tier_steps.specs.Tally.{IsShape, word_at, root_phase, ErrandFits, ViewFits, Tallies}
use Rattle.tier_steps.specs.Step.{Kind, Look, Glance, Refuse, Join, Arrive, Leave, Advance, Force, Claim, Settle, SettleBack, Climb, Refresh, CanAdvance, Needs, word_after}
use Rattle.std.proofs.lemmas.List.{length-append, length-replicate}
use Rattle.tier_steps.specs.Due.{AdvancesAreDue, QuietIsNotDue, MembersAreSizes, UnarrivedHoldTheRoot, PhasesStay, is_advance}
use Rattle.tier_steps.proofs.Keeping.{all_here, all_map, at_each}
use Rattle.tier_steps.proofs.Pass.{only_here, only_nothing, share_fits}
use Rattle.tier_steps.proofs.Chains.{nothing_below, zero_each, each_below, both}
use Rattle.tier_steps.proofs.Advance.{all_arrived, is_done, IsDone, zero_field}
use Rattle.tier_steps.proofs.Due.{nothing_above, sum_zero}
use Rattle.tier_steps.proofs.KindLaw.{mine}
use Rattle.tier_steps.proofs.Known.{refresher}
use Rattle.tier_steps.proofs.Passing.{phase_passed}
use Rattle.tier_steps.proofs.Closing.{Ready, ready, image_due}
use Rattle.flat_phaser.specs.declared.Member.{Member}
use Rattle.flat_phaser.specs.Flat.{everyone_arrived}
use Rattle.flat_phaser.specs.Step.{newcomers}
use Rattle.tier_steps.specs.Image.{token_members, all_members, is_climbing, some_climbing}

-- if the root that hasn't ended has no parties, no token counts a party anywhere
pub no_parties : (ps : List ℕ) (ws : List Fields) (vs : List View) → IsShape ps → Tallies ps ws vs → (word_at ws 0).ended ≡ false
    → (word_at ws 0).parties ≡ 0
    → (t : ℕ) → t < length ws → sum_by (party_share ps t) vs ≡ 0
no_parties ps ws vs shape tally going none t h =
    let a = tally.parties t h (λ _. going) in
    let b = nothing_below (λ w. w.parties) (party_share ps) ps ws vs shape tally.long going tally.parties none (suc t) t (omega arith) h in
    omega arith

-- While a token counts late at some tier, no token can advance the root: its phase stays.
pub unarrived_hold_the_root : UnarrivedHoldTheRoot
unarrived_hold_the_root ps ws front v back t shape tally going h some e =
    let a = all_here (λ x. (u : ℕ) → u < length ps → late_share (root_phase ws) ps u x ≡ 0) front back v
    (all_arrived ps ws (front ++ v ∷ back) shape tally going e).tokens t h in
    let f : ⊥ = omega arith in f

hidden_zero : (b : Bool) (t u : ℕ) → cond b 0 (only_at t 0 u) ≡ 0
hidden_zero true t u = refl
hidden_zero false t u = only_nothing t u

memberless : (ps : List ℕ) (t : ℕ) {root : ℕ} (v : View) → IsDone root v → v.size ≡ 0 → party_share ps t v ≡ 0
memberless ps t v d z =
    let a = ap (λ k. cond (is_hidden v.errand) 0 (only_at v.tier k t)) z in
    let b = hidden_zero (is_hidden v.errand) v.tier t in
    let c = d.shares ps t in omega arith

-- what is known of each token if all have arrived
each_done : (ps : List ℕ) (ws : List Fields) (vs : List View) → IsShape ps → Tallies ps ws vs → (word_at ws 0).ended ≡ false
    → (word_at ws 0).unarrived ≡ 0
    → AllByRecursion (λ x. ViewFits ps (root_phase ws) (word_at ws 0).ended x × IsDone (root_phase ws) x) vs
each_done ps ws vs shape tally going due =
    let arrived = all_arrived ps ws vs shape tally going due in
    all_map (λ x. ViewFits ps (root_phase ws) (word_at ws 0).ended x × ((t : ℕ) → t < length ps → late_share (root_phase ws) ps t x ≡ 0))
    (λ x. ViewFits ps (root_phase ws) (word_at ws 0).ended x × IsDone (root_phase ws) x)
    (λ x h. (h.0, is_done ps (root_phase ws) (word_at ws 0).ended x shape shape.some h.0 h.1)) vs
    (both (ViewFits ps (root_phase ws) (word_at ws 0).ended)
    (λ x. (t : ℕ) → t < length ps → late_share (root_phase ws) ps t x ≡ 0) vs tally.fits arrived.tokens)

-- if a token is to advance the root and no token has a member, the root has no parties
pub no_members : (ps : List ℕ) (ws : List Fields) (vs : List View) → IsShape ps → Tallies ps ws vs → (word_at ws 0).ended ≡ false
    → (word_at ws 0).unarrived ≡ 0
    → AllByRecursion (λ v. v.size ≡ 0) vs → (word_at ws 0).parties ≡ 0
no_members ps ws vs shape tally going due none =
    let facts = both (λ x. ViewFits ps (root_phase ws) (word_at ws 0).ended x × IsDone (root_phase ws) x) (λ x. x.size ≡ 0) vs
    (each_done ps ws vs shape tally going due) none in
    nothing_above (λ w. w.parties) (party_share ps) ps ws vs shape tally.long going tally.parties
    (λ t h. sum_zero (party_share ps t) vs
    (all_map (λ x. (ViewFits ps (root_phase ws) (word_at ws 0).ended x × IsDone (root_phase ws) x) × (x.size ≡ 0)) (λ x. party_share ps t x ≡ 0)
    (λ x k. memberless ps t x k.0.1 k.1) vs facts))
    (length ws) 0 (omega arith) tally.some

placed_empty : (ps : List ℕ) (root : ℕ) (ended : Bool) (v : View) → ViewFits ps root ended v
    → (v.tier < length ps → only_at v.tier v.size v.tier ≡ 0) → v.size ≡ 0
placed_empty ps root ended v ok none = ⊎_elim (λ (z : v.size ≡ 0). z)
    (λ (n : v.size ≢ 0). let a = none (ok.placed (omega arith)) in let b = only_here v.tier v.size in omega arith) (cases_eq v.size 0)

-- a token that is done and counts no party anywhere has no members
empty_by : (ps : List ℕ) (root : ℕ) (ended : Bool) (v : View) (e : Errand) → v.errand ≡ e → ViewFits ps root ended v
    → ErrandFits ps root v e → IsDone root v
    → (v.tier < length ps → cond (is_hidden e) 0 (only_at v.tier v.size v.tier) + errand_parties ps e v.tier ≡ 0) → v.size ≡ 0
empty_by ps root ended v Rest q ok fit d none = placed_empty ps root ended v ok (λ h. let a = none h in omega arith)
empty_by ps root ended v Advancing q ok fit d none = placed_empty ps root ended v ok (λ h. let a = none h in omega arith)
empty_by ps root ended v (Climbing t passage) q ok fit d none = placed_empty ps root ended v ok (λ h. let a = none h in omega arith)
empty_by ps root ended v (Opening tier claimed Seeking size) q ok fit d none = fit.1
empty_by ps root ended v (Opening tier claimed GoingBack size) q ok fit d none = fit.1
empty_by ps root ended v (Opening tier claimed Joined size) q ok fit d none = absurd
    (let a : only_at (ancestor ps tier claimed) 1 (ancestor ps tier claimed) ≡ 0 =
    sym (ap (λ x. errand_late ps x (ancestor ps tier claimed)) q) ∙ d.lates ps (ancestor ps tier claimed) in
    let b = only_here (ancestor ps tier claimed) 1 in omega arith)

-- and so nobody has one
nobody : (ps : List ℕ) (ws : List Fields) (vs : List View) → IsShape ps → Tallies ps ws vs → (word_at ws 0).ended ≡ false
    → (word_at ws 0).unarrived ≡ 0
    → (word_at ws 0).parties ≡ 0 → AllByRecursion (λ v. v.size ≡ 0) vs
nobody ps ws vs shape tally going due none =
    all_map (λ x. (ViewFits ps (root_phase ws) (word_at ws 0).ended x × IsDone (root_phase ws) x) ×
    ((t : ℕ) → t < length ps → party_share ps t x ≡ 0)) (λ x. x.size ≡ 0)
    (λ x k. empty_by ps (root_phase ws) (word_at ws 0).ended x x.errand refl k.0.0 k.0.0.errand k.0.1 (λ h. k.1 x.tier h)) vs
    (both (λ x. ViewFits ps (root_phase ws) (word_at ws 0).ended x × IsDone (root_phase ws) x)
    (λ x. (t : ℕ) → t < length ps → party_share ps t x ≡ 0) vs
    (each_done ps ws vs shape tally going due)
    (each_below (λ t x. party_share ps t x ≡ 0) (length ps) vs
    (λ t h. zero_each (party_share ps t) vs (no_parties ps ws vs shape tally going none t (subst (λ (n : ℕ). t < n) (sym tally.long) h)))))

members_length : (owner : ℕ) (vs : List View) → AllByRecursion (λ v. v.arrived ≤ v.size) vs
    → length (all_members owner vs) ≡ sum_by (λ v. v.size) vs
members_length owner [] h = refl
members_length owner (v ∷ vs) h =
    let marked : List Member = replicate v.arrived (record { owner = owner; mark = Some v.phase }) in
    let others : List Member = newcomers owner (v.size - v.arrived) in
    let a = length-append (token_members owner v) (all_members (suc owner) vs) in
    let b = length-append marked others in
    let c : length marked ≡ v.arrived = length-replicate v.arrived (record { owner = owner; mark = Some v.phase }) in
    let d : length others ≡ v.size - v.arrived = length-replicate (v.size - v.arrived) (record { owner = owner; mark = None }) in
    let e = members_length (suc owner) vs h.1 in
    let f = sum_by-cons (λ (x : View). x.size) v vs in
    let g = h.0 in
    omega arith

pub members_are_sizes : MembersAreSizes
members_are_sizes ps ws vs tally =
    members_length 0 vs
    (all_map (ViewFits ps (root_phase ws) (word_at ws 0).ended) (λ v. v.arrived ≤ v.size) (λ v ok. ok.within) vs tally.fits)

pub advances_are_due : AdvancesAreDue
advances_are_due ps ws front v back t ends step =
    let vs : List View = front ++ v ∷ back in
    let can : CanAdvance (word_at ws 0) v = record {
      errand = step.needs.1.errand;
      going = ap (λ k. (word_at ws k).ended) (sym step.needs.0) ∙ step.needs.1.going;
    } in
    let r : Ready (root_phase ws) front back v = ready ps ws front back v step.shape step.tally can in
    let mine_ : advance_share v ≡ 1 = ap errand_advances can.errand in
    let due : (word_at ws 0).unarrived ≡ 0 = zero_field (word_at ws 0).unarrived
    (let a = share_fits advance_share front back v in let b = step.tally.advances can.going in omega arith) in
    let sizes = members_are_sizes ps ws vs step.tally in
    record {
      everyone = r.everyone;
      due = image_due ws front back v can.going r;
      nobody = (
        (λ none. sizes ∙ sum_zero (λ x. x.size) vs (nobody ps ws vs step.shape step.tally can.going due none)),
        (λ none. no_members ps ws vs step.shape step.tally can.going due (zero_each (λ x. x.size) vs (sym sizes ∙ none))),
      );
    }

pub resting : (vs : List View) → AllByRecursion (λ v. v.errand ≡ Rest) vs → some_climbing vs ≡ false
resting [] h = refl
resting (v ∷ vs) h = ap (λ e. cond (is_climbing e) true (some_climbing vs)) h.0 ∙ resting vs h.1

not_due : (ended everyone : Bool) → cond ended false (everyone && false) ≡ false
not_due true everyone = refl
not_due false true = refl
not_due false false = refl

pub quiet_is_not_due : QuietIsNotDue
quiet_is_not_due ws vs quiet =
    ap (λ b. cond (word_at ws 0).ended false (everyone_arrived (root_phase ws) (all_members 0 vs) && b)) (resting vs quiet)
    ∙ not_due (word_at ws 0).ended (everyone_arrived (root_phase ws) (all_members 0 vs))

after_phase : (ps : List ℕ) (root : ℕ) (ended : Bool) (kind : Kind) (t : ℕ) (w : Fields) (v : View) → ViewFits ps root ended v
    → Needs ps kind t w v
    → is_advance kind ≡ false → w.phase ≡ root → (word_after kind t w v).phase ≡ root
after_phase ps root ended Look t w v ok n a e = e
after_phase ps root ended Glance t w v ok n a e = e
after_phase ps root ended (Refuse tier claimed size) t w v ok n a e = e
after_phase ps root ended (Join tier claimed size) t w v ok n a e = e
after_phase ps root ended Arrive t w v ok n a e = phase_passed t Arrival w ∙ e
after_phase ps root ended Leave t w v ok n a e = phase_passed t Departure w ∙ e
after_phase ps root ended (Advance ends) t w v ok n a e = absurd (let f : true ≡ false = a in cc)
after_phase ps root ended Force t w v ok n a e = e
after_phase ps root ended (Claim tier claimed size) t w v ok n a e = e
after_phase ps root ended (Settle tier claimed size) t w v ok n a e =
    let fit : ErrandFits ps root v (Opening tier (suc claimed) Joined size) =
    subst (λ (x : Errand). ErrandFits ps root v x) n.1 ok.errand in fit.1.phase
after_phase ps root ended (SettleBack tier claimed size) t w v ok n a e = e
after_phase ps root ended (Climb passage) t w v ok n a e = phase_passed t passage w ∙ e
after_phase ps root ended Refresh t w v ok n a e = refresher ps root ended t w v ok n

pub phases_stay : PhasesStay
phases_stay ps ws front v back t kind u step a h e =
    at_each ws t (word_after kind t (word_at ws t) v) (λ j x. (word_at ws j).phase ≡ root_phase ws → x.phase ≡ root_phase ws) step.within
    (λ q. after_phase ps (root_phase ws) (word_at ws 0).ended kind t (word_at ws t) v (mine ps ws front back v step.tally) step.needs a q)
    (λ j l m q. q) u (subst (λ (m : ℕ). u < m) (sym (length-set ws t (word_after kind t (word_at ws t) v))) h) e

-- Each kind of step keeps the tally.
use Rattle.std.proofs.Common.{◌≡◌, ◌≢◌, ℕ, zero, suc, ◌<◌, Bool, true, false, List, ◌∷◌, ◌++◌, length, set, refl, sym, ◌∙◌, ap, subst, arith}
use Rattle.std.proofs.lemmas.List.{get_or-set_same, get_or-set_other}
use Rattle.tier_steps.specs.Word.{Fields, joined, advanced, refreshed, emptied, claimed_word, settled, forced}
use Rattle.tier_steps.specs.View.{View, Arrival, Departure, Joined, GoingBack, parent_of, ancestor}
use Rattle.tier_steps.specs.Tally.{IsShape, blank, word_at, root_phase, ViewFits, Tallies}
use Rattle.tier_steps.specs.Step.{Look, Glance, Refuse, Join, Arrive, Leave, Advance, Force, Claim, Settle, SettleBack, Climb, Refresh, passed, arrived_view, left_view, climbed_view, added, joined_view, claimed_view, settled_view, looked, refused, forced_view, CanAdvance, advanced_view}
use Rattle.tier_steps.specs.Laws.{KindsKeepTally}
use Rattle.tier_steps.proofs.Keeping.{StepFits, tally_kept, all_here, view_later}
use Rattle.tier_steps.proofs.Passing.{ended_passed}
use Rattle.tier_steps.proofs.Pass.{own_pass_fits, climb_fits}
use Rattle.tier_steps.proofs.Grow.{join_fits}
use Rattle.tier_steps.proofs.Quiet.{claim_fits, settle_fits, settle_back_fits, refresh_fits}
use Rattle.tier_steps.proofs.Looking.{look_fits, glance_fits, refuse_fits, force_fits}
use Rattle.tier_steps.proofs.Advance.{advance_tallies}

-- the token's view fits the root
pub mine : (ps : List ℕ) (ws : List Fields) (front back : List View) (v : View) → Tallies ps ws (front ++ v ∷ back)
    → ViewFits ps (root_phase ws) (word_at ws 0).ended v
mine ps ws front back v tally = all_here (ViewFits ps (root_phase ws) (word_at ws 0).ended) front back v tally.fits

-- the root's end mark after a step that changes none
pub ended_same : (ws : List Fields) (t : ℕ) (w' : Fields) → t < length ws → w'.ended ≡ (word_at ws t).ended
    → (word_at (set ws t w') 0).ended ≡ (word_at ws 0).ended
ended_same ws zero w' h e = ap (λ (x : Fields). x.ended) (get_or-set_same ws 0 w' blank h) ∙ e
ended_same ws (suc t) w' h e = let other : 0 ≢ suc t = omega arith in
    ap (λ (x : Fields). x.ended) (get_or-set_other ws (suc t) 0 w' blank other)

-- and the token's view fits it still
pub mine_after : (ps : List ℕ) (ws : List Fields) (front back : List View) (v : View) (t : ℕ) (w' : Fields) → t < length ws
    → w'.ended ≡ (word_at ws t).ended → Tallies ps ws (front ++ v ∷ back) → ViewFits ps (root_phase ws) (word_at (set ws t w') 0).ended v
mine_after ps ws front back v t w' h e tally =
    subst (λ (b : Bool). ViewFits ps (root_phase ws) b v) (sym (ended_same ws t w' h e)) (mine ps ws front back v tally)

-- a step that leaves the root's end as it was keeps the tally if it fits whatever the root's end is
kept : (ps : List ℕ) (ws : List Fields) (front back : List View) (v v' : View) (t : ℕ) (w' : Fields)
    → IsShape ps → t < length ws → Tallies ps ws (front ++ v ∷ back) → w'.ended ≡ (word_at ws t).ended
    → (ViewFits ps (root_phase ws) (word_at (set ws t w') 0).ended v
    → StepFits ps (root_phase ws) (word_at (set ws t w') 0).ended t (word_at ws t) w' v v')
    → Tallies ps (set ws t w') (front ++ v' ∷ back)
kept ps ws front back v v' t w' shape within tally ended fits =
    tally_kept ps ws front back v v' t w' shape within tally (fits (mine_after ps ws front back v t w' within ended tally))

look_keeps : (ps : List ℕ) (ws : List Fields) (front back : List View) (v : View) → IsShape ps → Tallies ps ws (front ++ v ∷ back)
    → Tallies ps (set ws 0 (word_at ws 0)) (front ++ looked (word_at ws 0) v ∷ back)
look_keeps ps ws front back v shape tally =
    tally_kept ps ws front back v (looked (word_at ws 0) v) 0 (word_at ws 0) shape tally.some tally
    (subst (λ (b : Bool). StepFits ps (root_phase ws) b 0 (word_at ws 0) (word_at ws 0) v (looked (word_at ws 0) v))
    (sym (ended_same ws 0 (word_at ws 0) tally.some refl))
    (look_fits ps ws (front ++ v ∷ back) v tally (mine ps ws front back v tally)))

refuse_keeps : (ps : List ℕ) (ws : List Fields) (front back : List View) (v : View) (t : ℕ) → IsShape ps → t < length ws
    → Tallies ps ws (front ++ v ∷ back)
    → (word_at ws t).ended ≡ false → Tallies ps (set ws t (word_at ws t)) (front ++ refused t (word_at ws t) v ∷ back)
refuse_keeps ps ws front back v t shape within tally going =
    tally_kept ps ws front back v (refused t (word_at ws t) v) t (word_at ws t) shape within tally
    (subst (λ (b : Bool). StepFits ps (root_phase ws) b t (word_at ws t) (word_at ws t) v (refused t (word_at ws t) v))
    (sym (ended_same ws t (word_at ws t) within refl))
    (refuse_fits ps ws (front ++ v ∷ back) t v within tally going (mine ps ws front back v tally)))

force_keeps : (ps : List ℕ) (ws : List Fields) (front back : List View) (v : View) → IsShape ps → Tallies ps ws (front ++ v ∷ back)
    → Tallies ps (set ws 0 (forced (word_at ws 0))) (front ++ forced_view (word_at ws 0) v ∷ back)
force_keeps ps ws front back v shape tally =
    let now : (word_at (set ws 0 (forced (word_at ws 0))) 0).ended ≡ true =
    ap (λ (x : Fields). x.ended) (get_or-set_same ws 0 (forced (word_at ws 0)) blank tally.some) in
    tally_kept ps ws front back v (forced_view (word_at ws 0) v) 0 (forced (word_at ws 0)) shape tally.some tally
    (subst (λ (b : Bool). StepFits ps (root_phase ws) b 0 (word_at ws 0) (forced (word_at ws 0)) v (forced_view (word_at ws 0) v)) (sym now)
    (force_fits ps ws (front ++ v ∷ back) v tally
    (view_later ps (root_phase ws) (word_at ws 0).ended true (λ _. refl) v (mine ps ws front back v tally))))

pub kinds_keep_tally : KindsKeepTally
kinds_keep_tally ps ws front v back t Look step =
    subst (λ (k : ℕ). Tallies ps (set ws k (word_at ws k)) (front ++ looked (word_at ws k) v ∷ back)) (sym step.needs)
    (look_keeps ps ws front back v step.shape step.tally)
kinds_keep_tally ps ws front v back t Glance step =
    kept ps ws front back v v t (word_at ws t) step.shape step.within step.tally refl
    (λ ok. glance_fits ps ws (front ++ v ∷ back) t (word_at (set ws t (word_at ws t)) 0).ended v step.within step.tally ok)
kinds_keep_tally ps ws front v back t (Refuse tier claimed size) step =
    refuse_keeps ps ws front back v t step.shape step.within step.tally step.needs.1.0
kinds_keep_tally ps ws front v back t (Join tier claimed size) step =
    let w' : Fields = joined (word_at ws t) (added claimed size) in
    kept ps ws front back v (joined_view tier claimed size (word_at ws t) v) t w' step.shape step.within step.tally refl
    (λ ok. join_fits ps ws (front ++ v ∷ back) v t tier claimed size
    (word_at (set ws t w') 0).ended step.within step.tally step.needs.0 step.needs.1 ok)
kinds_keep_tally ps ws front v back t Arrive step =
    let w' : Fields = passed t Arrival (word_at ws t) in
    kept ps ws front back v (arrived_view (parent_of ps t) t (word_at ws t) v) t w' step.shape step.within step.tally
    (ended_passed t Arrival (word_at ws t))
    (λ ok. own_pass_fits ps ws front back v t Arrival (word_at (set ws t w') 0).ended step.shape step.within step.tally step.needs ok)
kinds_keep_tally ps ws front v back t Leave step =
    let w' : Fields = passed t Departure (word_at ws t) in
    kept ps ws front back v (left_view (parent_of ps t) t (word_at ws t) v) t w' step.shape step.within step.tally
    (ended_passed t Departure (word_at ws t))
    (λ ok. own_pass_fits ps ws front back v t Departure (word_at (set ws t w') 0).ended step.shape step.within step.tally step.needs ok)
kinds_keep_tally ps ws front v back t (Advance ends) step =
    subst (λ (k : ℕ). CanAdvance (word_at ws k) v → Tallies ps (set ws k (advanced (word_at ws k) ends)) (front ++ advanced_view v ∷ back))
    (sym step.needs.0)
    (λ can. advance_tallies ps ws front back v ends step.shape step.tally can) step.needs.1
kinds_keep_tally ps ws front v back t Force step =
    subst (λ (k : ℕ). Tallies ps (set ws k (forced (word_at ws k))) (front ++ forced_view (word_at ws k) v ∷ back)) (sym step.needs)
    (force_keeps ps ws front back v step.shape step.tally)
kinds_keep_tally ps ws front v back t (Claim tier claimed size) step =
    let w' : Fields = claimed_word (word_at ws t) in
    kept ps ws front back v (claimed_view tier claimed size v) t w' step.shape step.within step.tally refl
    (λ ok. claim_fits ps ws (front ++ v ∷ back) v t tier claimed size
    (word_at (set ws t w') 0).ended step.within step.tally step.needs.0 step.needs.1 ok)
kinds_keep_tally ps ws front v back t (Settle tier claimed size) step =
    subst (λ (k : ℕ). Tallies ps (set ws k (settled (word_at ws k) v.phase (added claimed size)))
    (front ++ settled_view tier claimed Joined size v ∷ back)) (sym step.needs.0)
    (let w' : Fields = settled (word_at ws (ancestor ps tier claimed)) v.phase (added claimed size) in
    let at : ancestor ps tier claimed < length ws = subst (λ (k : ℕ). k < length ws) step.needs.0 step.within in
    kept ps ws front back v (settled_view tier claimed Joined size v) (ancestor ps tier claimed) w' step.shape at step.tally refl
    (λ ok. settle_fits ps ws front back v tier claimed size
    (word_at (set ws (ancestor ps tier claimed) w') 0).ended step.shape at step.tally step.needs.1 ok))
kinds_keep_tally ps ws front v back t (SettleBack tier claimed size) step =
    subst (λ (k : ℕ). Tallies ps (set ws k (emptied (word_at ws k))) (front ++ settled_view tier claimed GoingBack size v ∷ back))
    (sym step.needs.0)
    (let w' : Fields = emptied (word_at ws (ancestor ps tier claimed)) in
    let at : ancestor ps tier claimed < length ws = subst (λ (k : ℕ). k < length ws) step.needs.0 step.within in
    kept ps ws front back v (settled_view tier claimed GoingBack size v) (ancestor ps tier claimed) w' step.shape at step.tally refl
    (λ ok. settle_back_fits ps ws front back v tier claimed size
    (word_at (set ws (ancestor ps tier claimed) w') 0).ended at step.tally step.needs.1 ok))
kinds_keep_tally ps ws front v back t (Climb passage) step =
    let w' : Fields = passed t passage (word_at ws t) in
    kept ps ws front back v (climbed_view (parent_of ps t) t passage (word_at ws t) v) t w' step.shape step.within step.tally
    (ended_passed t passage (word_at ws t))
    (λ ok. climb_fits ps ws front back v t passage (word_at (set ws t w') 0).ended step.shape step.within step.tally step.needs ok)
kinds_keep_tally ps ws front v back t Refresh step =
    let w' : Fields = refreshed (word_at ws t) v.phase in
    kept ps ws front back v v t w' step.shape step.within step.tally refl
    (λ ok. refresh_fits ps ws v (front ++ v ∷ back) t (word_at (set ws t w') 0).ended step.within step.tally step.needs ok)

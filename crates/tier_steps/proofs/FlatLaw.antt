-- Each kind of step is the flat step of its label.
use Rattle.std.proofs.Common.{◌≡◌, ◌≢◌, ℕ, zero, suc, ◌<◌, Bool, true, false, cond, eqb, List, ◌∷◌, ◌++◌, length, set, refl, sym, ◌∙◌, ap, subst, arith, Some, None}
use Rattle.std.proofs.lemmas.List.{get_or-set_same}
use Rattle.std.proofs.lemmas.Bool.{ne_eqb}
use Rattle.tier_steps.specs.Word.{Fields, next_phase_of, joined, advanced, refreshed, emptied, claimed_word, settled, forced}
use Rattle.tier_steps.specs.View.{View, Errand, Rest, Opening, Climbing, Advancing, Arrival, Departure, OpeningStage, Seeking, Joined, GoingBack, parent_of, ancestor}
use Rattle.tier_steps.specs.Tally.{blank, word_at, root_phase, ErrandFits, ViewFits, Tallies}
use Rattle.tier_steps.specs.Step.{Kind, Look, Glance, Refuse, Join, Arrive, Leave, Advance, Force, Claim, Settle, SettleBack, Climb, Refresh, passed, CanPass, arrived_view, left_view, CanClimb, climbed_view, opening, added, IsDue, joined_view, claimed_view, settled_view, dropped, moved, is_going_back, looked, given_up, noted, refused, forced_view, CanAdvance, advanced_view, word_after, view_after}
use Rattle.tier_steps.specs.Laws.{IsStep, KindsAreFlat}
use Rattle.tier_steps.proofs.Parts.{AlikeParts, parts_of, whole_of}
use Rattle.tier_steps.proofs.Looking.{move_keeps}
use Rattle.tier_steps.proofs.Passing.{phase_passed, ended_passed}
use Rattle.tier_steps.proofs.Pass.{own_waits, stands, waiting_word, climbing_late, only_here, unarrived_is_current}
use Rattle.tier_steps.proofs.Quiet.{settle_fits, refresh_fits}
use Rattle.tier_steps.proofs.KindLaw.{kinds_keep_tally, ended_same, mine}
use Rattle.tier_steps.proofs.Label.{silent, join_label, arrive_label, leave_label, may_pass, members_change, arrived_change, here}
use Rattle.tier_steps.proofs.Closing.{Ready, ready, image_due, advance_label, over, by_end, climb_same, root_same, someone_after, some_here}
use Rattle.flat_phaser.specs.declared.FlatStep.TheVariants as flat
use Rattle.flat_phaser.specs.declared.FlatStep.{FlatStep}
use Rattle.flat_phaser.specs.Flat.{Flat, members_of, arrived_of, everyone_arrived}
use Rattle.flat_phaser.specs.Step.{taken, flat_step}
use Rattle.flat_phaser.proofs.Everyone.{same_everyone}
use Rattle.tier_steps.specs.Image.{all_members, is_climbing, image, LooksAlike}

-- a step with no label that changes no count of members
quiet : (ps : List ℕ) (ws : List Fields) (front back : List View) (v v' : View) (t : ℕ) (w' : Fields) (f : Flat) → t < length ws
    → Tallies ps ws (front ++ v ∷ back) → Tallies ps (set ws t w') (front ++ v' ∷ back) → LooksAlike f (image ws (front ++ v ∷ back))
    → (t ≡ 0 → w'.phase ≡ (word_at ws t).phase) → w'.ended ≡ (word_at ws t).ended
    → ((word_at ws 0).ended ≡ false → (v'.size ≡ v.size) × (here (root_phase ws) v' ≡ here (root_phase ws) v) ×
    (is_climbing v'.errand ≡ is_climbing v.errand))
    → LooksAlike f (image (set ws t w') (front ++ v' ∷ back))
quiet ps ws front back v v' t w' f h tally tally' alike phase ended same =
    whole_of f (image (set ws t w') (front ++ v' ∷ back))
    (silent ws (set ws t w') front back v v' f (parts_of f (image ws (front ++ v ∷ back)) alike)
    (mine ps ws front back v tally).within (mine ps (set ws t w') front back v' tally').within
    (root_same ws t w' h phase) (ended_same ws t w' h ended)
    (λ e. ((same e).0, (same e).1)) (λ e _. climb_same front back v v' (same e).2))

-- a step with a label, by whether the flat phaser has ended
stepped : (ws : List Fields) (vs vs' : List View) (t : ℕ) (w' : Fields) (f : Flat) (s : FlatStep) → t < length ws
    → LooksAlike f (image ws vs)
    → (t ≡ 0 → w'.phase ≡ (word_at ws t).phase) → w'.ended ≡ (word_at ws t).ended
    → (AlikeParts f (image ws vs) → f.ended ≡ false → AlikeParts (taken s f) (image (set ws t w') vs'))
    → LooksAlike (flat_step s f) (image (set ws t w') vs')
stepped ws vs vs' t w' f s h alike phase ended going =
    let parts : AlikeParts f (image ws vs) = parts_of f (image ws vs) alike in
    whole_of (flat_step s f) (image (set ws t w') vs')
    (by_end f s (image (set ws t w') vs')
    (λ e. over ws (set ws t w') vs vs' f parts e (root_same ws t w' h phase) (ended_same ws t w' h ended ∙ (sym parts.ended ∙ e)))
    (λ e. going parts e))

zero_both : (b : Bool) → cond {A = ℕ} b 0 0 ≡ 0
zero_both true = refl
zero_both false = refl

nothing_here : (p : ℕ) (v : View) → v.phase ≢ p → here p (record v { phase = p; arrived = 0 }) ≡ here p v
nothing_here p v n = zero_both (eqb p p) ∙ sym (ap (λ b. cond {A = ℕ} b v.arrived 0) (ne_eqb v.phase p n))

-- two views that the image doesn't distinguish
abbrev pub SameImage : ℕ → View → View → Type 0
SameImage root v v' = (v'.size ≡ v.size) × (here root v' ≡ here root v) × (is_climbing v'.errand ≡ is_climbing v.errand)

-- what a look leaves of a token, if the root goes on
looked_same : (w : Fields) (v : View) → w.ended ≡ false → SameImage w.phase v (looked w v)
looked_same w v e =
    let u : View = record v { led = false; note = cond (is_going_back v.errand) v.note None } in
    let m : SameImage w.phase v (moved w u) =
    move_keeps (λ x. SameImage w.phase v x) w u (refl, refl, refl) (λ a b. (refl, nothing_here w.phase v b, refl)) in
    subst (λ (x : View). SameImage w.phase v x) (sym
    (ap (λ b. cond b (record u { end_seen = Some w.phase; errand = dropped v.errand }) (moved w u)) e)) m

given_up_same : (e : Errand) → is_climbing (given_up e) ≡ is_climbing e
given_up_same Rest = refl
given_up_same Advancing = refl
given_up_same (Climbing t k) = refl
given_up_same (Opening tier claimed Seeking size) = refl
given_up_same (Opening tier claimed Joined size) = refl
given_up_same (Opening tier claimed GoingBack size) = refl

noted_same : (root t : ℕ) (w : Fields) (v : View) → SameImage root v (noted t w v)
noted_same root t w v = (refl, refl, given_up_same v.errand)

refused_same : (ws : List Fields) (t : ℕ) (v : View) → (word_at ws 0).ended ≡ false
    → SameImage (root_phase ws) v (refused t (word_at ws t) v)
refused_same ws zero v e =
    let a = looked_same (word_at ws 0) v e in
    (a.0, a.1, given_up_same (looked (word_at ws 0) v).errand ∙ a.2)
refused_same ws (suc t) v e = noted_same (root_phase ws) (suc t) (word_at ws (suc t)) v

opening_still : (tier claimed size : ℕ) (s : OpeningStage) → is_climbing (opening tier claimed s size) ≡ false
opening_still tier zero size s = refl
opening_still tier (suc claimed) size s = refl

kept : (ps : List ℕ) (ws : List Fields) (front back : List View) (v : View) (t : ℕ) (kind : Kind) → IsStep ps ws front v back t kind
    → Tallies ps (set ws t (word_after kind t (word_at ws t) v)) (front ++ view_after (parent_of ps t) kind t (word_at ws t) v ∷ back)
kept ps ws front back v t kind step = kinds_keep_tally ps ws front v back t kind step

-- a member passes its token's tier
own_pass : (ps : List ℕ) (ws : List Fields) (front back : List View) (v : View) (t : ℕ) → t < length ws → Tallies ps ws (front ++ v ∷ back)
    → CanPass t (word_at ws t) v → (v.phase ≡ root_phase ws) × (0 < (word_at ws t).parties) × (0 < (word_at ws t).unarrived)
own_pass ps ws front back v t h tally can =
    let current : v.phase ≡ root_phase ws =
    unarrived_is_current ps (root_phase ws) (word_at ws 0).ended v (mine ps ws front back v tally) can.unarrived in
    let waits = own_waits ps ws front back v t h tally can current in
    (current, waits.0, waits.1)

pub kinds_are_flat : KindsAreFlat
kinds_are_flat ps ws front v back t Look f step alike = (
  tt,
  quiet ps ws front back v (looked (word_at ws t) v) t (word_at ws t) f step.within step.tally (kept ps ws front back v t Look step) alike
      (λ _. refl) refl
      (λ e. subst (λ (k : ℕ). SameImage (root_phase ws) v (looked (word_at ws k) v)) (sym step.needs) (looked_same (word_at ws 0) v e)),
)
kinds_are_flat ps ws front v back t Glance f step alike = (
  tt,
  quiet ps ws front back v v t (word_at ws t) f step.within step.tally (kept ps ws front back v t Glance step) alike
      (λ _. refl) refl (λ e. (refl, refl, refl)),
)
kinds_are_flat ps ws front v back t (Refuse tier claimed size) f step alike = (
  tt,
  quiet ps ws front back v (refused t (word_at ws t) v) t (word_at ws t) f step.within step.tally
      (kept ps ws front back v t (Refuse tier claimed size) step) alike (λ _. refl) refl (λ e. refused_same ws t v e),
)
kinds_are_flat ps ws front v back t (Join tier claimed size) f step alike =
    let due : IsDue ps tier claimed size t v = step.needs.0 in
    let w' : Fields = joined (word_at ws t) (added claimed size) in
    let v' : View = joined_view tier claimed size (word_at ws t) v in (
      (λ _. tt),
      stepped ws (front ++ v ∷ back) (front ++ v' ∷ back) t w' f (flat.Join (length front) size) step.within alike (λ _. refl) refl
          (λ parts e. join_label ws (set ws t w') front back v v' f size parts e
          (mine ps ws front back v step.tally).within due.none refl refl due.some
          (root_same ws t w' step.within (λ _. refl)) (ended_same ws t w' step.within refl)),
    )
kinds_are_flat ps ws front v back t Arrive f step alike =
    let can : CanPass t (word_at ws t) v = step.needs in
    let own = own_pass ps ws front back v t step.within step.tally can in
    let w' : Fields = passed t Arrival (word_at ws t) in
    let v' : View = arrived_view (parent_of ps t) t (word_at ws t) v in (
      (λ e. may_pass ws front back v f (parts_of f (image ws (front ++ v ∷ back)) alike) e can.unarrived),
      stepped ws (front ++ v ∷ back) (front ++ v' ∷ back) t w' f (flat.Arrive (length front)) step.within alike
          (λ _. phase_passed t Arrival (word_at ws t)) (ended_passed t Arrival (word_at ws t))
          (λ parts e. arrive_label ws (set ws t w') front back v v' f parts e own.0 can.unarrived refl refl refl
          (root_same ws t w' step.within (λ _. phase_passed t Arrival (word_at ws t)))
          (ended_same ws t w' step.within (ended_passed t Arrival (word_at ws t)))
          (someone_after ps ws front back v' t Arrival step.shape step.within (kept ps ws front back v t Arrive step) (sym parts.ended ∙ e)
          (step.tally.legal t step.within) (can.current ∙ own.0) (own.1, own.2) refl)),
    )
kinds_are_flat ps ws front v back t Leave f step alike =
    let can : CanPass t (word_at ws t) v = step.needs in
    let own = own_pass ps ws front back v t step.within step.tally can in
    let w' : Fields = passed t Departure (word_at ws t) in
    let v' : View = left_view (parent_of ps t) t (word_at ws t) v in (
      (λ e. may_pass ws front back v f (parts_of f (image ws (front ++ v ∷ back)) alike) e can.unarrived),
      stepped ws (front ++ v ∷ back) (front ++ v' ∷ back) t w' f (flat.Leave (length front)) step.within alike
          (λ _. phase_passed t Departure (word_at ws t)) (ended_passed t Departure (word_at ws t))
          (λ parts e. leave_label ws (set ws t w') front back v v' f parts e own.0 can.unarrived refl refl refl
          (root_same ws t w' step.within (λ _. phase_passed t Departure (word_at ws t)))
          (ended_same ws t w' step.within (ended_passed t Departure (word_at ws t)))
          (someone_after ps ws front back v' t Departure step.shape step.within (kept ps ws front back v t Leave step) (sym parts.ended ∙ e)
          (step.tally.legal t step.within) (can.current ∙ own.0) (own.1, own.2) refl)),
    )
kinds_are_flat ps ws front v back t (Advance ends) f step alike =
    let parts : AlikeParts f (image ws (front ++ v ∷ back)) = parts_of f (image ws (front ++ v ∷ back)) alike in
    let can : CanAdvance (word_at ws 0) v = record {
      errand = step.needs.1.errand;
      going = ap (λ k. (word_at ws k).ended)
          (sym step.needs.0) ∙ step.needs.1.going;
    } in
    let r : Ready (root_phase ws) front back v = ready ps ws front back v step.shape step.tally can in
    let w' : Fields = advanced (word_at ws t) ends in
    let v' : View = advanced_view v in
    let now : word_at (set ws t w') 0 ≡ w' =
    ap (λ k. word_at (set ws t w') k) (sym step.needs.0) ∙ get_or-set_same ws t w' blank step.within in
    let legal = step.tally.legal 0 step.tally.some in (
      (λ e. parts.due e ∙ image_due ws front back v can.going r),
      whole_of (flat_step (flat.Advance ends) f) (image (set ws t w') (front ++ v' ∷ back))
          (by_end f (flat.Advance ends) (image (set ws t w') (front ++ v' ∷ back))
          (λ e. absurd (let a : true ≡ false = sym e ∙ (parts.ended ∙ can.going) in cc))
          (λ e. advance_label ws (set ws t w') front back v f ends parts e (mine ps ws front back v step.tally).within legal.phase r
          (ap (λ (x : Fields). x.phase) now ∙ ap (λ k. next_phase_of (word_at ws k).phase) step.needs.0)
          (ap (λ (x : Fields). x.ended) now))),
    )
kinds_are_flat ps ws front v back t Force f step alike =
    let parts : AlikeParts f (image ws (front ++ v ∷ back)) = parts_of f (image ws (front ++ v ∷ back)) alike in
    let w' : Fields = forced (word_at ws t) in
    let v' : View = forced_view (word_at ws t) v in
    let now : word_at (set ws t w') 0 ≡ w' =
    ap (λ k. word_at (set ws t w') k) (sym step.needs) ∙ get_or-set_same ws t w' blank step.within in
    let phase : root_phase (set ws t w') ≡ root_phase ws = root_same ws t w' step.within (λ _. refl) in (
      (λ _. tt),
      whole_of (flat_step flat.Force f) (image (set ws t w') (front ++ v' ∷ back))
          (by_end f flat.Force (image (set ws t w') (front ++ v' ∷ back))
          (λ e. over ws (set ws t w') (front ++ v ∷ back) (front ++ v' ∷ back) f parts e phase (ap (λ (x : Fields). x.ended) now))
          (λ e. record {
            phase = parts.phase ∙ sym phase;
            ended = sym (ap (λ (x : Fields). x.ended) now);
            due = λ z. absurd (let a : true ≡ false = z in cc);
            members = λ z. absurd (let a : true ≡ false = z in cc);
            arrived = λ z. absurd (let a : true ≡ false = z in cc);
          })),
    )
kinds_are_flat ps ws front v back t (Claim tier claimed size) f step alike = (
  tt,
  quiet ps ws front back v (claimed_view tier claimed size v) t (claimed_word (word_at ws t)) f step.within step.tally
      (kept ps ws front back v t (Claim tier claimed size) step) alike (λ _. refl) refl
      (λ e. (refl, refl, sym (ap is_climbing step.needs.0.errand ∙ opening_still tier claimed size Seeking))),
)
kinds_are_flat ps ws front v back t (Settle tier claimed size) f step alike =
    let at : ancestor ps tier claimed < length ws = subst (λ (k : ℕ). k < length ws) step.needs.0 step.within in
    let fit = settle_fits ps ws front back v tier claimed size (word_at ws 0).ended step.shape at step.tally step.needs.1
    (mine ps ws front back v step.tally) in (
      tt,
      quiet ps ws front back v (settled_view tier claimed Joined size v) t
          (settled (word_at ws t) v.phase (added claimed size)) f step.within step.tally
          (kept ps ws front back v t (Settle tier claimed size) step) alike
          (λ z. fit.phase (sym step.needs.0 ∙ z) ∙ ap (λ k. (word_at ws k).phase) (sym step.needs.0)) refl
          (λ e. (refl, refl, opening_still tier claimed size Joined ∙ sym (ap is_climbing step.needs.1))),
    )
kinds_are_flat ps ws front v back t (SettleBack tier claimed size) f step alike = (
  tt,
  quiet ps ws front back v (settled_view tier claimed GoingBack size v) t (emptied (word_at ws t)) f step.within step.tally
      (kept ps ws front back v t (SettleBack tier claimed size) step) alike (λ _. refl) refl
      (λ e. (refl, refl, opening_still tier claimed size GoingBack ∙ sym (ap is_climbing step.needs.1))),
)
kinds_are_flat ps ws front v back t (Climb passage) f step alike =
    let parts : AlikeParts f (image ws (front ++ v ∷ back)) = parts_of f (image ws (front ++ v ∷ back)) alike in
    let can : CanClimb t passage (word_at ws t) v = step.needs in
    let ok : ViewFits ps (root_phase ws) (word_at ws 0).ended v = mine ps ws front back v step.tally in
    let fit : ErrandFits ps (root_phase ws) v (Climbing t passage) =
    subst (λ (e : Errand). ErrandFits ps (root_phase ws) v e) can.errand ok.errand in
    let w' : Fields = passed t passage (word_at ws t) in
    let v' : View = climbed_view (parent_of ps t) t passage (word_at ws t) v in
    let root : root_phase (set ws t w') ≡ root_phase ws = root_same ws t w' step.within (λ _. phase_passed t passage (word_at ws t)) in
    let waits = waiting_word (root_phase ws) (word_at ws t) (can.current ∙ fit.0)
    (let a = stands ps ws front back v t step.tally step.within can.going in
    let b = climbing_late (root_phase ws) ps t passage t v can.errand in
    let c = only_here t 1 in omega arith) in
    let mem : (u : ℕ) → members_of u (all_members 0 (front ++ v' ∷ back)) ≡ members_of u (all_members 0 (front ++ v ∷ back)) = λ u.
    (let a = members_change front back v v' u ok.within ok.within in omega arith) in
    let arr : (u : ℕ) → arrived_of (root_phase ws) u (all_members 0 (front ++ v' ∷ back)) ≡ arrived_of (root_phase ws) u
    (all_members 0 (front ++ v ∷ back)) = λ u.
    (let a = arrived_change (root_phase ws) front back v v' u in omega arith) in (
      tt,
      whole_of f (image (set ws t w') (front ++ v' ∷ back))
          (silent ws (set ws t w') front back v v' f parts ok.within ok.within root
          (ended_same ws t w' step.within (ended_passed t passage (word_at ws t)))
          (λ _. (refl, refl))
          (λ e every. someone_after ps ws front back v' t passage step.shape step.within (kept ps ws front back v t (Climb passage) step) e
          (step.tally.legal t step.within) (can.current ∙ fit.0) waits refl
          (ap (λ p. everyone_arrived p (all_members 0 (front ++ v' ∷ back))) root
          ∙ (same_everyone (root_phase ws) (all_members 0 (front ++ v' ∷ back)) (all_members 0 (front ++ v ∷ back)) mem arr ∙ every))
          ∙ sym (some_here front back v (ap is_climbing can.errand)))),
    )
kinds_are_flat ps ws front v back t Refresh f step alike =
    let fit = refresh_fits ps ws v (front ++ v ∷ back) t (word_at ws 0).ended step.within step.tally step.needs
    (mine ps ws front back v step.tally) in (
      tt,
      quiet ps ws front back v v t (refreshed (word_at ws t) v.phase) f step.within step.tally (kept ps ws front back v t Refresh step)
          alike
          fit.phase refl (λ e. (refl, refl, refl)),
    )

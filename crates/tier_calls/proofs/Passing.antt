-- What a call that arrives or leaves shows of its token, by induction on its looks and steps.
use Rattle.std.proofs.Common.{◌≡◌, ℕ, zero, suc, ◌<◌, ◌⊎◌, inl, inr, ⊎_elim, Bool, true, false, cond, eqb, List, ◌∷◌, ◌++◌, refl, sym, ◌∙◌, ap, subst, arith, Some, None}
use Rattle.phaser_word.specs.Fields.{Fields}
use Rattle.tier_shape.specs.Parents.{parent_of}
use Rattle.tier_steps.specs.Step.{owed, passed, looked, moved, dropped, is_going_back, view_after}
use Rattle.tier_steps.specs.declared.kind.Kind.{Kind}
use Rattle.tier_steps.specs.declared.kind.Kind.TheVariants.{Look, Advance, Climb}
use Rattle.tier_steps.specs.declared.view.View.{View}
use Rattle.tier_steps.specs.declared.view.Errand.{Errand}
use Rattle.tier_steps.specs.declared.view.Errand.TheVariants.{Rest, Climbing, Advancing}
use Rattle.tier_steps.specs.declared.view.Passage.{Passage}
use Rattle.tier_steps.specs.declared.view.Passage.TheVariants.{Arrival, Departure}
use Rattle.tier_steps.proofs.Looking.{move_keeps}
use Rattle.tier_core.specs.declared.call.Played.{Played}
use Rattle.tier_core.specs.declared.call.Played.TheVariants.{GoesOn, Done}
use Rattle.tier_core.specs.declared.call.Progress.{Progress}
use Rattle.tier_core.specs.declared.call.Progress.TheVariants.{Idle, Begun, Seeking as ToSeek, Settling, GivingBack as ToGiveBack, Passing, Owing, Due, Refreshing}
use Rattle.tier_core.specs.declared.call.Turn.{Turn}
use Rattle.tier_core.specs.Turn.{pass_turn, climb_turn, own_kind, end_shown, lags, goes_on, reported, errand_place, place, turn_by}
use Rattle.tier_core.specs.Machine.{CallFits, is_going}
use Rattle.tier_core.proofs.Turns.{by_test, not_both}
use Rattle.tier_rule.specs.Look.{glance, looking}
use Rattle.tier_rule.specs.Tell.{Beside}
use Rattle.tier_calls.specs.Next.{meant, is_look}
use Rattle.tier_rule.specs.declared.sight.Key.{Key}
use Rattle.tier_calls.specs.Goes.{Position, Goes, starts, steps, looks, after_look}
use Rattle.tier_calls.specs.Passes.{IsSame, HasCounted, IsFresh, PassAt, PassesCountOnce, PassesCountNoMore}
use Rattle.tier_calls.specs.Next.{is_owing}
use Rattle.tier_steps.specs.Tally.{word_at, root_phase, ErrandFits}
use Rattle.tier_steps.proofs.KindLaw.{mine}
use Rattle.tier_calls.proofs.Turning.{by_cond, ended_root, look_is, PassIs, over, behind, passes, pass_is}

pub owed_cases : (P : Errand → Type 0) (above t : ℕ) (passage : Passage) (w : Fields) → P Rest → P Advancing
    → ((to : ℕ) (up : Passage) → P (Climbing to up)) → P (owed above t passage w)
owed_cases P above zero passage w a b c = by_test (λ x. P (cond x Advancing Rest)) (eqb w.unarrived 1) (λ e. b) (λ e. a)
owed_cases P above (suc t) Arrival w a b c =
    by_test (λ x. P (cond x (Climbing above Arrival) Rest)) (eqb w.unarrived 1) (λ e. c above Arrival) (λ e. a)
owed_cases P above (suc t) Departure w a b c =
    by_test (λ x. P (cond x (Climbing above Departure) (cond (eqb w.unarrived 1) (Climbing above Arrival) Rest))) (eqb w.parties 1)
    (λ e. c above Departure)
    (λ e. by_test (λ x. P (cond x (Climbing above Arrival) Rest)) (eqb w.unarrived 1) (λ f. c above Arrival) (λ f. a))

same_again : (a b c : View) → IsSame a b → IsSame b c → IsSame a c
same_again a b c x y = record { tier = y.tier ∙ x.tier; size = y.size ∙ x.size; phase = y.phase ∙ x.phase; arrived = y.arrived ∙ x.arrived }

-- a look at an ended root changes no members, and shows the end
ended_look : (w : Fields) (v : View) → w.ended ≡ true → IsSame v (looked w v) × ((looked w v).end_seen ≡ Some w.phase)
ended_look w v e =
    let u : View = record v { led = false; note = cond (is_going_back v.errand) v.note None } in
    let is : looked w v ≡ record u { end_seen = Some w.phase; errand = dropped v.errand } =
    ap (λ b. cond b (record u { end_seen = Some w.phase; errand = dropped v.errand }) (moved w u)) e in
    (subst (IsSame v) (sym is) (record { tier = refl; size = refl; phase = refl; arrived = refl }), ap (λ (z : View). z.end_seen) is)

-- a look at the root by a token in its phase, or with an unarrived member, changes no members
still_look : (w : Fields) (v : View) → (v.phase ≡ w.phase) ⊎ (v.arrived < v.size) → IsSame v (looked w v)
still_look w v h =
    let u : View = record v { led = false; note = cond (is_going_back v.errand) v.note None } in
    by_test (λ b. (w.ended ≡ b) → IsSame v (cond b (record u { end_seen = Some w.phase; errand = dropped v.errand }) (moved w u))) w.ended
    (λ e f. record { tier = refl; size = refl; phase = refl; arrived = refl })
    (λ e f. move_keeps (IsSame v) w u (record { tier = refl; size = refl; phase = refl; arrived = refl })
    (λ a b. absurd (⊎_elim (λ (z : v.phase ≡ w.phase). b z) (λ (z : v.arrived < v.size). omega arith) h))) refl

pub still_glance : (above t : ℕ) (w : Fields) (v : View) → (t ≡ 0 → (v.phase ≡ w.phase) ⊎ (v.arrived < v.size))
    → IsSame v (view_after above (glance t) t w v)
still_glance above zero w v h = still_look w v (h refl)
still_glance above (suc t) w v h = record { tier = refl; size = refl; phase = refl; arrived = refl }

-- a look at the root leaves no mark of an advance, and at one that goes on shows no end
pub looked_unled : (w : Fields) (v : View) → (looked w v).led ≡ false
looked_unled w v =
    let u : View = record v { led = false; note = cond (is_going_back v.errand) v.note None } in
    by_test (λ b. (cond b (record u { end_seen = Some w.phase; errand = dropped v.errand }) (moved w u)).led ≡ false) w.ended
    (λ e. refl) (λ e. move_keeps (λ (z : View). z.led ≡ false) w u refl (λ _ _. refl))

pub looked_fresh : (w : Fields) (v : View) → w.ended ≡ false → v.end_seen ≡ None → IsFresh (looked w v)
looked_fresh w v e unseen =
    let u : View = record v { led = false; note = cond (is_going_back v.errand) v.note None } in
    subst (λ (b : Bool). IsFresh (cond b (record u { end_seen = Some w.phase; errand = dropped v.errand }) (moved w u))) (sym e)
    (move_keeps IsFresh w u (record { unseen = unseen; unled = refl }) (λ _ _. record { unseen = unseen; unled = refl }))

pub glance_unled : (above t : ℕ) (w : Fields) (v : View) → v.led ≡ false → (view_after above (glance t) t w v).led ≡ false
glance_unled above zero w v l = looked_unled w v
glance_unled above (suc t) w v l = l

pub glance_fresh : (above t : ℕ) (w : Fields) (v : View) → w.ended ≡ false → IsFresh v → IsFresh (view_after above (glance t) t w v)
glance_fresh above zero w v e f = looked_fresh w v e f.unseen
glance_fresh above (suc t) w v e f = f

-- a step by which a party passes a tier, and which is no look, finds no end
open_pass : (t : ℕ) (kind : Kind) (w : Fields) (r : Turn) → PassIs t kind w r → is_look r.kind ≡ false → w.ended ≡ false
open_pass t kind w r (over e k at) quiet = not_both (is_look r.kind) (ap is_look k) quiet
open_pass t kind w r (behind e k at) quiet = e
open_pass t kind w r (passes e k at) quiet = e

-- the step at the token's tier leads nothing
pub own_led : (own : Passage) (above t : ℕ) (w : Fields) (u : View) → u.led ≡ false → (view_after above (own_kind own) t w u).led ≡ false
own_led Arrival above t w u l = l
own_led Departure above t w u l = l

-- the step at the token's tier counts a member
own_counts : (own : Passage) (above t : ℕ) (w : Fields) (v u : View) → u.arrived < u.size → IsSame v u
    → HasCounted own v (view_after above (own_kind own) t w u)
own_counts Arrival above t w v u lt s = record {
  tier = s.tier;
  phase = s.phase;
  arrival = λ e. (s.size, (let a = s.arrived in omega arith));
  departure = λ e. absurd (cc);
}
own_counts Departure above t w v u lt s = record {
  tier = s.tier;
  phase = s.phase;
  arrival = λ e. absurd (cc);
  departure = λ e. ((let a = s.size in omega arith), s.arrived);
}

own_phase : (own : Passage) (above t : ℕ) (w : Fields) (u : View) → u.phase ≡ (view_after above (own_kind own) t w u).phase
own_phase Arrival above t w u = refl
own_phase Departure above t w u = refl

counted_on : (own : Passage) (v u u' : View) → HasCounted own v u → IsSame u u' → HasCounted own v u'
counted_on own v u u' c s = record {
  tier = s.tier ∙ c.tier;
  phase = s.phase ∙ c.phase;
  arrival = λ e. (s.size ∙ (c.arrival e).0, s.arrived ∙ (c.arrival e).1);
  departure = λ e. ((let a = (c.departure e).0 in let b = s.size in omega arith), s.arrived ∙ (c.departure e).1);
}

-- a token that climbs or advances is in the root's phase
pub current_at : (ps : List ℕ) (t : ℕ) (w : Fields) (v : View) → Beside ps t w v
    → (v.errand ≡ Advancing) ⊎ ((to : ℕ) × (passage : Passage) × (v.errand ≡ Climbing to passage)) → t ≡ 0 → v.phase ≡ w.phase
current_at ps t w v b way z =
    let fits = (mine ps b.words b.front b.back v b.tally).errand in
    let root : (word_at b.words 0).phase ≡ w.phase =
    ap (λ (n : ℕ). (word_at b.words n).phase) (sym z) ∙ ap (λ (x : Fields). x.phase) b.word in
    ⊎_elim
    (λ (e : v.errand ≡ Advancing). subst (ErrandFits ps (root_phase b.words) v) e fits ∙ root)
    (λ (e : (to : ℕ) × (passage : Passage) × (v.errand ≡ Climbing to passage)). (subst (ErrandFits ps (root_phase b.words) v) e.2 fits).0
    ∙ root)
    way

pub root_of : (ps : List ℕ) (t : ℕ) (w : Fields) (v : View) → Beside ps t w v → w.ended ≡ true → t ≡ 0
root_of ps t w v b e = ended_root ps b.words (b.front ++ v ∷ b.back) t b.tally (ap (λ (z : Fields). z.ended) b.word ∙ e)

-- What a call keeps: of a token of whose members none was counted yet, and of one that has counted.
module _ (ps : List ℕ) (own : Passage) (P C : View → Type 0) (stays : (u u' : View) → P u → IsSame u u' → P u')
    (keeps : (u u' : View) → C u → IsSame u u' → C u')
    (counts : (above t : ℕ) (w : Fields) (u : View) → u.arrived < u.size → P u → C (view_after above (own_kind own) t w u)) where
  -- how the call goes on from what is owed
  goes_as_owed : (phase n above t : ℕ) (w : Fields) (passage passage' : Passage) (u : View) → C u → u.led ≡ false → phase ≡ u.phase
      → PassAt own P C u (reported phase n (owed above t passage w)) (goes_on passage' (owed above t passage w))
  goes_as_owed phase n above t w passage passage' u c l same =
      owed_cases (λ e. PassAt own P C u (reported phase n e) (goes_on passage' e)) above t passage w (c, same) (c, l) (λ to up. (c, l))

  -- a climb
  climb_shown : (passage' : Passage) (above t : ℕ) (passage : Passage) (w : Fields) (u : View) → above ≡ parent_of ps t → C u
      → u.led ≡ false
      → PassAt own P C (view_after above (pass_turn ps passage' t passage (Climb passage) (Owing passage') (Done u.phase) w u).kind t w u)
      (pass_turn ps passage' t passage (Climb passage) (Owing passage') (Done u.phase) w u).answer
      (pass_turn ps passage' t passage (Climb passage) (Owing passage') (Done u.phase) w u).next
  climb_shown passage' above t passage w u is c l =
      by_cond (λ r. PassAt own P C (view_after above r.kind t w u) r.answer r.next) w.ended _ _
      (λ e. let s = (ended_look w u e).0 in (keeps u (looked w u) c s, sym s.phase))
      (λ e. by_cond (λ r. PassAt own P C (view_after above r.kind t w u) r.answer r.next) (lags w u) _ _ (λ f. (c, l))
      (λ f. subst
      (λ (a : ℕ). PassAt own P C (record u { errand = owed a t passage w })
      (reported u.phase (passed t passage w).parties (owed (parent_of ps t) t passage w))
      (goes_on passage' (owed (parent_of ps t) t passage w)))
      (sym is)
      (goes_as_owed u.phase (passed t passage w).parties (parent_of ps t) t w passage passage' (record u { errand = owed (parent_of ps t) t passage w })
      (keeps u (record u { errand = owed (parent_of ps t) t passage w }) c (record { tier = refl; size = refl; phase = refl; arrived = refl }))
      l refl)))

  -- the step at the token's tier
  own_shown : (t : ℕ) (w : Fields) (u : View) → u.arrived < u.size → P u → IsFresh u
      → let r = pass_turn ps own t own (own_kind own) (Passing own) (end_shown w) w u in
      PassAt own P C (view_after (parent_of ps t) r.kind t w u) r.answer r.next
  own_shown t w u lt s fresh =
      by_cond (λ r. PassAt own P C (view_after (parent_of ps t) r.kind t w u) r.answer r.next) w.ended _ _
      (λ e. let l = ended_look w u e in (stays u (looked w u) s l.0, (w.phase, l.1, refl)))
      (λ e. by_cond (λ r. PassAt own P C (view_after (parent_of ps t) r.kind t w u) r.answer r.next) (lags w u) _ _ (λ f. (refl, s, fresh))
      (λ f. goes_as_owed u.phase (passed t own w).parties (parent_of ps t) t w own own (view_after (parent_of ps t) (own_kind own) t w u)
      (counts (parent_of ps t) t w u lt s) (own_led own (parent_of ps t) t w u fresh.unled) (own_phase own (parent_of ps t) t w u)))

  -- after a step of the call
  step_shown : (p : Progress) (u : View) (a : Played) (b : Bool) (w : Fields) → PassAt own P C u a p → CallFits ps p u → is_going p ≡ true
      → Beside ps (place ps p u) w u
      → let r = turn_by ps b w p u in PassAt own P C (view_after (parent_of ps (place ps p u)) r.kind (place ps p u) w u) r.answer r.next
  step_shown Idle u a b w sh fits g beside = absurd (cc)
  step_shown (Begun c) u a b w sh fits g beside = absurd sh
  step_shown (ToSeek tier size) u a b w sh fits g beside = absurd sh
  step_shown Settling u a b w sh fits g beside = absurd sh
  step_shown (ToGiveBack answer) u a b w sh fits g beside = absurd sh
  step_shown (Passing passage) u a b w sh fits g beside =
      subst
      (λ (z : Passage). let r = pass_turn ps z u.tier z (own_kind z) (Passing z) (end_shown w) w u in
      PassAt own P C (view_after (parent_of ps u.tier) r.kind u.tier w u) r.answer r.next)
      (sym sh.0)
      (own_shown u.tier w u fits.1 sh.1 sh.2)
  step_shown (Owing own') u a b w sh fits g beside =
      subst
      (λ (e : Errand). let r = climb_turn ps own' w u e in
      PassAt own P C (view_after (parent_of ps (errand_place ps e)) r.kind (errand_place ps e) w u) r.answer r.next)
      (sym fits.2)
      (climb_shown own' (parent_of ps fits.0) fits.0 fits.1 w u refl sh.0 sh.1)
  step_shown (Due own') u a b w sh fits g beside =
      by_test
      (λ c. (w.ended ≡ c)
      → C (view_after (parent_of ps 0) (cond c Look (Advance b)) 0 w u)
      × (u.phase ≡ (view_after (parent_of ps 0) (cond c Look (Advance b)) 0 w u).phase))
      w.ended
      (λ e f. let s = (ended_look w u f).0 in (keeps u (looked w u) sh.0 s, sym s.phase))
      (λ e f. (keeps u (record u { errand = Rest; led = true }) sh.0 (record { tier = refl; size = refl; phase = refl; arrived = refl }), refl))
      refl
  step_shown (Refreshing passed_on) u a b w sh fits g beside = absurd sh

  -- after a look that is none
  stay_shown : (p : Progress) (u : View) (a : Played) (w : Fields) → PassAt own P C u a p → CallFits ps p u → is_going p ≡ true
      → Beside ps (place ps p u) w u
      → is_look (turn_by ps false w p u).kind ≡ false
      → PassAt own P C (view_after (parent_of ps (place ps p u)) (looking (meant p u) (place ps p u) w) (place ps p u) w u) GoesOn p
  stay_shown Idle u a w sh fits g beside quiet = absurd (cc)
  stay_shown (Begun c) u a w sh fits g beside quiet = absurd sh
  stay_shown (ToSeek tier size) u a w sh fits g beside quiet = absurd sh
  stay_shown Settling u a w sh fits g beside quiet = absurd sh
  stay_shown (ToGiveBack answer) u a w sh fits g beside quiet = absurd sh
  stay_shown (Passing passage) u a w sh fits g beside quiet =
      let open_now =
      open_pass u.tier (own_kind passage) w _ (pass_is ps passage u.tier passage (own_kind passage) (Passing passage) (end_shown w) w u)
      quiet in (
        sh.0,
        stays u (view_after (parent_of ps u.tier) (glance u.tier) u.tier w u) sh.1
            (still_glance (parent_of ps u.tier) u.tier w u (λ z. inr fits.1)),
        glance_fresh (parent_of ps u.tier) u.tier w u open_now sh.2,
      )
  stay_shown (Owing own') u a w sh fits g beside quiet =
      let t : ℕ = errand_place ps u.errand in (
        keeps u (view_after (parent_of ps t) (glance t) t w u) sh.0
            (still_glance (parent_of ps t) t w u (λ z. inl (current_at ps t w u beside (inr (fits.0, fits.1, fits.2)) z))),
        glance_unled (parent_of ps t) t w u sh.1,
      )
  stay_shown (Due own') u a w sh fits g beside quiet =
      (keeps u (looked w u) sh.0 (still_look w u (inl (current_at ps 0 w u beside (inl fits) refl))), looked_unled w u)
  stay_shown (Refreshing passed_on) u a w sh fits g beside quiet = absurd sh

  look_shown : (at : Position) (w : Fields) → PassAt own P C at.view at.answer at.progress → CallFits ps at.progress at.view
      → is_going at.progress ≡ true
      → Beside ps (place ps at.progress at.view) w at.view
      → PassAt own P C (after_look ps w at).view (after_look ps w at).answer (after_look ps w at).progress
  look_shown at w sh fits g beside =
      let r : Turn = turn_by ps false w at.progress at.view in
      let t : ℕ = place ps at.progress at.view in
      let u : View = view_after (parent_of ps t) (looking (meant at.progress at.view) t w) t w at.view in
      let Q : Bool → Type 0 =
      λ c. let x : Position =
      cond c (record { progress = r.next; view = u; answer = r.answer; steps = looking (meant at.progress at.view) t w ∷ at.steps })
      (record { progress = at.progress; view = u; answer = GoesOn; steps = looking (meant at.progress at.view) t w ∷ at.steps }) in
      PassAt own P C x.view x.answer x.progress in
      let l = look_is ps w at.view (parent_of ps t) at.progress fits g (root_of ps t w at.view beside) in
      by_test Q (is_look r.kind)
      (λ e. subst (λ (k : Kind). PassAt own P C (view_after (parent_of ps t) k t w at.view) r.answer r.next) (sym (l.turn e)) (step_shown at.progress at.view at.answer false w sh fits g beside))
      (λ e. stay_shown at.progress at.view at.answer w sh fits g beside e)

-- along a call
module _ (k : Key) (own : Passage) (P C : View → Type 0) (stays : (u u' : View) → P u → IsSame u u' → P u')
    (keeps : (u u' : View) → C u → IsSame u u' → C u')
    (counts : (above t : ℕ) (w : Fields) (u : View) → u.arrived < u.size → P u → C (view_after above (own_kind own) t w u)) where
  along : (from at : Position) → PassAt own P C from.view from.answer from.progress → Goes k from at
      → PassAt own P C at.view at.answer at.progress
  along from at sh starts = sh
  along from at sh (steps at' w b go fits g beside says found) =
      step_shown k.shape own P C stays keeps counts at'.progress at'.view at'.answer b w (along from at' sh go) fits g beside
  along from at sh (looks at' w go fits g beside) = look_shown k.shape own P C stays keeps counts at' w (along from at' sh go) fits g beside

pub passes_count_once : PassesCountOnce
passes_count_once k own v from at p is lt fresh go =
    along k own (IsSame v) (HasCounted own v) (λ u u' s t. same_again v u u' s t) (counted_on own v)
    (λ above t w u l s. own_counts own above t w v u l s) from at
    (subst (λ (z : Progress). PassAt own (IsSame v) (HasCounted own v) from.view from.answer z) (sym p)
    (let z =
    subst (λ (z : View). IsSame v z × IsFresh z) (sym is) (record { tier = refl; size = refl; phase = refl; arrived = refl }, fresh) in
    (refl, z.0, z.1)))
    go

owing_at : (own : Passage) (P C : View → Type 0) (u : View) (a : Played) (p : Progress) → is_owing p ≡ true → C u × (u.led ≡ false)
    → PassAt own P C u a p
owing_at own P C u a Idle o c = absurd (cc)
owing_at own P C u a (Begun x) o c = absurd (cc)
owing_at own P C u a (ToSeek tier size) o c = absurd (cc)
owing_at own P C u a Settling o c = absurd (cc)
owing_at own P C u a (ToGiveBack b) o c = absurd (cc)
owing_at own P C u a (Passing passage) o c = absurd (cc)
owing_at own P C u a (Owing passage) o c = c
owing_at own P C u a (Due passage) o c = c
owing_at own P C u a (Refreshing moved_on) o c = absurd (cc)

pub passes_count_no_more : PassesCountNoMore
passes_count_no_more k own v from at o is unled go =
    along k own (λ u. ⊥) (IsSame v) (λ u u' s t. s) (λ u u' s t. same_again v u u' s t) (λ above t w u l s. absurd s) from at
    (owing_at own (λ u. ⊥) (IsSame v) from.view from.answer from.progress o
    (subst (λ (z : View). IsSame v z × (z.led ≡ false)) (sym is) (record { tier = refl; size = refl; phase = refl; arrived = refl }, unled)))
    go

-- A call that took the advance itself found that all had arrived.
use Rattle.std.proofs.Common.{arith, ◌≡◌, ◌≢◌, ℕ, zero, suc, inl, Bool, true, false, cond, List, ◌∷◌, refl, sym, ◌∙◌, ap, subst}
use Rattle.std.specs.List.{AllByRecursion}
use Rattle.phaser_word.specs.Fields.{Fields}
use Rattle.tier_shape.specs.Parents.{parent_of}
use Rattle.tier_steps.specs.Step.{Needs, CanAdvance, advanced_view, view_after, looked}
use Rattle.tier_steps.specs.declared.kind.Kind.{Kind}
use Rattle.tier_steps.specs.declared.kind.Kind.TheVariants.{Look, Glance, Refuse, Join, Arrive, Leave, Advance, Force, Claim, Settle, SettleBack, Climb, Refresh}
use Rattle.tier_steps.specs.declared.view.View.{View}
use Rattle.tier_steps.specs.declared.view.Passage.{Passage}
use Rattle.tier_steps.specs.declared.view.Passage.TheVariants.{Arrival}
use Rattle.tier_core.specs.declared.call.Played.{Played}
use Rattle.tier_core.specs.declared.call.Played.TheVariants.{GoesOn}
use Rattle.tier_core.specs.declared.call.Progress.{Progress}
use Rattle.tier_core.specs.declared.call.Progress.TheVariants.{Idle, Begun, Seeking as ToSeek, Settling, GivingBack as ToGiveBack, Passing, Owing, Due, Refreshing}
use Rattle.tier_core.specs.declared.call.Turn.{Turn}
use Rattle.tier_core.specs.Turn.{place, turn_by}
use Rattle.tier_core.specs.Machine.{is_going}
use Rattle.tier_core.proofs.Turns.{by_test, not_both}
use Rattle.tier_rule.specs.declared.sight.Key.{Key}
use Rattle.tier_rule.specs.declared.sight.Sight.{Sight}
use Rattle.tier_rule.specs.Look.{looking}
use Rattle.tier_rule.specs.Reach.{views_of, PlanSays}
use Rattle.tier_rule.specs.Laws.{HasArrived, MayStep}
use Rattle.tier_rule.specs.Run.{IsReached}
use Rattle.tier_rule.specs.Tell.{Beside}
use Rattle.tier_rule.proofs.Waited.{advances}
use Rattle.tier_calls.specs.declared.going.Going.{Going}
use Rattle.tier_calls.specs.declared.arriving.Arrived.{Arrived}
use Rattle.tier_calls.specs.declared.arriving.Arrived.TheVariants as arrived
use Rattle.tier_calls.specs.declared.arriving.Resumed.{Resumed}
use Rattle.tier_calls.specs.declared.arriving.Resumed.TheVariants as resumed
use Rattle.tier_calls.specs.declared.in_place.ArrivedInPlace.{ArrivedInPlace}
use Rattle.tier_calls.specs.declared.in_place.ArrivedInPlace.TheVariants as came
use Rattle.tier_calls.specs.Holding.{Named, Holding, Looked, IsCrew}
use Rattle.tier_calls.specs.Calls.{IsErrand}
use Rattle.tier_calls.specs.Next.{meant, is_look}
use Rattle.tier_calls.specs.Goes.{Position, position, WasFound, Goes, starts, steps, looks, after_look, Ran}
use Rattle.tier_calls.specs.Passes.{IsSame, HasCounted, PassAt}
use Rattle.tier_calls.specs.Arrives.{Settles, Ends}
use Rattle.tier_calls.specs.InPlace.{RanOver, Comes}
use Rattle.tier_calls.specs.Led.{LedAfterAll, LedWaited, LedOnWaited, LedInPlaceWaited}
use Rattle.tier_calls.proofs.Turning.{next_by}
use Rattle.tier_calls.proofs.Passing.{looked_unled, glance_unled, current_at, passes_count_once, passes_count_no_more}
use Rattle.tier_calls.proofs.Settling.{began_at, began, first_fresh, arrives}

-- only an advance leads
leads : (above : ℕ) (kind : Kind) (t : ℕ) (w : Fields) (v : View) → v.led ≡ false → (view_after above kind t w v).led ≡ true
    → (ends : Bool) × (kind ≡ Advance ends)
leads above Look t w v un is = not_both (looked w v).led is (looked_unled w v)
leads above Glance t w v un is = not_both v.led is un
leads above (Refuse tier claimed size) zero w v un is = not_both (looked w v).led is (looked_unled w v)
leads above (Refuse tier claimed size) (suc t) w v un is = not_both v.led is un
leads above (Join tier claimed size) t w v un is = not_both v.led is un
leads above Arrive t w v un is = not_both v.led is un
leads above Leave t w v un is = not_both v.led is un
leads above (Advance ends) t w v un is = (ends, refl)
leads above Force t w v un is = not_both v.led is un
leads above (Claim tier claimed size) t w v un is = not_both v.led is un
leads above (Settle tier claimed size) t w v un is = not_both v.led is un
leads above (SettleBack tier claimed size) t w v un is = not_both v.led is un
leads above (Climb passage) t w v un is = not_both v.led is un
leads above Refresh t w v un is = not_both v.led is un

-- what a position says whose last step was an advance
record LedBefore (k : Key) (v : View) (made : List Kind) : Type 0 where
  before : Sight
  root : Fields
  ends : Bool
  own : before.key ≡ k
  made_by : made ≡ Advance ends ∷ before.steps
  view : v ≡ advanced_view before.view
  going : root.ended ≡ false
  now : root.phase ≡ v.phase
  found : IsReached k 0 root before
  waited : (state : IsReached k 0 root before) → AllByRecursion (HasArrived v.phase) (views_of state.seats)

-- in every state in which a token may take this advance all have arrived
all_there : (k : Key) (w : Fields) (x : Sight) (ends : Bool) → CanAdvance w x.view → PlanSays k (Advance ends) w → (s : IsReached k 0 w x)
    → AllByRecursion (HasArrived w.phase) (views_of s.seats)
all_there k w x ends can says s =
    let m : MayStep k s.words s.seats s.stands.id 0 s.stands.front x s.stands.back (Advance ends) = record {
      reached = s.reached;
      seat = s.stands.seat;
      within = s.within;
      needs = (refl, subst (λ (z : Fields). CanAdvance z x.view) (sym s.word) can);
      says = subst (PlanSays k (Advance ends)) (sym s.word) says;
    } in
    subst (λ (z : Fields). AllByRecursion (HasArrived z.phase) (views_of s.seats)) s.word
    (advances k s.words s.seats s.stands.id 0 s.stands.front x s.stands.back ends m).all

by_advance : (k : Key) (t : ℕ) (w : Fields) (v : View) (made : List Kind) (above : ℕ) (kind : Kind) (ends : Bool) → kind ≡ Advance ends
    → Beside k.shape t w v → Needs k.shape kind t w v → PlanSays k kind w → WasFound k t w v made
    → LedBefore k (view_after above kind t w v) (kind ∷ made)
by_advance k t w v made above kind ends is b needs says found =
    let need : (t ≡ 0) × CanAdvance w v = subst (λ (z : Kind). Needs k.shape z t w v) is needs in
    let plan : PlanSays k (Advance ends) w = subst (λ (z : Kind). PlanSays k z w) is says in
    let here : v.phase ≡ w.phase = current_at k.shape t w v b (inl need.1.errand) need.0 in
    let can : CanAdvance w found.sight.view = subst (CanAdvance w) (sym found.view) need.1 in
    subst (λ (z : Kind). LedBefore k (view_after above z t w v) (z ∷ made)) (sym is)
    (record {
      before = found.sight;
      root = w;
      ends = ends;
      own = found.own;
      made_by = ap (λ (ks : List Kind). Advance ends ∷ ks) (sym found.steps);
      view = ap advanced_view (sym found.view);
      going = need.1.going;
      now = sym here;
      found = subst (λ (n : ℕ). IsReached k n w found.sight) need.0 found.reached;
      waited =
          λ s. subst (λ (p : ℕ). AllByRecursion (HasArrived p) (views_of s.seats)) (sym here) (all_there k w found.sight ends can plan s);
    })

-- along a call
module _ (k : Key) (own : Passage) (P C : View → Type 0) (from : Position)
    (shown : (at : Position) → Goes k from at → PassAt own P C at.view at.answer at.progress) where
  -- until it is over it has taken no advance, and it looks for no step of its own
  unled_at : (u : View) (a : Played) (p : Progress) → PassAt own P C u a p → is_going p ≡ true → (u.led ≡ false) × (meant p u ≡ Look)
  unled_at u a Idle s g = not_both false g refl
  unled_at u a (Begun c) s g = not_both false g refl
  unled_at u a (ToSeek tier size) s g = absurd s
  unled_at u a Settling s g = absurd s
  unled_at u a (ToGiveBack b) s g = absurd s
  unled_at u a (Passing passage) s g = (s.2.unled, refl)
  unled_at u a (Owing passage) s g = (s.1, refl)
  unled_at u a (Due passage) s g = (s.1, refl)
  unled_at u a (Refreshing moved_on) s g = absurd s

  led_along : (at : Position) → from.view.led ≡ false → Goes k from at → at.view.led ≡ true → LedBefore k at.view at.steps
  led_along at un starts is = not_both from.view.led is un
  led_along at un (steps at' w b go fits g beside says found) is =
      let r : Turn = turn_by k.shape b w at'.progress at'.view in
      let t : ℕ = place k.shape at'.progress at'.view in
      let l = leads (parent_of k.shape t) r.kind t w at'.view (unled_at at'.view at'.answer at'.progress (shown at' go) g).0 is in
      let n =
      next_by k.shape beside.words beside.front beside.back at'.progress at'.view w b beside.shape beside.tally fits g beside.word in
      by_advance k t w at'.view at'.steps (parent_of k.shape t) r.kind l.0 l.1 beside n.needs says found
  led_along at un (looks at' w go fits g beside) is =
      let r : Turn = turn_by k.shape false w at'.progress at'.view in
      let t : ℕ = place k.shape at'.progress at'.view in
      let kind : Kind = looking (meant at'.progress at'.view) t w in
      let u : View = view_after (parent_of k.shape t) kind t w at'.view in
      let q = unled_at at'.view at'.answer at'.progress (shown at' go) g in
      let dark : u.led ≡ false =
      subst (λ (z : Kind). (view_after (parent_of k.shape t) (looking z t w) t w at'.view).led ≡ false) (sym q.1)
      (glance_unled (parent_of k.shape t) t w at'.view q.0) in
      not_both (after_look k.shape w at').view.led is
      (by_test
      (λ c.
      (cond {A = Position} c (record { progress = r.next; view = u; answer = r.answer; steps = kind ∷ at'.steps })
      (record { progress = at'.progress; view = u; answer = GoesOn; steps = kind ∷ at'.steps })).view.led
      ≡ false)
      (is_look r.kind) (λ e. dark) (λ e. dark))

led_token : {k : Key} (h : Holding) (phase : ℕ) → h.tree.key ≡ k → phase ≡ h.view.phase → LedBefore k h.view h.steps → LedAfterAll h phase
led_token {k} h phase key same l = record {
  before = l.before;
  root = l.root;
  ends = l.ends;
  own = l.own ∙ sym key;
  steps = l.made_by;
  view = l.view;
  going = l.going;
  now = l.now ∙ sym same;
  found = subst (λ (z : Key). IsReached z 0 l.root l.before) (sym key) l.found;
  waited = subst (λ (z : Key). (state : IsReached z 0 l.root l.before) → AllByRecursion (HasArrived phase) (views_of state.seats)) (sym key)
      (λ s. subst (λ (p : ℕ). AllByRecursion (HasArrived p) (views_of s.seats)) (sym same) (l.waited s));
}

module _ (n : Named) (own : Passage) (tries : ℕ) (h h' : Holding) (g : Going) (is : h.tree ≡ n) (crew : IsCrew h)
    (took : Looked Look 0 h h') (going : h'.word.ended ≡ false) (some : h'.view.arrived ≢ h'.view.size)
    (ran : Ran n tries (began_at own h') g) where
  goes_shown : (at : Position) → Goes n.key (position (began_at own h')) at
      → PassAt own (IsSame h'.view) (HasCounted own h'.view) at.view at.answer at.progress
  goes_shown at go =
      passes_count_once n.key own h'.view (position (began_at own h')) at refl refl
      (began {n = n} {h = h} {h' = h'} {own = own} is crew took some).fits.1 (first_fresh took going) go

  led_now : (phase : ℕ) → phase ≡ g.token.view.phase → g.token.view.led ≡ true → LedAfterAll g.token phase
  led_now phase same led =
      led_token g.token phase (ap (λ (z : Named). z.key) ran.went.at.own) same
      (led_along n.key own (IsSame h'.view) (HasCounted own h'.view) (position (began_at own h')) goes_shown (position g)
      (first_fresh took going).unled (ran.went.goes (position (began_at own h')) starts) led)

  pub led_waited : (r : Arrived) → Settles g r → LedWaited r
  led_waited (arrived.Done token phase led) s =
      let a = arrives n own tries h h' g is crew took going some ran (arrived.Done token phase led) s in
      λ e. subst (λ (z : Holding). LedAfterAll z phase) (sym s.0)
      (led_now phase (a.3 ∙ ap (λ (z : Holding). z.view.phase) s.0) (sym s.3 ∙ e))
  led_waited (arrived.Left token phase led) s =
      let a = arrives n own tries h h' g is crew took going some ran (arrived.Left token phase led) s in
      λ e. subst (λ (z : Holding). LedAfterAll z phase) (sym s.0)
      (led_now phase (a.4 ∙ ap (λ (z : Holding). z.view.phase) s.0) (sym s.3 ∙ e))
  led_waited (arrived.AlreadyArrived token phase) s = tt
  led_waited (arrived.Ended token shown_as) s = tt
  led_waited (arrived.Busy token) s = tt
  led_waited (arrived.Owing going_on) s = tt

-- a call that is resumed
module _ (n : Named) (own : Passage) (tries : ℕ) (e g : Going) (is : e.token.tree ≡ n) (errand : IsErrand e) (ran : Ran n tries e g) where
  goes_noted : (at : Position) → Goes n.key (position e) at → PassAt own (λ u. ⊥) (IsSame e.token.view) at.view at.answer at.progress
  goes_noted at go = passes_count_no_more n.key own e.token.view (position e) at errand.owes refl errand.unled go

  led_then : (phase : ℕ) → phase ≡ g.token.view.phase → g.token.view.led ≡ true → LedAfterAll g.token phase
  led_then phase same led =
      led_token g.token phase (ap (λ (z : Named). z.key) ran.went.at.own) same
      (led_along n.key own (λ u. ⊥) (IsSame e.token.view) (position e) goes_noted (position g) errand.unled (ran.went.goes (position e) starts) led)

  pub led_on_waited : (r : Resumed) → Ends g r → LedOnWaited r
  led_on_waited (resumed.Done token phase led) s =
      λ l. subst (λ (z : Holding). LedAfterAll z phase) (sym s.0) (led_then phase s.2 (sym s.3 ∙ l))
  led_on_waited (resumed.Left token phase led) s =
      λ l. subst (λ (z : Holding). LedAfterAll z phase) (sym s.0) (led_then phase s.2 (sym s.3 ∙ l))
  led_on_waited (resumed.Owing going) s = tt

-- an arrival in place
module _ (n : Named) (h h' : Holding) (g : Going) (is : h.tree ≡ n) (crew : IsCrew h) (took : Looked Look 0 h h')
    (going : h'.word.ended ≡ false) (some : h'.view.arrived ≢ h'.view.size)
    (ran : RanOver n (began_at Arrival h') g) where
  whole : Ran n ran.used (began_at Arrival h') g
  whole = record { used = ran.used; went = ran.went; few = omega arith; all = λ e. not_both (is_going g.progress) e ran.over }

  pub led_in_place : (r : ArrivedInPlace) → Comes g r → LedInPlaceWaited g.token r
  led_in_place (came.Done phase led) s =
      led_waited n Arrival ran.used h h' g is crew took going some whole (arrived.Done g.token phase led) (refl, s.0, s.1, s.2)
  led_in_place (came.AlreadyArrived phase) s = tt
  led_in_place (came.Ended shown_as) s = tt

-- Which steps an arrival or a departure takes, by induction on its looks and steps.
use Rattle.std.proofs.Common.{◌≡◌, ℕ, zero, suc, Bool, true, false, cond, List, [], ◌∷◌, ◌++◌, refl, sym, ◌∙◌, ap, subst, append_assoc}
use Rattle.std.specs.List.{AllByRecursion}
use Rattle.phaser_word.specs.Fields.{Fields}
use Rattle.tier_shape.specs.Parents.{parent_of}
use Rattle.tier_steps.specs.Step.{owed, passed, looked, view_after}
use Rattle.tier_steps.specs.declared.kind.Kind.{Kind}
use Rattle.tier_steps.specs.declared.kind.Kind.TheVariants.{Look, Glance, Advance, Climb, Refresh}
use Rattle.tier_steps.specs.declared.view.View.{View}
use Rattle.tier_steps.specs.declared.view.Errand.{Errand}
use Rattle.tier_steps.specs.declared.view.Passage.{Passage}
use Rattle.tier_core.specs.declared.call.Played.{Played}
use Rattle.tier_core.specs.declared.call.Played.TheVariants.{GoesOn, Done}
use Rattle.tier_core.specs.declared.call.Progress.{Progress}
use Rattle.tier_core.specs.declared.call.Progress.TheVariants.{Idle, Begun, Seeking as ToSeek, Settling, GivingBack as ToGiveBack, Passing, Owing, Due, Refreshing}
use Rattle.tier_core.specs.declared.call.Turn.{Turn}
use Rattle.tier_core.specs.Turn.{pass_turn, climb_turn, own_kind, end_shown, lags, goes_on, reported, errand_place, place, turn_by}
use Rattle.tier_core.specs.Machine.{CallFits, is_going}
use Rattle.tier_core.proofs.Turns.{by_test}
use Rattle.tier_rule.specs.Look.{glance, looking}
use Rattle.tier_rule.specs.Tell.{Beside}
use Rattle.tier_rule.specs.declared.sight.Key.{Key}
use Rattle.tier_calls.specs.Next.{meant, is_look}
use Rattle.tier_calls.specs.Goes.{Position, Goes, starts, steps, looks, after_look}
use Rattle.tier_calls.specs.Passes.{PassAt}
use Rattle.tier_calls.specs.Made.{is_quiet, is_upward, MadeOnly, HasLooked, HasStepped, LedBy, MadeAt}
use Rattle.tier_calls.proofs.Turning.{by_cond, look_is}
use Rattle.tier_calls.proofs.Passing.{owed_cases, own_led, looked_unled, root_of}

-- one more step of such a kind
pub made_more : (is : Kind → Bool) (k : Kind) (old new : List Kind) → is k ≡ true → MadeOnly is old new → MadeOnly is old (k ∷ new)
made_more is k old new such m = (k ∷ m.0, ap (λ (ks : List Kind). k ∷ ks) m.1, (such, m.2))

pub made_none : (is : Kind → Bool) (old : List Kind) → MadeOnly is old old
made_none is old = ([], refl, tt)

all_more : (is : Kind → Bool) (xs ys : List Kind) → AllByRecursion (λ k. is k ≡ true) xs → AllByRecursion (λ k. is k ≡ true) ys
    → AllByRecursion (λ k. is k ≡ true) (xs ++ ys)
all_more is [] ys a b = b
all_more is (x ∷ xs) ys a b = (a.0, all_more is xs ys a.1 b)

-- some steps, and then some more
pub made_then : (is : Kind → Bool) {a b c : List Kind} → MadeOnly is a b → MadeOnly is b c → MadeOnly is a c
made_then is {a} {b} {c} x y =
    (y.0 ++ x.0, y.1 ∙ (ap (λ (ks : List Kind). y.0 ++ ks) x.1 ∙ sym (append_assoc y.0 x.0 a)), all_more is y.0 x.0 y.2 x.2)

-- kinds of steps that are among others
all_wider : (is wide : Kind → Bool) → ((k : Kind) → is k ≡ true → wide k ≡ true) → (xs : List Kind) → AllByRecursion (λ k. is k ≡ true) xs
    → AllByRecursion (λ k. wide k ≡ true) xs
all_wider is wide more [] a = a
all_wider is wide more (x ∷ xs) a = (more x a.0, all_wider is wide more xs a.1)

pub made_wider : (is wide : Kind → Bool) → ((k : Kind) → is k ≡ true → wide k ≡ true) → {a b : List Kind} → MadeOnly is a b
    → MadeOnly wide a b
made_wider is wide more m = (m.0, m.1, all_wider is wide more m.0 m.2)

pub glance_quiet : (t : ℕ) → is_quiet (glance t) ≡ true
glance_quiet zero = refl
glance_quiet (suc t) = refl

quiet_upward : (k : Kind) → is_quiet k ≡ true → is_upward k ≡ true
quiet_upward Look e = refl
quiet_upward Glance e = refl
quiet_upward Refresh e = refl
quiet_upward (Climb passage) e = refl
quiet_upward _ e = absurd (cc)

module _ (ps : List ℕ) (own : Passage) (P C : View → Type 0) (Q R : List Kind → Type 0)
    (waits : (k : Kind) (ks : List Kind) → is_quiet k ≡ true → Q ks → Q (k ∷ ks))
    (climbs : (k : Kind) (ks : List Kind) → is_upward k ≡ true → R ks → R (k ∷ ks))
    (counts : (ks : List Kind) → Q ks → R (own_kind own ∷ ks)) where
  unled : (b : Bool) (ks : List Kind) → b ≡ false → R ks → LedBy R b ks
  unled b ks is r = subst (λ (c : Bool). LedBy R c ks) (sym is) r

  -- how the call goes on from what is owed
  made_as_owed : (phase n above t : ℕ) (w : Fields) (passage passage' : Passage) (b : Bool) (ks : List Kind) → b ≡ false → R ks
      → MadeAt Q R b (reported phase n (owed above t passage w)) (goes_on passage' (owed above t passage w)) ks
  made_as_owed phase n above t w passage passage' b ks is r =
      owed_cases (λ e. MadeAt Q R b (reported phase n e) (goes_on passage' e) ks) above t passage w (unled b ks is r) r (λ to up. r)

  climb_made : (passage' : Passage) (above t : ℕ) (passage : Passage) (w : Fields) (u : View) (ks : List Kind) → u.led ≡ false → R ks
      → let r = pass_turn ps passage' t passage (Climb passage) (Owing passage') (Done u.phase) w u in
      MadeAt Q R (view_after above r.kind t w u).led r.answer r.next (r.kind ∷ ks)
  climb_made passage' above t passage w u ks l made =
      by_cond (λ r. MadeAt Q R (view_after above r.kind t w u).led r.answer r.next (r.kind ∷ ks)) w.ended _ _
      (λ e. unled (looked w u).led (Look ∷ ks) (looked_unled w u) (climbs Look ks refl made))
      (λ e. by_cond (λ r. MadeAt Q R (view_after above r.kind t w u).led r.answer r.next (r.kind ∷ ks)) (lags w u) _ _ (λ f. climbs Refresh ks refl made)
      (λ f. made_as_owed u.phase (passed t passage w).parties (parent_of ps t) t w passage passage' u.led (Climb passage ∷ ks) l (climbs (Climb passage) ks refl made)))

  own_made : (t : ℕ) (w : Fields) (u : View) (ks : List Kind) → u.led ≡ false → Q ks
      → let r = pass_turn ps own t own (own_kind own) (Passing own) (end_shown w) w u in
      MadeAt Q R (view_after (parent_of ps t) r.kind t w u).led r.answer r.next (r.kind ∷ ks)
  own_made t w u ks l made =
      by_cond (λ r. MadeAt Q R (view_after (parent_of ps t) r.kind t w u).led r.answer r.next (r.kind ∷ ks)) w.ended _ _
      (λ e. waits Look ks refl made)
      (λ e. by_cond (λ r. MadeAt Q R (view_after (parent_of ps t) r.kind t w u).led r.answer r.next (r.kind ∷ ks)) (lags w u) _ _ (λ f. waits Refresh ks refl made)
      (λ f. made_as_owed u.phase (passed t own w).parties (parent_of ps t) t w own own (view_after (parent_of ps t) (own_kind own) t w u).led (own_kind own ∷ ks)
      (own_led own (parent_of ps t) t w u l) (counts ks made)))

  -- after a step of the call
  step_made : (p : Progress) (u : View) (a : Played) (b : Bool) (w : Fields) (ks : List Kind) → PassAt own P C u a p → CallFits ps p u
      → is_going p ≡ true → MadeAt Q R u.led a p ks
      → let r = turn_by ps b w p u in
      MadeAt Q R (view_after (parent_of ps (place ps p u)) r.kind (place ps p u) w u).led r.answer r.next (r.kind ∷ ks)
  step_made Idle u a b w ks sh fits g made = absurd (cc)
  step_made (Begun c) u a b w ks sh fits g made = absurd sh
  step_made (ToSeek tier size) u a b w ks sh fits g made = absurd sh
  step_made Settling u a b w ks sh fits g made = absurd sh
  step_made (ToGiveBack answer) u a b w ks sh fits g made = absurd sh
  step_made (Passing passage) u a b w ks sh fits g made =
      subst
      (λ (z : Passage). let r = pass_turn ps z u.tier z (own_kind z) (Passing z) (end_shown w) w u in
      MadeAt Q R (view_after (parent_of ps u.tier) r.kind u.tier w u).led r.answer r.next (r.kind ∷ ks))
      (sym sh.0) (own_made u.tier w u ks sh.2.unled made)
  step_made (Owing own') u a b w ks sh fits g made =
      subst
      (λ (e : Errand). let r = climb_turn ps own' w u e in
      MadeAt Q R (view_after (parent_of ps (errand_place ps e)) r.kind (errand_place ps e) w u).led r.answer r.next (r.kind ∷ ks))
      (sym fits.2)
      (climb_made own' (parent_of ps fits.0) fits.0 fits.1 w u ks sh.1 made)
  step_made (Due own') u a b w ks sh fits g made =
      by_test (λ c. LedBy R (view_after (parent_of ps 0) (cond c Look (Advance b)) 0 w u).led (cond c Look (Advance b) ∷ ks)) w.ended
      (λ e. unled (looked w u).led (Look ∷ ks) (looked_unled w u) (climbs Look ks refl made))
      (λ e. (b, ks, refl, made))
  step_made (Refreshing passed_on) u a b w ks sh fits g made = absurd sh

  -- after a look that is none
  stay_made : (p : Progress) (u : View) (a : Played) (w : Fields) (ks : List Kind) (l : Bool) → PassAt own P C u a p → is_going p ≡ true
      → MadeAt Q R u.led a p ks
      → MadeAt Q R l GoesOn p (looking (meant p u) (place ps p u) w ∷ ks)
  stay_made Idle u a w ks l sh g made = absurd (cc)
  stay_made (Begun c) u a w ks l sh g made = absurd sh
  stay_made (ToSeek tier size) u a w ks l sh g made = absurd sh
  stay_made Settling u a w ks l sh g made = absurd sh
  stay_made (ToGiveBack answer) u a w ks l sh g made = absurd sh
  stay_made (Passing passage) u a w ks l sh g made = waits (glance u.tier) ks (glance_quiet u.tier) made
  stay_made (Owing own') u a w ks l sh g made =
      let t : ℕ = errand_place ps u.errand in climbs (glance t) ks (quiet_upward (glance t) (glance_quiet t)) made
  stay_made (Due own') u a w ks l sh g made = climbs Look ks refl made
  stay_made (Refreshing passed_on) u a w ks l sh g made = absurd sh

  look_made : (at : Position) (w : Fields) → PassAt own P C at.view at.answer at.progress → CallFits ps at.progress at.view
      → is_going at.progress ≡ true
      → Beside ps (place ps at.progress at.view) w at.view → MadeAt Q R at.view.led at.answer at.progress at.steps
      → MadeAt Q R (after_look ps w at).view.led (after_look ps w at).answer (after_look ps w at).progress (after_look ps w at).steps
  look_made at w sh fits g beside made =
      let r : Turn = turn_by ps false w at.progress at.view in
      let t : ℕ = place ps at.progress at.view in
      let kind : Kind = looking (meant at.progress at.view) t w in
      let u : View = view_after (parent_of ps t) kind t w at.view in
      let X : Bool → Type 0 =
      λ c. let x : Position =
      cond c (record { progress = r.next; view = u; answer = r.answer; steps = kind ∷ at.steps })
      (record { progress = at.progress; view = u; answer = GoesOn; steps = kind ∷ at.steps }) in
      MadeAt Q R x.view.led x.answer x.progress x.steps in
      let l = look_is ps w at.view (parent_of ps t) at.progress fits g (root_of ps t w at.view beside) in
      by_test X (is_look r.kind)
      (λ e. subst (λ (k : Kind). MadeAt Q R (view_after (parent_of ps t) k t w at.view).led r.answer r.next (k ∷ at.steps)) (sym (l.turn e))
      (step_made at.progress at.view at.answer false w at.steps sh fits g made))
      (λ e. stay_made at.progress at.view at.answer w at.steps u.led sh g made)

-- along a call
module _ (k : Key) (own : Passage) (P C : View → Type 0) (Q R : List Kind → Type 0)
    (waits : (x : Kind) (ks : List Kind) → is_quiet x ≡ true → Q ks → Q (x ∷ ks))
    (climbs : (x : Kind) (ks : List Kind) → is_upward x ≡ true → R ks → R (x ∷ ks))
    (counts : (ks : List Kind) → Q ks → R (own_kind own ∷ ks))
    (from : Position) (shown : (at : Position) → Goes k from at → PassAt own P C at.view at.answer at.progress) where
  pub made_along : (at : Position) → MadeAt Q R from.view.led from.answer from.progress from.steps → Goes k from at
      → MadeAt Q R at.view.led at.answer at.progress at.steps
  made_along at m starts = m
  made_along at m (steps at' w b go fits g beside says found) =
      step_made k.shape own P C Q R waits climbs counts at'.progress at'.view at'.answer b w at'.steps (shown at' go) fits g
      (made_along at' m go)
  made_along at m (looks at' w go fits g beside) =
      look_made k.shape own P C Q R waits climbs counts at' w (shown at' go) fits g beside (made_along at' m go)

-- what is made on the way to the step at the token's tier, and after it
pub stepped_more : (own : Passage) (old : List Kind) (k : Kind) (ks : List Kind) → is_upward k ≡ true → HasStepped own old ks
    → HasStepped own old (k ∷ ks)
stepped_more own old k ks such m = (m.0, m.1, made_more is_upward k (own_kind own ∷ m.0) ks such m.2)

pub steps_own : (own : Passage) (old ks : List Kind) → HasLooked old ks → HasStepped own old (own_kind own ∷ ks)
steps_own own old ks m = (ks, m, made_none is_upward (own_kind own ∷ ks))

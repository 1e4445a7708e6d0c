-- Arrivals whose crew isn't moved.
use Rattle.std.specs.Prelude.{ℤ}
use Rattle.std.proofs.Common.{◌≡◌, ◌≢◌, ℕ, true, false, refl, sym, subst, arith}
use Rattle.phaser_word.specs.Phase.{shown_of}
use Rattle.tier_steps.specs.declared.view.View.{View}
use Rattle.tier_steps.specs.declared.view.Passage.TheVariants.{Arrival}
use Rattle.tier_steps.specs.declared.kind.Kind.TheVariants.{Look}
use Rattle.tier_core.specs.declared.call.Progress.{Progress}
use Rattle.tier_core.specs.declared.call.Progress.TheVariants.{Idle, Begun, Seeking as ToSeek, Settling, GivingBack as ToGiveBack, Passing, Owing, Due, Refreshing}
use Rattle.tier_core.specs.declared.call.Played.{Played}
use Rattle.tier_core.specs.declared.call.Played.TheVariants as played
use Rattle.tier_core.specs.Machine.{CallFits, is_going}
use Rattle.tier_core.proofs.Turns.{not_both}
use Rattle.tier_rule.specs.Tell.{Beside}
use Rattle.tier_calls.specs.declared.going.Going.{Going}
use Rattle.tier_calls.specs.declared.arriving.Arrived.TheVariants as arrived
use Rattle.tier_calls.specs.declared.in_place.ArrivedInPlace.{ArrivedInPlace}
use Rattle.tier_calls.specs.declared.in_place.ArrivedInPlace.TheVariants as came
use Rattle.tier_calls.specs.Holding.{Named, Holding, Looked, IsCrew}
use Rattle.tier_calls.specs.Passes.{IsSame, HasCounted, PassAt}
use Rattle.tier_calls.specs.Goes.{Ran}
use Rattle.tier_calls.specs.InPlace.{ArrivesInPlace, RanOver, MayCome, Comes}
use Rattle.tier_calls.proofs.Settling.{began_at, first, first_ended, first_arrived, crew_by, shown, may_settle, arrives}

-- an arrival that is over is in no call
over_idle : (P C : View → Type 0) (u : View) (a : Played) (p : Progress) → PassAt Arrival P C u a p → is_going p ≡ false → p ≡ Idle
over_idle P C u a Idle s e = refl
over_idle P C u a (Begun x) s e = absurd s
over_idle P C u a (ToSeek tier size) s e = not_both true refl e
over_idle P C u a Settling s e = not_both true refl e
over_idle P C u a (ToGiveBack b) s e = not_both true refl e
over_idle P C u a (Passing passage) s e = not_both true refl e
over_idle P C u a (Owing passage) s e = not_both true refl e
over_idle P C u a (Due passage) s e = not_both true refl e
over_idle P C u a (Refreshing moved_on) s e = not_both true refl e

-- its members are as many as before
size_at : (v u : View) (a : Played) (p : Progress) → PassAt Arrival (IsSame v) (HasCounted Arrival v) u a p → p ≡ Idle → u.size ≡ v.size
size_at v u played.GoesOn Idle s e = absurd s
size_at v u (played.Done phase) Idle s e = (s.0.arrival refl).0
size_at v u (played.Passed phase) Idle s e = absurd s
size_at v u played.Waiting Idle s e = absurd s
size_at v u (played.Held phase cause) Idle s e = absurd s
size_at v u (played.Full count) Idle s e = absurd s
size_at v u (played.AlreadyArrived phase) Idle s e = absurd s
size_at v u (played.Ended shown) Idle s e = s.0.size
size_at v u (played.MustAdvance phase count) Idle s e = absurd s
size_at v u a (Begun x) s e = absurd s
size_at v u a (ToSeek tier size) s e = absurd s
size_at v u a Settling s e = absurd s
size_at v u a (ToGiveBack b) s e = absurd s
size_at v u a (Passing passage) s e = s.1.size
size_at v u a (Owing passage) s e = (s.0.arrival refl).0
size_at v u a (Due passage) s e = (s.0.arrival refl).0
size_at v u a (Refreshing moved_on) s e = absurd s

pub first_stays : {h h' : Holding} {phase : ℕ} → IsCrew h → Looked Look 0 h h' → h'.word.ended ≡ false → h'.view.arrived ≡ h'.view.size
    → phase ≡ h'.view.phase → ArrivesInPlace h h' (came.AlreadyArrived phase)
first_stays {h} {h'} {phase} crew took going all is =
    let a = first_arrived {h = h} {h' = h'} {phase = phase} Arrival 0 crew took going all is in
    (a.0.tree, a.0.opened, a.1, a.2, a.3, a.4, a.5)

pub first_is_over : {h h' : Holding} {shown : ℤ} → IsCrew h → Looked Look 0 h h' → h'.word.ended ≡ true
    → shown ≡ shown_of h'.word.phase h'.word.ended → ArrivesInPlace h h' (came.Ended shown)
first_is_over {h} {h'} {shown} crew took e is = let a = first_ended {h = h} {h' = h'} {shown = shown} Arrival 0 crew took e is in
    (a.0.tree, a.0.opened, a.1, a.2, a.3)

module _ (n : Named) (h h' : Holding) (g : Going) (is : h.tree ≡ n) (crew : IsCrew h) (took : Looked Look 0 h h')
    (going : h'.word.ended ≡ false) (some : h'.view.arrived ≢ h'.view.size)
    (ran : RanOver n (began_at Arrival h') g) where
  whole : Ran n ran.used (began_at Arrival h') g
  whole = record { used = ran.used; went = ran.went; few = omega arith; all = λ e. not_both (is_going g.progress) e ran.over }

  pub may_come : MayCome g
  may_come = record { may = may_settle n Arrival ran.used h h' g is crew took going some whole; over = ran.over }

  idle : g.progress ≡ Idle
  idle =
      over_idle (IsSame h'.view) (HasCounted Arrival h'.view) g.token.view g.answer g.progress
      (shown n Arrival ran.used h h' g is crew took going some whole) ran.over

  pub still_crew : IsCrew g.token
  still_crew =
      let size = size_at h'.view g.token.view g.answer g.progress (shown n Arrival ran.used h h' g is crew took going some whole) idle in
      let looked = (first h h' crew took).looked.size in
      let before = crew.some in
      crew_by g.token
      (subst (λ (z : Named). Beside z.key.shape g.token.tier g.token.word g.token.view) (sym ran.went.at.own) ran.went.at.known)
      (omega arith)
      (subst (λ (p : Progress). CallFits n.key.shape p g.token.view) idle ran.went.at.fits)

  pub stays : (r : ArrivedInPlace) → Comes g r → ArrivesInPlace h g.token r
  stays (came.Done phase led) s =
      let a = arrives n Arrival ran.used h h' g is crew took going some whole (arrived.Done g.token phase led) (refl, s.0, s.1, s.2) in
      (a.0.tree, a.0.opened, a.1, a.2, a.3, a.4, a.5)
  stays (came.AlreadyArrived phase) s = absurd s
  stays (came.Ended shown) s =
      let a = arrives n Arrival ran.used h h' g is crew took going some whole (arrived.Ended g.token shown) (refl, s.0, s.1) in
      (a.0.tree, a.0.opened, a.1, a.2, a.3)

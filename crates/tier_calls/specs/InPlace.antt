-- What an arrival in place answers, by the views of its token before and after (not part of Java's API).
use Rattle.std.specs.Prelude.{false, ◌≡◌, ℕ, ◌∷◌}
use Rattle.tier_steps.specs.declared.kind.Kind.TheVariants.{Look}
use Rattle.tier_steps.specs.declared.view.Errand.TheVariants.{Rest}
use Rattle.tier_steps.specs.declared.view.Passage.TheVariants.{Arrival}
use Rattle.tier_core.specs.declared.call.Progress.TheVariants as progress
use Rattle.tier_core.specs.declared.call.Played.TheVariants as played
use Rattle.tier_core.specs.Machine.{is_going}
use Rattle.tier_calls.specs.declared.going.Going.{Going}
use Rattle.tier_calls.specs.Holding.{Named, Holding}
use Rattle.tier_calls.specs.Made.{HasLooked, HasStepped, LedBy}
use Rattle.tier_calls.specs.Passes.{EndSeen, IsFresh}
use Rattle.tier_calls.specs.Goes.{WentOn}
use Rattle.tier_calls.specs.Arrives.{IsLooked, HasPassed, MaySettle}
use Rattle.tier_calls.specs.declared.in_place.ArrivedInPlace.{ArrivedInPlace}
use Rattle.tier_calls.specs.declared.in_place.ArrivedInPlace.TheVariants.{Done, AlreadyArrived, Ended}

-- what each answer says, as for an arrival that takes its crew
abbrev pub ArrivesInPlace : Holding → Holding → ArrivedInPlace → Type 0
ArrivesInPlace old new (Done phase led) =
    (new.tree ≡ old.tree) × (new.opened ≡ old.opened) × HasPassed Arrival old.view new.view × (new.view.errand ≡ Rest)
    × (phase ≡ new.view.phase) × (led ≡ new.view.led)
    × LedBy (HasStepped Arrival old.steps) led new.steps
ArrivesInPlace old new (AlreadyArrived phase) =
    (new.tree ≡ old.tree) × (new.opened ≡ old.opened) × IsLooked old.view new.view × IsFresh new.view × (new.view.arrived ≡ new.view.size)
    × (phase ≡ new.view.phase)
    × HasLooked old.steps new.steps
ArrivesInPlace old new (Ended shown) =
    (new.tree ≡ old.tree) × (new.opened ≡ old.opened) × IsLooked old.view new.view × EndSeen new.view shown × HasLooked old.steps new.steps

-- AlreadyArrived follows the look that begins the call, alone.
abbrev pub FindsArrived : Holding → Holding → ArrivedInPlace → Type 0
FindsArrived old new (Done phase led) = Unit {0}
FindsArrived old new (AlreadyArrived phase) = new.steps ≡ Look ∷ old.steps
FindsArrived old new (Ended shown) = Unit {0}

-- the answer says that the tree has ended
abbrev pub HasEnded : ArrivedInPlace → Type 0
HasEnded (Ended shown) = Unit {0}
HasEnded (Done phase led) = ⊥
HasEnded (AlreadyArrived phase) = ⊥

-- a call before and after some tries, after which it is over
pub record RanOver (n : Named) (old new : Going) : Type 0 where
  pub used : ℕ
  pub went : WentOn n used old new
  pub over : is_going new.progress ≡ false

-- an arrival that is over
pub record MayCome (g : Going) : Type 0 where
  pub may : MaySettle g
  pub over : is_going g.progress ≡ false

-- the answer of an arrival that is over
abbrev pub Comes : Going → ArrivedInPlace → Type 0
Comes g (Done phase led) = (g.progress ≡ progress.Idle) × (g.answer ≡ played.Done phase) × (led ≡ g.token.view.led)
Comes g (AlreadyArrived phase) = ⊥
Comes g (Ended shown) = (g.progress ≡ progress.Idle) × (g.answer ≡ played.Ended shown)

-- What the steps of a flat phaser mean to those who use it.
use Rattle.std.specs.Prelude.{◌≡◌, ℕ, ◌+◌, Bool, true, false, ◌==◌, if◌then◌else◌, List, [], ◌∷◌}
use Rattle.phaser_word.specs.Phase.{next_phase_of}
use Rattle.flat_phaser.specs.Flat.{Flat, Member, members_of, arrived_of, everyone_arrived, unarrived, empty_in}
use Rattle.flat_phaser.specs.Step.{FlatStep, Join, Arrive, Leave, Advance, flat_step, taken, MayTake, IsFlatRun, flat_run}
use Rattle.flat_phaser.specs.Alike.{IsAlike, IsSound, MayLeave}

-- In every run, from a phaser without members, an advance may come only when everyone who is registered has arrived.
abbrev pub AdvancesWhenAllArrived : Type 0
AdvancesWhenAllArrived = (phase : ℕ) (steps : List FlatStep) → IsFlatRun steps (empty_in phase) → IsSound (flat_run steps (empty_in phase))

-- everyone has arrived exactly if each owner's members have
abbrev pub EveryoneIsEachOwner : Type 0
EveryoneIsEachOwner =
    (phase : ℕ) (members : List Member)
    → ((everyone_arrived phase members ≡ true) → (owner : ℕ) → arrived_of phase owner members ≡ members_of owner members)
    × (((owner : ℕ) → arrived_of phase owner members ≡ members_of owner members) → everyone_arrived phase members ≡ true)

-- An arrival counts in one phase only: after an advance nobody has arrived.
abbrev pub ArrivalsCountOnce : Type 0
ArrivalsCountOnce =
    (f : Flat) (ends : Bool) → everyone_arrived f.phase f.members ≡ true
    → (owner : ℕ) → arrived_of (taken (Advance ends) f).phase owner (taken (Advance ends) f).members ≡ 0

-- how many more have arrived after a step: one more of the owner that arrives
abbrev pub arrivals_of : FlatStep → ℕ → ℕ
arrivals_of (Arrive who) owner = if who == owner then 1 else 0
arrivals_of _ owner = 0

-- whether a step takes the next phase
abbrev pub is_advance : FlatStep → Bool
is_advance (Advance ends) = true
is_advance _ = false

-- Between two advances no arrival is lost, and none comes but by an arrival.
abbrev pub NoArrivalIsLost : Type 0
NoArrivalIsLost =
    (f : Flat) (step : FlatStep) → f.ended ≡ false → MayTake step f → is_advance step ≡ false
    → ((flat_step step f).phase ≡ f.phase)
    × ((owner : ℕ) → arrived_of f.phase owner (flat_step step f).members ≡ arrived_of f.phase owner f.members + arrivals_of step owner)

-- A step takes some member of the owner that hasn't arrived.
abbrev pub StepsAreTaken : Type 0
StepsAreTaken = (step : FlatStep) (f : Flat) → MayTake step f → MayLeave step f (taken step f)

-- Alike stays alike, whichever member each step takes.
abbrev pub AlikeStaysAlike : Type 0
AlikeStaysAlike =
    (step : FlatStep) (f f' g g' : Flat) → IsSound f → IsAlike f g → MayLeave step f f' → MayLeave step g g' → IsAlike f' g' × IsSound f'

-- An advance is due exactly if all members of every owner have arrived.
pub record TellsDue (f : Flat) : Type 0 where
  pub due : f.due ≡ true → (owner : ℕ) → arrived_of f.phase owner f.members ≡ members_of owner f.members
  pub everyone : ((owner : ℕ) → arrived_of f.phase owner f.members ≡ members_of owner f.members) → f.due ≡ true

-- It is so after every arrival and after every departure.
abbrev pub DueTellsEveryone : Type 0
DueTellsEveryone =
    (f : Flat) (owner : ℕ) → f.ended ≡ false → MayTake (Arrive owner) f
    → TellsDue (flat_step (Arrive owner) f) × TellsDue (flat_step (Leave owner) f)

-- the advance may come, and takes the phase that follows the one before
pub record BringsAdvance (ends : Bool) (before after : Flat) : Type 0 where
  pub may : MayTake (Advance ends) after
  pub next : (flat_step (Advance ends) after).phase ≡ next_phase_of before.phase
  pub end : (flat_step (Advance ends) after).ended ≡ ends

-- If the last member that hasn't arrived arrives or leaves, the advance comes.
abbrev pub TheLastBringsTheAdvance : Type 0
TheLastBringsTheAdvance =
    (f : Flat) (owner : ℕ) (ends : Bool) → f.ended ≡ false → unarrived f ≡ 1 → MayTake (Arrive owner) f
    → BringsAdvance ends f (flat_step (Arrive owner) f) × BringsAdvance ends f (flat_step (Leave owner) f)

-- One member that has joined is the last that hasn't arrived, so that what these laws ask for is found.
pub record IsLast (f : Flat) : Type 0 where
  pub going : f.ended ≡ false
  pub one : unarrived f ≡ 1
  pub awaited : MayTake (Arrive 0) f
  pub reached : IsFlatRun (Join 0 1 ∷ []) (empty_in 0)

abbrev pub OneMemberIsLast : Type 0
OneMemberIsLast = IsLast (flat_run (Join 0 1 ∷ []) (empty_in 0))

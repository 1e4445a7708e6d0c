-- What calls that wait answer, by the view of their token: as the calls that they repeat, without a number of tries (own).
use Rattle.std.specs.Prelude.{◌≡◌, ℕ, ◌<◌, true, Result, Ok, Err, List, ◌∷◌}
use Rattle.tier_steps.specs.declared.kind.Kind.{Kind}
use Rattle.tier_steps.specs.declared.kind.Kind.TheVariants.{Look}
use Rattle.tier_steps.specs.declared.view.Errand.TheVariants.{Rest}
use Rattle.tier_steps.specs.declared.view.Passage.{Passage}
use Rattle.tier_steps.specs.declared.view.Passage.TheVariants.{Departure}
use Rattle.tier_core.specs.declared.call.Played.TheVariants as played
use Rattle.tier_calls.specs.Holding.{Named, Holding}
use Rattle.tier_calls.specs.Passes.{IsSame, EndSeen, IsFresh}
use Rattle.tier_calls.specs.Arrives.{IsLooked, HasPassed}
use Rattle.tier_calls.specs.Joins.{IsJoined, Refusal}
use Rattle.tier_calls.specs.Polls.{HasPassedOn, HasCaughtUp}
use Rattle.tier_calls.specs.Waited.{SawAdvance, SawEnd}
use Rattle.tier_calls.specs.Led.{LedAfterAll}
use Rattle.tier_calls.specs.Made.{MadeOnly, HasLooked, HasStepped, LedBy, is_quiet, is_upward}
use Rattle.tier_table.specs.declared.waiting.RegisteredAtLast.{RegisteredAtLast}
use Rattle.tier_table.specs.declared.waiting.RegisteredAtLast.TheVariants as admitted
use Rattle.tier_table.specs.declared.waiting.ArrivedAtLast.{ArrivedAtLast}
use Rattle.tier_table.specs.declared.waiting.ArrivedAtLast.TheVariants as counted
use Rattle.tier_table.specs.declared.waiting.AwaitedAdvance.{AwaitedAdvance}
use Rattle.tier_table.specs.declared.waiting.AwaitedAdvance.TheVariants as awaited
use Rattle.sleepers.specs.declared.TimedOut.{TimedOut}

-- a registration of this many members at this tier of a tree
abbrev pub RegistersAtLast : Named → ℕ → ℕ → RegisteredAtLast → Type 0
RegistersAtLast n tier size (admitted.Joined crew phase) =
    (crew.tree ≡ n) × IsJoined tier size crew.view × (crew.view.errand ≡ Rest) × (phase ≡ crew.view.phase)
RegistersAtLast n tier size (admitted.Full door count) = (door.tree ≡ n) × Refusal n.key.shape tier size door.view (played.Full count)
RegistersAtLast n tier size (admitted.Ended door shown) = (door.tree ≡ n) × EndSeen door.view shown

-- one whose path is opened: it is held off, or is answered
abbrev pub OpensAtLast : Named → ℕ → ℕ → Result RegisteredAtLast Holding → Type 0
OpensAtLast n tier size (Ok answer) = RegistersAtLast n tier size answer
OpensAtLast n tier size (Err door) = door.tree ≡ n

-- an arrival or a departure
abbrev pub ArrivesAtLast : Passage → Holding → ArrivedAtLast → Type 0
ArrivesAtLast own h (counted.Done crew phase led) =
    (crew.tree ≡ h.tree) × HasPassed own h.view crew.view × (crew.view.errand ≡ Rest) × (phase ≡ crew.view.phase) × (led ≡ crew.view.led)
ArrivesAtLast own h (counted.Left door phase led) =
    (own ≡ Departure) × (door.tree ≡ h.tree) × HasPassed own h.view door.view × (door.view.errand ≡ Rest) × (phase ≡ door.view.phase)
    × (led ≡ door.view.led)
ArrivesAtLast own h (counted.AlreadyArrived crew phase) =
    (crew.tree ≡ h.tree) × IsLooked h.view crew.view × IsFresh crew.view × (crew.view.arrived ≡ crew.view.size) × (phase ≡ crew.view.phase)
ArrivesAtLast own h (counted.Ended crew shown) = (crew.tree ≡ h.tree) × IsLooked h.view crew.view × EndSeen crew.view shown

-- one that has counted: no member is counted any more
abbrev pub ResumesAtLast : Holding → ArrivedAtLast → Type 0
ResumesAtLast h (counted.Done crew phase led) =
    (crew.tree ≡ h.tree) × IsSame h.view crew.view × (crew.view.errand ≡ Rest) × (phase ≡ crew.view.phase) × (led ≡ crew.view.led)
ResumesAtLast h (counted.Left door phase led) =
    (door.tree ≡ h.tree) × IsSame h.view door.view × (door.view.errand ≡ Rest) × (phase ≡ door.view.phase) × (led ≡ door.view.led)
ResumesAtLast h (counted.AlreadyArrived crew phase) = ⊥
ResumesAtLast h (counted.Ended crew shown) = ⊥

-- a crew that waits until its phase has passed
abbrev pub AwaitsAdvance : Holding → Holding → AwaitedAdvance → Type 0
AwaitsAdvance old new (awaited.Passed phase) =
    IsLooked old.view new.view × IsFresh new.view × HasPassedOn old new × (phase ≡ new.view.phase)
AwaitsAdvance old new (awaited.Here phase) =
    IsLooked old.view new.view × IsFresh new.view × (new.view.arrived < new.view.size) × (phase ≡ new.view.phase)
AwaitsAdvance old new (awaited.Ended shown) = IsLooked old.view new.view × EndSeen new.view shown

-- a crew that has given up its wait: it is as it was, and at its last look the phase in which all its members have arrived was not over
pub record IsWaiting (old new : Holding) : Type 0 where
  pub same : IsSame old.view new.view
  pub fresh : IsFresh new.view
  pub all : new.view.arrived ≡ new.view.size

-- a crew that waits until its phase has passed, or gives up
abbrev pub AwaitsWithin : Holding → Holding → Result AwaitedAdvance TimedOut → Type 0
AwaitsWithin old new (Ok answer) = AwaitsAdvance old new answer
AwaitsWithin old new (Err fault) = IsWaiting old new

-- the crew before the last look of its wait: it had only looked
pub record HasOnlyLooked (old last : Holding) : Type 0 where
  pub tree : last.tree ≡ old.tree
  pub view : IsSame old.view last.view
  pub made : MadeOnly is_quiet old.steps last.steps

-- A crew that waits answers that its phase has passed only if all had arrived in it.
abbrev pub AwaitWaited : Holding → Holding → AwaitedAdvance → Type 0
AwaitWaited old new (awaited.Passed phase) = (last : Holding) × HasOnlyLooked old last × SawAdvance last new phase
AwaitWaited old new (awaited.Here phase) = Unit {0}
AwaitWaited old new (awaited.Ended shown) = (last : Holding) × HasOnlyLooked old last × SawEnd last new

-- the token that is handed back
abbrev pub token_admitted : RegisteredAtLast → Holding
token_admitted (admitted.Joined crew phase) = crew
token_admitted (admitted.Full door count) = door
token_admitted (admitted.Ended door shown) = door

abbrev pub token_counted : ArrivedAtLast → Holding
token_counted (counted.Done crew phase led) = crew
token_counted (counted.Left door phase led) = door
token_counted (counted.AlreadyArrived crew phase) = crew
token_counted (counted.Ended crew shown) = crew

-- the steps of the token that is handed back
abbrev pub steps_of : Result RegisteredAtLast Holding → List Kind
steps_of (Ok answer) = (token_admitted answer).steps
steps_of (Err door) = door.steps

-- Which steps the token of an arrival or a departure took: as in a call with tries, however often it was repeated. AlreadyArrived follows
-- the look that begins the call, alone.
abbrev pub PassedBy : Passage → List Kind → ArrivedAtLast → Type 0
PassedBy own old (counted.Done crew phase led) = LedBy (HasStepped own old) led crew.steps
PassedBy own old (counted.Left door phase led) = LedBy (HasStepped own old) led door.steps
PassedBy own old (counted.AlreadyArrived crew phase) = crew.steps ≡ Look ∷ old
PassedBy own old (counted.Ended crew shown) = HasLooked old crew.steps

-- one that has counted
abbrev pub ResumedBy : List Kind → ArrivedAtLast → Type 0
ResumedBy old (counted.Done crew phase led) = LedBy (MadeOnly is_upward old) led crew.steps
ResumedBy old (counted.Left door phase led) = LedBy (MadeOnly is_upward old) led door.steps
ResumedBy old (counted.AlreadyArrived crew phase) = ⊥
ResumedBy old (counted.Ended crew shown) = ⊥

-- a crew that has looked and has an unarrived member, when the tries of its call ran out
pub record HasWaited (old new : Holding) : Type 0 where
  pub looked : HasLooked old.steps new.steps
  pub some : new.view.arrived < new.view.size

-- if a member is to arrive, its tier was brought into its phase
abbrev pub CaughtUpBy : AwaitedAdvance → Holding → Type 0
CaughtUpBy (awaited.Passed phase) new = HasCaughtUp new
CaughtUpBy (awaited.Here phase) new = HasCaughtUp new
CaughtUpBy (awaited.Ended shown) new = Unit {0}

-- An arrival or a departure answers that it led only if all had arrived.
abbrev pub LedAtLast : ArrivedAtLast → Type 0
LedAtLast (counted.Done crew phase led) = led ≡ true → LedAfterAll crew phase
LedAtLast (counted.Left door phase led) = led ≡ true → LedAfterAll door phase
LedAtLast (counted.AlreadyArrived crew phase) = Unit {0}
LedAtLast (counted.Ended crew shown) = Unit {0}

-- this many tokens were split off it
abbrev pub HasSplit : ℕ → Result RegisteredAtLast Holding → Type 0
HasSplit n (Ok answer) = (token_admitted answer).opened ≡ n
HasSplit n (Err door) = door.opened ≡ n

-- they say that the tree has ended
abbrev pub HasEndedJoin : RegisteredAtLast → Type 0
HasEndedJoin (admitted.Ended door shown) = Unit {0}
HasEndedJoin (admitted.Joined crew phase) = ⊥
HasEndedJoin (admitted.Full door count) = ⊥

abbrev pub HasEndedArrival : ArrivedAtLast → Type 0
HasEndedArrival (counted.Ended crew shown) = Unit {0}
HasEndedArrival (counted.Done crew phase led) = ⊥
HasEndedArrival (counted.Left door phase led) = ⊥
HasEndedArrival (counted.AlreadyArrived crew phase) = ⊥

abbrev pub HasEndedWait : AwaitedAdvance → Type 0
HasEndedWait (awaited.Ended shown) = Unit {0}
HasEndedWait (awaited.Passed phase) = ⊥
HasEndedWait (awaited.Here phase) = ⊥

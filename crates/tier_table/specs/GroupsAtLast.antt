-- What calls that wait answer to a group of tokens: as the calls that they repeat (not part of Java's API).
use Rattle.std.specs.Prelude.{◌≡◌, ◌≢◌, ℕ, ◌⊎◌, Bool, false, Option, Result, Ok, Err}
use Rattle.tier_calls.specs.Holding.{Holding}
use Rattle.tier_calls.specs.Passes.{IsSame, IsFresh}
use Rattle.tier_calls.specs.Arrives.{IsLooked}
use Rattle.tier_calls.specs.Made.{HasLooked}
use Rattle.tier_calls.specs.Groups.{GroupHeld}
use Rattle.tier_calls.specs.ArrivesAll.{Each, Did, ArrivesAll, PollsAll, AllCaughtUpBy}
use Rattle.tier_calls.specs.ArrivesWith.{ArrivesWith}
use Rattle.tier_calls.specs.Finishes.{IsWhole}
use Rattle.tier_calls.specs.Waited.{PollAllWaited, WaitedFor}
use Rattle.tier_calls.specs.declared.going.Going.{Going}
use Rattle.tier_calls.specs.declared.groups.ArrivedAll.TheVariants as arrived
use Rattle.tier_calls.specs.declared.arriving_with.ArrivedWith.TheVariants as arrived_with
use Rattle.tier_calls.specs.declared.polling.Polled.{Polled}
use Rattle.tier_calls.specs.declared.polling.Polled.TheVariants as polled
use Rattle.tier_table.specs.AtLast.{ResumesAtLast, ResumedBy, LedAtLast}
use Rattle.tier_table.specs.declared.waiting.ArrivedAtLast.TheVariants as counted
use Rattle.tier_table.specs.declared.waiting.AwaitedAdvance.{AwaitedAdvance}
use Rattle.tier_table.specs.declared.waiting.AwaitedAdvance.TheVariants as awaited
use Rattle.sleepers.specs.declared.TimedOut.{TimedOut}
use Rattle.tier_table.specs.declared.groups.GroupArrived.{GroupArrived}
use Rattle.tier_table.specs.declared.groups.GroupArrived.TheVariants as group_arrived

-- the tokens after tries that counted nothing: each has looked at the root, and then only looked and refreshed
pub record HaveLookedOn (old new : GroupHeld) : Type 0 where
  pub tree : new.tree ≡ old.tree
  pub view : IsLooked old.view new.view
  pub tries : ℕ
  pub tokens : Each (Did HasLooked tries) old.tokens new.tokens

-- the group before the last try of a call
abbrev pub IsBefore : GroupHeld → GroupHeld → Type 0
IsBefore old last = (last ≡ old) ⊎ HaveLookedOn old last

-- the rest of an arrival that was counted: what the token owes, and then its group as a whole; the call advanced the tree only if all had
-- arrived
abbrev pub FinishesAtLast : Holding → Option GroupHeld → GroupHeld → ℕ → Bool → Type 0
FinishesAtLast h others new phase led =
    (crew : Holding) × ResumesAtLast h (counted.Done crew phase led) × (crew.opened ≡ h.opened)
    × ResumedBy h.steps (counted.Done crew phase led) × IsWhole crew others new
    × LedAtLast (counted.Done crew phase led)

-- All members have arrived, by one exchange. If they were the last of their tier, what follows was done too.
abbrev pub AllArriveAtLast : ℕ → GroupHeld → GroupHeld → ℕ → Bool → Type 0
AllArriveAtLast tries last new phase led =
    (ArrivesAll last tries (arrived.Done new phase) × (led ≡ false))
    ⊎ ((errand : Going) × (rest : Option GroupHeld) × ArrivesAll last tries (arrived.Owing errand rest)
    × FinishesAtLast errand.token rest new phase led)

-- what an arrival of all members answers
abbrev pub ArrivesAllAtLast : ℕ → GroupHeld → GroupArrived → Type 0
ArrivesAllAtLast tries old (group_arrived.Done new phase led) =
    (last : GroupHeld) × IsBefore old last × AllArriveAtLast tries last new phase led
ArrivesAllAtLast tries old (group_arrived.AlreadyArrived new phase) =
    (last : GroupHeld) × IsBefore old last × ArrivesAll last tries (arrived.AlreadyArrived new phase)
ArrivesAllAtLast tries old (group_arrived.Ended new shown) =
    (last : GroupHeld) × IsBefore old last × ArrivesAll last tries (arrived.Ended new shown)
ArrivesAllAtLast tries old (group_arrived.Full new parties) = ⊥

-- New members have joined and arrived, others have left, and the rest has arrived, by one exchange. If they were the last of their tier,
-- what follows was done too.
abbrev pub AllArriveWithAtLast : ℕ → ℕ → ℕ → GroupHeld → GroupHeld → ℕ → Bool → Type 0
AllArriveWithAtLast tries joining leaving last new phase led =
    (ArrivesWith tries joining leaving last (arrived_with.Done new phase) × (led ≡ false))
    ⊎ ((errand : Going) × (rest : Option GroupHeld) × ArrivesWith tries joining leaving last (arrived_with.Owing errand rest)
    × FinishesAtLast errand.token rest new phase led)

-- what such an arrival answers
abbrev pub ArrivesWithAtLast : ℕ → ℕ → ℕ → GroupHeld → GroupArrived → Type 0
ArrivesWithAtLast tries joining leaving old (group_arrived.Done new phase led) =
    (last : GroupHeld) × IsBefore old last × AllArriveWithAtLast tries joining leaving last new phase led
ArrivesWithAtLast tries joining leaving old (group_arrived.AlreadyArrived new phase) =
    (last : GroupHeld) × IsBefore old last × ArrivesWith tries joining leaving last (arrived_with.AlreadyArrived new phase)
ArrivesWithAtLast tries joining leaving old (group_arrived.Ended new shown) =
    (last : GroupHeld) × IsBefore old last × ArrivesWith tries joining leaving last (arrived_with.Ended new shown)
ArrivesWithAtLast tries joining leaving old (group_arrived.Full new parties) =
    (last : GroupHeld) × IsBefore old last × ArrivesWith tries joining leaving last (arrived_with.Full new parties)

-- the group before the last look of its wait: its members are as before
pub record HaveWaited (old last : GroupHeld) : Type 0 where
  pub tree : last.tree ≡ old.tree
  pub view : IsSame old.view last.view
  pub before : IsBefore old last

-- what a wait for the next phase answers
abbrev pub polled_of : AwaitedAdvance → Polled
polled_of (awaited.Passed phase) = polled.Passed phase
polled_of (awaited.Here phase) = polled.Here phase
polled_of (awaited.Ended shown) = polled.Ended shown

pub record AwaitsAll (old new : GroupHeld) (answer : AwaitedAdvance) : Type 0 where
  pub last : GroupHeld
  pub waited : HaveWaited old last
  pub polls : PollsAll last new (polled_of answer)
  -- the phase has passed only after all members of all tokens had arrived in it
  pub all : PollAllWaited last new (polled_of answer)
  -- if the members are to arrive, their tier was brought into their phase
  pub caught_up : AllCaughtUpBy (polled_of answer) new

-- the tokens that an answer returns
abbrev pub tokens_arrived : GroupArrived → GroupHeld
tokens_arrived (group_arrived.Done new phase led) = new
tokens_arrived (group_arrived.Full new parties) = new
tokens_arrived (group_arrived.AlreadyArrived new phase) = new
tokens_arrived (group_arrived.Ended new shown) = new

-- members that have given up their wait: they are as they were, and at their last look their phase was not over
pub record AllWait (old new : GroupHeld) : Type 0 where
  pub same : IsSame old.view new.view
  pub looked : HaveLookedOn old new
  pub fresh : IsFresh new.view
  pub all : new.view.arrived ≡ 1

-- members that wait until their phase has passed, or give up
abbrev pub AwaitsAllWithin : GroupHeld → GroupHeld → Result AwaitedAdvance TimedOut → Type 0
AwaitsAllWithin old new (Ok answer) = AwaitsAll old new answer
AwaitsAllWithin old new (Err fault) = AllWait old new

-- What follows an arrival of all members in this phase. If the tokens were already seen in another phase than that in which they arrived,
-- this phase has passed; before the last advance all members of all tokens had arrived. Else they wait.
abbrev pub AwaitsAfter : GroupHeld → ℕ → GroupHeld → Result AwaitedAdvance TimedOut → Type 0
AwaitsAfter mid phase new answer =
    ((mid.view.phase ≢ phase) × (new ≡ mid) × (answer ≡ Ok (awaited.Passed mid.view.phase)) × WaitedFor mid.tree phase mid.view.phase)
    ⊎ ((mid.view.phase ≡ phase) × AwaitsAllWithin mid new answer)

-- what follows an arrival of all members in a meeting
abbrev pub MeetsAfter : GroupArrived → GroupHeld → Result AwaitedAdvance TimedOut → Type 0
MeetsAfter (group_arrived.Done mid phase led) new answer = AwaitsAfter mid phase new answer
MeetsAfter (group_arrived.Full mid parties) new answer = ⊥
MeetsAfter (group_arrived.AlreadyArrived mid phase) new answer = AwaitsAllWithin mid new answer
MeetsAfter (group_arrived.Ended mid shown) new answer = (new ≡ mid) × (answer ≡ Ok (awaited.Ended shown))

-- an arrival of all members, and then a wait, which may be given up
abbrev pub MeetsAllWithin : ℕ → GroupHeld → GroupHeld → Result AwaitedAdvance TimedOut → Type 0
MeetsAllWithin tries old new answer = (arrival : GroupArrived) × ArrivesAllAtLast tries old arrival × MeetsAfter arrival new answer

-- the same without a limit
abbrev pub MeetsAll : ℕ → GroupHeld → GroupHeld → AwaitedAdvance → Type 0
MeetsAll tries old new answer = MeetsAllWithin tries old new (Ok answer)

-- the answer of an arrival says that the tree has ended
abbrev pub HasEndedAll : GroupArrived → Type 0
HasEndedAll (group_arrived.Ended new shown) = Unit {0}
HasEndedAll _ = ⊥

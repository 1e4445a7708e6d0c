-- What the calls of a tree's tokens answer, as what the calls of `tier_table` answer: a guest or a party is the token that it keeps.
use Rattle.std.specs.Prelude.{◌≡◌, ◌⊎◌, ℕ, Result, Ok, Err, List, [], ◌∷◌}
use Rattle.phaser_word.specs.Fields.{Fields}
use Rattle.tier_calls.specs.Closes.{TallyWithOthers, IsLeftBy}
use Rattle.tier_calls.specs.Holding.{Holding, IsSat, split_once, sight_held}
use Rattle.tier_calls.specs.InPlace.{ArrivesInPlace, FindsArrived}
use Rattle.tier_calls.specs.Led.{LedInPlaceWaited}
use Rattle.tier_calls.specs.JoinsHere.{JoinsHere}
use Rattle.tier_calls.specs.Made.{MadeOnly, is_quiet, HasEntered, HasLooked}
use Rattle.tier_calls.specs.Next.{is_look}
use Rattle.tier_calls.specs.Passes.{IsSame}
use Rattle.tier_calls.specs.declared.in_place.ArrivedInPlace.{ArrivedInPlace}
use Rattle.tier_calls.specs.declared.joining.Registered.{Registered}
use Rattle.tier_calls.specs.declared.joining.Registered.TheVariants as registered
use Rattle.tier_steps.specs.View.{new_view}
use Rattle.tier_steps.specs.Start.{empty_word}
use Rattle.tier_steps.specs.declared.view.Passage.TheVariants.{Departure}
use Rattle.tier_table.specs.AtLast.{ArrivesAtLast, LedAtLast, PassedBy, AwaitsAdvance, AwaitWaited, CaughtUpBy, token_admitted}
use Rattle.tier_table.specs.declared.waiting.AwaitedAdvance.{AwaitedAdvance}
use Rattle.tier_table.specs.declared.waiting.AwaitedAdvance.TheVariants as awaited
use Rattle.tier_table.specs.declared.waiting.RegisteredAtLast.{RegisteredAtLast}
use Rattle.tier_table.specs.declared.waiting.RegisteredAtLast.TheVariants as admitted
use Rattle.tier_table.specs.declared.waiting.ArrivedAtLast.{ArrivedAtLast}
use Rattle.tier_table.specs.declared.waiting.ArrivedAtLast.TheVariants as counted
use Rattle.phasers.specs.declared.answers.BringError.{BringError}
use Rattle.phasers.specs.declared.answers.BringError.TheVariants as unbrought
use Rattle.phasers.specs.declared.answers.JoinError.{JoinError}
use Rattle.phasers.specs.declared.answers.JoinError.TheVariants as unjoined
use Rattle.phasers.specs.declared.answers.MeetError.{MeetError}
use Rattle.phasers.specs.declared.answers.MeetError.TheVariants as unmet
use Rattle.phasers.specs.declared.answers.Departed.{Departed}
use Rattle.phasers.specs.declared.answers.Departed.TheVariants as departed
use Rattle.phasers.specs.declared.answers.TreeEnded.{TreeEnded}

-- the first token of a new tree: it has no members, and has made no step
pub record IsFirst (phase : ℕ) (h : Holding) : Type 0 where
  pub view : h.view ≡ new_view phase
  pub root : h.tier ≡ 0
  pub word : h.word ≡ empty_word phase
  pub untried : h.tried ≡ 0
  pub unmade : h.steps ≡ []
  pub unsplit : h.opened ≡ 0

abbrev pub admitted_of : {A : Type 0} → Result Holding (JoinError A) → RegisteredAtLast
admitted_of (Ok party) = admitted.Joined party party.view.phase
admitted_of (Err (unjoined.Full guest count)) = admitted.Full guest count
admitted_of (Err (unjoined.Ended guest shown)) = admitted.Ended guest shown

abbrev pub counted_of : {A : Type 0} → Departed A → ArrivedAtLast
counted_of (departed.Done party phase led) = counted.Done party phase led
counted_of (departed.Left guest phase led) = counted.Left guest phase led
counted_of (departed.Ended party shown) = counted.Ended party shown

-- the phase in which a member left, or the end of the tree that came before
abbrev pub left_in : {A : Type 0} → Departed A → Result ℕ TreeEnded
left_in (departed.Done party phase led) = Ok phase
left_in (departed.Left guest phase led) = Ok phase
left_in (departed.Ended party shown) = Err (record { shown = shown })

abbrev pub awaited_of : Result ℕ MeetError → AwaitedAdvance
awaited_of (Ok phase) = awaited.Passed phase
awaited_of (Err (unmet.Here phase)) = awaited.Here phase
awaited_of (Err (unmet.Ended shown)) = awaited.Ended shown

-- The words that a closed tree leaves: they tally with its first token, which has no members, and with others. They are those to which
-- steps on the tree have led, and its first token has made none but those that it had made before.
pub record LeavesWords (first : Holding) (words : List Fields) : Type 0 where
  pub none : first.view.size ≡ 0
  pub tally : TallyWithOthers first.tree.key.shape words (first.view ∷ [])
  pub left : IsLeftBy first.tree.key words (sight_held first ∷ [])

-- an arrival, and then a wait
pub record Meets (old new : Holding) (answer : AwaitedAdvance) : Type 0 where
  pub between : Holding
  pub came : ArrivedInPlace
  pub arrives : ArrivesInPlace old between came
  pub found : FindsArrived old between came
  pub led : LedInPlaceWaited between came
  pub awaits : AwaitsAdvance between new answer
  pub waited : AwaitWaited between new answer
  pub looked : HasLooked between.steps new.steps
  pub caught_up : CaughtUpBy answer new

-- the call that tries to register at a party's tier, by its answer
abbrev pub beside_of : RegisteredAtLast → Registered
beside_of (admitted.Joined party phase) = registered.Joined party phase
beside_of (admitted.Full guest count) = registered.Full guest count
beside_of (admitted.Ended guest shown) = registered.Ended guest shown

-- one such call: a door joins at the tier of a party
pub record BringsOnce (tries : ℕ) (old new door : Holding) (n : ℕ) (answer : RegisteredAtLast) : Type 0 where
  pub joins : JoinsHere old new door n tries (beside_of answer)
  pub entered : HasEntered door.steps (token_admitted answer).steps
  pub looked : HasLooked old.steps new.steps

-- Calls whose tries were used up. The party has only looked and refreshed, the door only looked and noted refusals.
pub record HaveTried (old crew door went : Holding) : Type 0 where
  pub crew_tree : crew.tree ≡ old.tree
  pub door_tree : went.tree ≡ door.tree
  pub same : IsSame old.view crew.view
  pub crew_opened : crew.opened ≡ old.opened
  pub door_opened : went.opened ≡ door.opened
  pub crew_made : MadeOnly is_quiet old.steps crew.steps
  pub door_made : MadeOnly is_look door.steps went.steps

-- such calls, and then one that is answered
pub record BringsAtLast (tries : ℕ) (old new door : Holding) (n : ℕ) (answer : RegisteredAtLast) : Type 0 where
  pub crew : Holding
  pub went : Holding
  pub before : HaveTried old crew door went
  pub last : BringsOnce tries crew new went n answer

-- a token that was split off a party, by which others joined at its tier
pub record BringsBy (tries : ℕ) (old new : Holding) (n : ℕ) (answer : RegisteredAtLast) : Type 0 where
  pub door : Holding
  pub sat : IsSat old.tree door
  pub brings : BringsAtLast tries (split_once old) new door n answer

-- what a party answers that brings others, `n` of them
abbrev pub Brings : {A : Type 0} → ℕ → Holding → Holding → ℕ → Result Holding (BringError A) → Type 0
Brings tries old new n (Ok party) = BringsBy tries old new n (admitted.Joined party party.view.phase)
Brings tries old new n (Err (unbrought.Full guest count)) = BringsBy tries old new n (admitted.Full guest count)
Brings tries old new n (Err (unbrought.Ended guest shown)) = BringsBy tries old new n (admitted.Ended guest shown)
Brings tries old new n (Err unbrought.AllArrived) = (new ≡ old) × (old.view.arrived ≡ old.view.size)

-- the answer says that the tree has ended, unless the call did nothing
abbrev pub HasEndedBringing : {A : Type 0} → Result Holding (BringError A) → Type 0
HasEndedBringing (Ok party) = ⊥
HasEndedBringing (Err (unbrought.Full guest count)) = ⊥
HasEndedBringing (Err (unbrought.Ended guest shown)) = Unit {0}
HasEndedBringing (Err unbrought.AllArrived) = Unit {0}

-- a departure
pub record Departs (old : Holding) (answer : ArrivedAtLast) : Type 0 where
  pub counts : ArrivesAtLast Departure old answer
  pub waited : LedAtLast answer
  pub made : PassedBy Departure old.steps answer

-- after a wait: the tree has ended, or a member leaves in this phase
abbrev pub DepartsThen : Holding → AwaitedAdvance → ArrivedAtLast → Type 0
DepartsThen next (awaited.Passed phase) answer = Departs next answer
DepartsThen next (awaited.Here phase) answer = Departs next answer
DepartsThen next (awaited.Ended shown) answer = answer ≡ counted.Ended next shown

-- a party that waits until its phase is over, and of which a member then leaves
pub record LeavesNext (old : Holding) (answer : ArrivedAtLast) : Type 0 where
  pub next : Holding
  pub came : AwaitedAdvance
  pub tree : next.tree ≡ old.tree
  pub awaits : AwaitsAdvance old next came
  pub waited : AwaitWaited old next came
  pub looked : HasLooked old.steps next.steps
  pub departs : DepartsThen next came answer

-- what a party answers of which a member leaves: at once, or in the next phase if all members had arrived
abbrev pub Leaves : Holding → ArrivedAtLast → Type 0
Leaves old answer =
    Departs old answer ⊎ ((mid : Holding) × (phase : ℕ) × Departs old (counted.AlreadyArrived mid phase) × LeavesNext mid answer)

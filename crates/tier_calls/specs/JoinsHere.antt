-- What a registration at a crew's tier answers (own).
use Rattle.std.specs.Prelude.{◌≡◌, ℕ, ◌+◌, ◌<◌, ◌≤◌, false, List}
use Rattle.phaser_word.specs.Fields.{Fields}
use Rattle.tier_steps.specs.declared.view.View.{View}
use Rattle.tier_steps.specs.declared.view.Errand.TheVariants.{Rest}
use Rattle.tier_core.specs.declared.call.Played.TheVariants as played
use Rattle.tier_calls.specs.Holding.{Holding, shape_of, IsCrew}
use Rattle.tier_calls.specs.Passes.{IsSame}
use Rattle.tier_calls.specs.Made.{MadeOnly, is_quiet, is_entering}
use Rattle.tier_calls.specs.Next.{is_look}
use Rattle.tier_calls.specs.Joins.{IsJoined, Refusal}
use Rattle.tier_calls.specs.Passes.{EndSeen, IsFresh}
use Rattle.tier_calls.specs.Arrives.{IsSoon, IsSpent}
use Rattle.tier_calls.specs.Registers.{IsLookedAround}
use Rattle.tier_calls.specs.declared.beside.Met.{Met}
use Rattle.tier_calls.specs.declared.beside.Met.TheVariants.{Answer, Late}
use Rattle.tier_calls.specs.declared.joining.Registered.{Registered}
use Rattle.tier_calls.specs.declared.joining.Registered.TheVariants.{Joined, Held, Full, Ended, Busy, Owing}

-- The same two tokens, off which no other was split, with at most this many tries more between them; the crew's members
-- are as they were. The crew has looked and refreshed, the door has made steps of a registration.
pub record AreSoon (tries : ℕ) (old new door after : Holding) : Type 0 where
  pub crew_tree : new.tree ≡ old.tree
  pub door_tree : after.tree ≡ door.tree
  pub crew : IsSame old.view new.view
  pub tried : new.tried + after.tried ≤ old.tried + door.tried + tries
  pub crew_opened : new.opened ≡ old.opened
  pub door_opened : after.opened ≡ door.opened
  pub crew_made : MadeOnly is_quiet old.steps new.steps
  pub door_made : MadeOnly is_entering door.steps after.steps

-- with just this many tries more; the door has only looked and noted refusals
pub record AreSpent (tries : ℕ) (old new door after : Holding) : Type 0 where
  pub crew_tree : new.tree ≡ old.tree
  pub door_tree : after.tree ≡ door.tree
  pub crew : IsSame old.view new.view
  pub tried : new.tried + after.tried ≡ old.tried + door.tried + tries
  pub crew_opened : new.opened ≡ old.opened
  pub door_opened : after.opened ≡ door.opened
  pub crew_made : MadeOnly is_quiet old.steps new.steps
  pub door_made : MadeOnly is_look door.steps after.steps

-- There is no room: the word of the tier itself was noted, whose parties with those members would be too many.
pub record IsFullHere (parents : List ℕ) (tier size : ℕ) (v : View) (count : ℕ) : Type 0 where
  pub refusal : Refusal parents tier size v (played.Full count)
  pub itself : refusal.claimed ≡ 0

-- It is never held off, and opens no path: the crew has an unarrived member there.
abbrev pub JoinsHere : Holding → Holding → Holding → ℕ → ℕ → Registered → Type 0
JoinsHere old new door size tries (Joined crew phase) =
    AreSoon tries old new door crew × IsJoined old.view.tier size crew.view × (crew.view.errand ≡ Rest) × (phase ≡ crew.view.phase)
JoinsHere old new door size tries (Full after count) =
    AreSoon tries old new door after × IsFullHere (shape_of door) old.view.tier size after.view count
JoinsHere old new door size tries (Ended after shown) =
    AreSoon tries old new door after × Refusal (shape_of door) old.view.tier size after.view (played.Ended shown)
JoinsHere old new door size tries (Busy after) =
    AreSpent tries old new door after × IsLookedAround door.view after.view × IsFresh after.view
JoinsHere old new door size tries (Held after phase cause) = ⊥
JoinsHere old new door size tries (Owing opening) = ⊥

-- one try of it, and the end wasn't seen
abbrev pub JoinsOnce : Holding → Holding → Holding → ℕ → Registered → Type 0
JoinsOnce old new door size (Joined crew phase) =
    AreSoon 1 old new door crew × IsJoined old.view.tier size crew.view × (crew.view.errand ≡ Rest) × (phase ≡ crew.view.phase)
JoinsOnce old new door size (Full after count) =
    AreSoon 1 old new door after × IsFullHere (shape_of door) old.view.tier size after.view count
JoinsOnce old new door size (Ended after shown) =
    AreSoon 1 old new door after × Refusal (shape_of door) old.view.tier size after.view (played.Ended shown)
JoinsOnce old new door size (Busy after) = AreSpent 1 old new door after × IsLookedAround door.view after.view × IsFresh after.view
JoinsOnce old new door size (Held after phase cause) = ⊥
JoinsOnce old new door size (Owing opening) = ⊥

-- a look or a try of a crew with an unarrived member at its tier
pub record KeepsCrew (tries : ℕ) (old new : Holding) : Type 0 where
  pub tree : new.tree ≡ old.tree
  pub crew : IsSame old.view new.view
  pub rests : IsCrew new
  pub tier : new.tier ≡ old.view.tier
  pub tried : new.tried ≡ old.tried + tries
  pub opened : new.opened ≡ old.opened
  pub made : MadeOnly is_quiet old.steps new.steps

-- a tier at which a party is unarrived, unless it is a root that has ended
abbrev pub Waits : Fields → Type 0
Waits w = w.ended ≡ false → (0 < w.parties) × (0 < w.unarrived)

-- a door that has made this many tries, has only looked and noted refusals, and hasn't seen the end
pub record IsStill (tries : ℕ) (door after : Holding) : Type 0 where
  pub spent : IsSpent tries door after
  pub looked : IsLookedAround door.view after.view
  pub fresh : IsFresh after.view
  pub made : MadeOnly is_look door.steps after.steps

-- what the door's part of such a try answers
abbrev pub AnswersHere : Holding → ℕ → ℕ → Registered → Type 0
AnswersHere door tier size (Joined crew phase) =
    IsSpent 1 door crew × IsJoined tier size crew.view × (crew.view.errand ≡ Rest) × (phase ≡ crew.view.phase)
    × MadeOnly is_entering door.steps crew.steps
AnswersHere door tier size (Full after count) =
    IsSpent 0 door after × IsFullHere (shape_of door) tier size after.view count × MadeOnly is_entering door.steps after.steps
AnswersHere door tier size (Ended after shown) =
    IsSoon 1 door after × EndSeen after.view shown × MadeOnly is_entering door.steps after.steps
AnswersHere door tier size (Busy after) = IsStill 1 door after
AnswersHere door tier size (Held after phase cause) = ⊥
AnswersHere door tier size (Owing opening) = ⊥

abbrev pub Meets : Holding → ℕ → ℕ → Met → Type 0
Meets door tier size (Answer answer) = AnswersHere door tier size answer
Meets door tier size (Late after) = IsStill 0 door after

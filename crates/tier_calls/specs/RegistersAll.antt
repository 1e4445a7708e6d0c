-- What a registration of several tokens at any tier answers (not part of Java's API).
use Rattle.std.specs.Prelude.{◌≡◌, ℕ, zero, suc, ◌-◌, ◌<◌, length}
use Rattle.tier_calls.specs.Holding.{Holding, split_once}
use Rattle.tier_calls.specs.Splits.{alone}
use Rattle.tier_calls.specs.Groups.{GroupHeld}
use Rattle.tier_calls.specs.Joins.{IsJoined}
use Rattle.tier_calls.specs.Registers.{Registers, EnteredBy, token_of}
use Rattle.tier_calls.specs.JoinsAll.{JoinsAll}
use Rattle.tier_calls.specs.declared.joining.Registered.{Registered}
use Rattle.tier_calls.specs.declared.joining.Registered.TheVariants as first
use Rattle.tier_calls.specs.declared.joining_all.JoinedAll.{JoinedAll}
use Rattle.tier_calls.specs.declared.joining_all.JoinedAll.TheVariants as joined
use Rattle.tier_calls.specs.declared.registering_all.Halt.{Halt}
use Rattle.tier_calls.specs.declared.registering_all.Halt.TheVariants as halt
use Rattle.tier_calls.specs.declared.registering_all.RegisteredAll.{RegisteredAll}
use Rattle.tier_calls.specs.declared.registering_all.RegisteredAll.TheVariants as answer

-- the answer of the registration beside the first token that stopped for this reason
abbrev pub stopped : GroupHeld → Halt → JoinedAll
stopped group (halt.Full count) = joined.Full group count
stopped group (halt.Ended shown) = joined.Ended group shown
stopped group halt.Busy = joined.Busy group

-- the first token registers alone
pub record RegistersFirst (h : Holding) (tier tries : ℕ) (r : Registered) : Type 0 where
  pub answer : Registers h tier 1 tries r
  pub made : EnteredBy r h.steps (token_of r).steps

-- `n` more tokens register beside the first one, off which a door for them was split
abbrev pub OthersJoin : Holding → ℕ → ℕ → RegisteredAll → Type 0
OthersJoin crew n tries (answer.Joined group phase) = JoinsAll tries n (alone (split_once crew)) (joined.Joined group phase)
OthersJoin crew n tries (answer.Partly group why) = JoinsAll tries n (alone (split_once crew)) (stopped group why)
OthersJoin crew n tries _ = ⊥

-- the tokens that have registered, in the phase of the first one
pub record AreRegistered (tier n : ℕ) (group : GroupHeld) (phase : ℕ) : Type 0 where
  pub count : length group.tokens ≡ n
  pub joined : IsJoined tier 1 group.view
  pub current : phase ≡ group.view.phase

-- how the others came: not at all if the first was the only one
abbrev pub OthersCame : Holding → ℕ → ℕ → GroupHeld → ℕ → Type 0
OthersCame crew zero tries group phase = group ≡ alone crew
OthersCame crew (suc n) tries group phase = OthersJoin crew (suc n) tries (answer.Joined group phase)

-- What each answer says: first one token registers, and then the others beside it.
abbrev pub RegistersAll : Holding → ℕ → ℕ → ℕ → RegisteredAll → Type 0
RegistersAll h tier n tries (answer.Joined group phase) =
    (crew : Holding) × RegistersFirst h tier tries (first.Joined crew phase) × OthersCame crew (n - 1) tries group phase
    × AreRegistered tier n group phase
RegistersAll h tier n tries (answer.Partly group why) =
    (crew : Holding) × (phase : ℕ) × RegistersFirst h tier tries (first.Joined crew phase)
    × OthersJoin crew (n - 1) tries (answer.Partly group why)
    × (1 < n) × (length group.tokens ≡ 1) × (group.view.tier ≡ tier) × (group.view.arrived ≡ 0)
RegistersAll h tier n tries (answer.Held door phase cause) = RegistersFirst h tier tries (first.Held door phase cause)
RegistersAll h tier n tries (answer.Full door count) = RegistersFirst h tier tries (first.Full door count)
RegistersAll h tier n tries (answer.Ended door shown) = RegistersFirst h tier tries (first.Ended door shown)
RegistersAll h tier n tries (answer.Busy door) = RegistersFirst h tier tries (first.Busy door)
RegistersAll h tier n tries (answer.Owing opening) = RegistersFirst h tier tries (first.Owing opening)

-- the answer says that the tree had ended before anybody registered
abbrev pub HasEnded : RegisteredAll → Type 0
HasEnded (answer.Ended door shown) = Unit {0}
HasEnded _ = ⊥

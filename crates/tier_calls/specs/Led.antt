-- What a call that took the advance itself says of all tokens of the tree (not part of Java's API).
use Rattle.std.specs.Prelude.{◌≡◌, ℕ, Bool, true, false, ◌∷◌}
use Rattle.std.specs.List.{AllByRecursion}
use Rattle.phaser_word.specs.Fields.{Fields}
use Rattle.tier_steps.specs.declared.kind.Kind.TheVariants.{Advance}
use Rattle.tier_steps.specs.Step.{advanced_view}
use Rattle.tier_rule.specs.declared.sight.Sight.{Sight}
use Rattle.tier_rule.specs.Reach.{views_of}
use Rattle.tier_rule.specs.Laws.{HasArrived}
use Rattle.tier_rule.specs.Run.{IsReached}
use Rattle.tier_calls.specs.Holding.{Holding}
use Rattle.tier_calls.specs.declared.arriving.Arrived.{Arrived}
use Rattle.tier_calls.specs.declared.arriving.Arrived.TheVariants.{Done, Left, AlreadyArrived, Ended, Busy, Owing}
use Rattle.tier_calls.specs.declared.arriving.Resumed.{Resumed}
use Rattle.tier_calls.specs.declared.arriving.Resumed.TheVariants as resumed
use Rattle.tier_calls.specs.declared.in_place.ArrivedInPlace.{ArrivedInPlace}
use Rattle.tier_calls.specs.declared.in_place.ArrivedInPlace.TheVariants as in_place

-- A token's last step was an advance out of this phase, and before it all had arrived.
pub record LedAfterAll (new : Holding) (phase : ℕ) : Type 0 where
  -- what the token knew just before its advance, and what this found at the root: a root in this phase, not ended
  pub before : Sight
  pub root : Fields
  pub ends : Bool
  pub own : before.key ≡ new.tree.key
  pub steps : new.steps ≡ Advance ends ∷ before.steps
  pub view : new.view ≡ advanced_view before.view
  pub going : root.ended ≡ false
  pub now : root.phase ≡ phase
  -- some run of steps leads to a state with this root, and with the token as it was before its advance
  pub found : IsReached new.tree.key 0 root before
  -- and in every such state every member of every token had arrived in this phase
  pub waited : (state : IsReached new.tree.key 0 root before) → AllByRecursion (HasArrived phase) (views_of state.seats)

-- An arrival or a departure answers that it led only if all had arrived.
abbrev pub LedWaited : Arrived → Type 0
LedWaited (Done crew phase led) = led ≡ true → LedAfterAll crew phase
LedWaited (Left door phase led) = led ≡ true → LedAfterAll door phase
LedWaited (AlreadyArrived crew phase) = Unit {0}
LedWaited (Ended crew shown) = Unit {0}
LedWaited (Busy crew) = Unit {0}
LedWaited (Owing errand) = Unit {0}

abbrev pub LedOnWaited : Resumed → Type 0
LedOnWaited (resumed.Done crew phase led) = led ≡ true → LedAfterAll crew phase
LedOnWaited (resumed.Left door phase led) = led ≡ true → LedAfterAll door phase
LedOnWaited (resumed.Owing errand) = Unit {0}

abbrev pub LedInPlaceWaited : Holding → ArrivedInPlace → Type 0
LedInPlaceWaited new (in_place.Done phase led) = led ≡ true → LedAfterAll new phase
LedInPlaceWaited new (in_place.AlreadyArrived phase) = Unit {0}
LedInPlaceWaited new (in_place.Ended shown) = Unit {0}

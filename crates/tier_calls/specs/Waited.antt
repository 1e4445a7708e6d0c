-- What a call that answers that a phase has passed says of all tokens of the tree (not part of Java's API).
use Rattle.std.specs.Prelude.{◌≡◌, ◌≢◌, ℕ, true, false}
use Rattle.phaser_word.specs.Fields.{Fields}
use Rattle.tier_steps.specs.Step.{looked}
use Rattle.tier_rule.specs.Run.{IsReached, WaitedBetween, EndsHaveACause}
use Rattle.tier_rule.specs.Group.{AreReached}
use Rattle.tier_calls.specs.Holding.{Named, Holding, sight_held}
use Rattle.tier_calls.specs.Groups.{GroupHeld}
use Rattle.tier_calls.specs.declared.polling.Polled.{Polled}
use Rattle.tier_calls.specs.declared.polling.Polled.TheVariants.{Passed, Waiting, Here, Ended}

-- If the root of this tree is in the phase `now`, and some token with members is still in `left`, then the last advance left `left`, and
-- found that everybody had arrived in it, in whatever way that state was reached.
abbrev pub WaitedFor : Named → ℕ → ℕ → Type 0
WaitedFor n left now = WaitedBetween n.key left now

-- A token in another phase looked at the root, and found it in this phase, not ended. So before the last advance all had arrived.
pub record SawAdvance (old new : Holding) (phase : ℕ) : Type 0 where
  pub root : Fields
  pub going : root.ended ≡ false
  pub now : root.phase ≡ phase
  pub saw : new.view ≡ looked root old.view
  -- some run of steps leads to a state with this root, and with the token as it was before the call
  pub found : IsReached old.tree.key 0 root (sight_held old)
  -- and before the last advance of every such run, every member of every token had arrived in the token's phase
  pub waited : WaitedBetween old.tree.key old.view.phase phase

-- A token looked at the root, and found that the tree has ended. If the root is in another phase than the token was, as after an advance
-- that ended the tree, then before the last advance all had arrived. In whatever way a state of this tree was reached whose root has ended,
-- a step of that run ended the tree.
pub record SawEnd (old new : Holding) : Type 0 where
  pub root : Fields
  pub ended : root.ended ≡ true
  pub saw : new.view ≡ looked root old.view
  pub found : IsReached old.tree.key 0 root (sight_held old)
  pub waited : root.phase ≢ old.view.phase → WaitedBetween old.tree.key old.view.phase root.phase
  pub cause : EndsHaveACause old.tree.key

-- A poll answers that the phase has passed only if all had arrived in it.
abbrev pub PollWaited : Holding → Holding → Polled → Type 0
PollWaited old new (Passed phase) = SawAdvance old new phase
PollWaited old new Waiting = Unit {0}
PollWaited old new (Here phase) = Unit {0}
PollWaited old new (Ended shown) = SawEnd old new

-- The same of several tokens that looked at once.
pub record AllSawAdvance (old new : GroupHeld) (phase : ℕ) : Type 0 where
  pub root : Fields
  pub going : root.ended ≡ false
  pub now : root.phase ≡ phase
  pub saw : new.view ≡ looked root old.view
  pub found : AreReached old.tree.key 0 root old.tokens
  pub waited : WaitedBetween old.tree.key old.view.phase phase

pub record AllSawEnd (old new : GroupHeld) : Type 0 where
  pub root : Fields
  pub ended : root.ended ≡ true
  pub saw : new.view ≡ looked root old.view
  pub found : AreReached old.tree.key 0 root old.tokens
  pub waited : root.phase ≢ old.view.phase → WaitedBetween old.tree.key old.view.phase root.phase
  pub cause : EndsHaveACause old.tree.key

abbrev pub PollAllWaited : GroupHeld → GroupHeld → Polled → Type 0
PollAllWaited old new (Passed phase) = AllSawAdvance old new phase
PollAllWaited old new Waiting = Unit {0}
PollAllWaited old new (Here phase) = Unit {0}
PollAllWaited old new (Ended shown) = AllSawEnd old new

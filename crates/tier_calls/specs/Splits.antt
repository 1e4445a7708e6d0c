-- Several tokens in one seat are split, or put together (not part of Java's API).
use Rattle.std.specs.Prelude.{◌≡◌, ℕ, [], ◌∷◌, ◌++◌, take, drop}
use Rattle.phaser_word.specs.Fields.{Fields}
use Rattle.tier_steps.specs.declared.view.View.{View}
use Rattle.tier_steps.specs.Step.{looked}
use Rattle.tier_rule.specs.Group.{looked_all, AreReached}
use Rattle.tier_calls.specs.Holding.{Holding, sight_held}
use Rattle.tier_calls.specs.Arrives.{IsLooked}
use Rattle.tier_calls.specs.Groups.{GroupHeld}

-- the group of one token
abbrev pub alone : Holding → GroupHeld
alone h = record { tree = h.tree; view = h.view; tokens = sight_held h ∷ [] }

-- the first `n` stay, and the others go
pub record SplitAt (n : ℕ) (old new other : GroupHeld) : Type 0 where
  pub tree : (new.tree ≡ old.tree) × (other.tree ≡ old.tree)
  pub view : (new.view ≡ old.view) × (other.view ≡ old.view)
  pub kept : new.tokens ≡ take n old.tokens
  pub given : other.tokens ≡ drop n old.tokens

-- the members of two groups are at one tier, in one phase, and all have arrived or none
pub record AreTogether (one other : View) : Type 0 where
  pub tier : other.tier ≡ one.tier
  pub phase : other.phase ≡ one.phase
  pub arrived : other.arrived ≡ one.arrived

-- two groups are one, which has looked at the root
pub record Together (old other new : GroupHeld) : Type 0 where
  pub root : Fields
  pub tree : new.tree ≡ old.tree
  pub view : new.view ≡ looked root old.view
  pub looked : IsLooked old.view new.view
  pub tokens : new.tokens ≡ looked_all 0 root 0 (old.tokens ++ other.tokens)
  -- some run of steps leads to a state with this root, and with the tokens as they were before the look
  pub found : AreReached old.tree.key 0 root (old.tokens ++ other.tokens)

-- A tree with its rule, and its first token (own).
use Rattle.std.specs.Prelude.{◌≡◌, ℕ, List, []}
use Rattle.advance_rule.specs.Stored.{Stored}
use Rattle.advance_rule.specs.declared.EndPlan.{EndPlan}
use Rattle.tier_steps.specs.View.{new_view}
use Rattle.tier_steps.specs.Start.{empty_word}
use Rattle.tier_calls.specs.Holding.{Named, Holding}

-- a tree, and the closure that says when it ends
pub record Ruled (F : Type 0) : Type 0 where
  pub tree : Named
  pub rule : Stored F EndPlan

-- A new tree keeps what it was given. Its first token has no members, is in its phase, and knows the root to be empty.
-- It has made no step, and no other was split off it, which says that all tiers are empty (`NewTreesAreEmpty`).
pub record IsNew {F : Type 0} (shape : List ℕ) (phase : ℕ) (rule : Stored F EndPlan) (tree : Ruled F) (door : Holding) : Type 0 where
  pub same_shape : tree.tree.key.shape ≡ shape
  pub same_phase : tree.tree.key.phase ≡ phase
  pub same_plan : tree.tree.key.plan ≡ rule.plan
  pub same_rule : tree.rule ≡ rule
  pub own : door.tree ≡ tree.tree
  pub view : door.view ≡ new_view phase
  pub root : door.tier ≡ 0
  pub empty : door.word ≡ empty_word phase
  pub untried : door.tried ≡ 0
  pub unstepped : door.steps ≡ []
  pub unsplit : door.opened ≡ 0

-- The tree at which the workers of a run meet, as it begins (own).
use Rattle.std.specs.Prelude.{◌≡◌, List}
use Rattle.std.specs.List.{AllByRecursion}
use Rattle.advance_rule.specs.Stored.{Stored}
use Rattle.advance_rule.specs.declared.EndPlan.{EndPlan}
use Rattle.tier_table.specs.Holding.{Named, Holding}
use Rattle.tier_table.specs.Ruled.{Ruled}
use Rattle.tier_calls.specs.Groups.{GroupHeld}

-- a tree with this rule, and a token of it
pub record IsRuled {F : Type 0} (rule : Stored F EndPlan) (tree : Ruled F) (door : Holding) : Type 0 where
  pub rule_is : tree.rule ≡ rule
  pub door_is : door.tree ≡ tree.tree

-- groups of this tree
abbrev pub AreOf : Named → List GroupHeld → Type 0
AreOf tree groups = AllByRecursion (λ group. group.tree ≡ tree) groups

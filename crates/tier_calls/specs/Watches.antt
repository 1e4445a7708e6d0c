-- What a token without members knows that only watches the tree (not part of Java's API).
use Rattle.std.specs.Prelude.{◌≡◌, ◌∷◌}
use Rattle.tier_steps.specs.declared.kind.Kind.TheVariants.{Look}
use Rattle.tier_calls.specs.Holding.{Holding}

-- It has looked at the root once.
pub record HasWatchedRoot (old new : Holding) : Type 0 where
  pub tree : new.tree ≡ old.tree
  pub size : new.view.size ≡ old.view.size
  pub tried : new.tried ≡ old.tried
  pub steps : new.steps ≡ Look ∷ old.steps
  pub opened : new.opened ≡ old.opened

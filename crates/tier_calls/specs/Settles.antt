-- What is left to do when the last of some tokens has arrived at a tier (not part of Java's API).
use Rattle.std.specs.Prelude.{◌≡◌, ℕ, ◌-◌, ◌≤◌, ◌<◌, Option, Some, None, List, [], ◌∷◌, length}
use Rattle.atomic_table.specs.Table.{Me}
use Rattle.phaser_word.specs.Fields.{Fields}
use Rattle.tier_steps.specs.declared.view.View.{View}
use Rattle.tier_steps.specs.declared.kind.Kind.{Kind}
use Rattle.tier_steps.specs.declared.kind.Kind.TheVariants.{Arrive}
use Rattle.tier_rule.specs.declared.sight.Key.{Key}
use Rattle.tier_rule.specs.declared.sight.Sight.{Sight}
use Rattle.tier_rule.specs.Reach.{those}
use Rattle.tier_rule.specs.Group.{AreAlike, Among, all_stepped}
use Rattle.tier_calls.specs.Holding.{Named, Holding, sight_held}
use Rattle.tier_calls.specs.Groups.{GroupHeld, IsOne}
use Rattle.tier_calls.specs.LastOnes.{tokens_in}

-- All tokens of a seat have just arrived by one exchange, the first of them last, and as the last at the tier t. `before` is the word
-- before that last arrival.
pub record HaveAllArrived (k : Key) (t : ℕ) (v : View) (count : ℕ) (me : Me Kind (List Sight)) (before next : Fields) : Type 0 where
  pub from : Fields
  pub list : List Sight
  pub seat : me ≡ (all_stepped Arrive 1 t v from list, [])
  pub alike : AreAlike k v list
  pub long : length list ≡ count
  pub some : 0 < count
  pub word-before : before ≡ record from { unarrived = from.unarrived - (count - 1) }
  pub word-after : next ≡ record from { unarrived = from.unarrived - count }
  pub last : before.unarrived ≡ 1
  pub few : count ≤ from.unarrived
  pub among : Among k.shape t next (those me.0)
  pub one : IsOne v
  pub none : v.arrived ≡ 0

abbrev pub OthersOf : Named → View → Option GroupHeld → Type 0
OthersOf n v None = Unit {0}
OthersOf n v (Some c) = (c.tree ≡ n) × (c.view ≡ record v { arrived = 1 })

-- the first token owes what follows, and the others nothing
pub record Settles (n : Named) (v : View) (tokens : List Sight) (first : Holding) (rest : Option GroupHeld) : Type 0 where
  pub tree : first.tree ≡ n
  pub view : first.view ≡ record v { arrived = 1; errand = first.view.errand }
  pub all : sight_held first ∷ tokens_in rest ≡ tokens
  pub others : OthersOf n v rest

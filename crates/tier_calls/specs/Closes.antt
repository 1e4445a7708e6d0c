-- What closing a tree answers (own).
use Rattle.std.specs.Prelude.{◌≡◌, ℕ, ◌-◌, ◌==◌, if◌then◌else◌, List, [], ◌∷◌, ◌++◌, map, length}
use mathlib.Core.Option.{some}
use lib.ListN.{get_elem?}
use Rattle.phaser_word.specs.Packed.{packed}
use Rattle.tier_rule.specs.declared.sight.Key.{Key}
use Rattle.tier_rule.specs.declared.sight.Sight.{Sight}
use Rattle.tier_rule.specs.Reach.{Reached, those}
use Rattle.phaser_word.specs.Fields.{Fields}
use Rattle.tier_steps.specs.declared.view.View.{View}
use Rattle.tier_steps.specs.Tally.{Tallies}
use Rattle.tier_calls.specs.declared.tokens.Token.{Token}
use Rattle.tier_calls.specs.declared.tokens.Token.TheVariants.{Crew, Door}
use Rattle.tier_calls.specs.declared.closing.ClosedToken.{ClosedToken}
use Rattle.tier_calls.specs.Holding.{Holding, sight_held}
use Rattle.tier_calls.specs.Groups.{GroupHeld}

-- the token itself
abbrev pub held : Token → Holding
held (Crew crew) = crew
held (Door door) = door

abbrev pub views_in : List Token → List View
views_in tokens = map (λ t. (held t).view) tokens

-- a token as plain numbers
abbrev pub plain_of : View → ClosedToken
plain_of v = record { tier = v.tier; size = v.size; unarrived = v.size - v.arrived; phase = v.phase }

abbrev pub plain_tokens : List Token → List ClosedToken
plain_tokens tokens = map (λ t. plain_of (held t).view) tokens

-- what the tokens of some groups know, one group after another
abbrev pub sights_together : List GroupHeld → List Sight
sights_together [] = []
sights_together (g ∷ gs) = g.tokens ++ sights_together gs

abbrev pub views_together : List GroupHeld → List View
views_together groups = those (sights_together groups)

-- the members of a group as plain numbers
abbrev pub plain_group : GroupHeld → ClosedToken
plain_group g =
    record {
      tier = g.view.tier;
      size = length g.tokens;
      unarrived = (if g.view.arrived == 0 then length g.tokens else 0);
      phase = g.view.phase;
    }

abbrev pub plain_groups : List GroupHeld → List ClosedToken
plain_groups groups = map plain_group groups

-- words that tally with these views and those of tokens that weren't handed in
abbrev pub TallyWithOthers : List ℕ → List Fields → List View → Type 0
TallyWithOthers parents words views = (others : List View) × Tallies parents words (views ++ others)

abbrev pub sights_in : List Token → List Sight
sights_in tokens = map (λ t. sight_held (held t)) tokens

-- one seat knows just this, if it is anything
abbrev pub IsAmong : List Sight → List (List Sight) → Type 0
IsAmong [] seats = Unit {0}
IsAmong (x ∷ xs) seats = (id : ℕ) × (get_elem? seats id ≡ some (x ∷ xs))

-- Words to which steps on the tree have led, with one seat that knows just this: so those who knew it have made no
-- further step, and none was split off them.
pub record IsLeftBy (k : Key) (words : List Fields) (sights : List Sight) : Type 0 where
  pub seats : List (List Sight)
  pub reached : Reached k words seats
  pub known : IsAmong sights seats

-- the same of the numbers that they are packed into
pub record IsShut (k : Key) (numbers : List ℕ) (sights : List Sight) : Type 0 where
  pub words : List Fields
  pub packed_so : numbers ≡ map packed words
  pub left : IsLeftBy k words sights

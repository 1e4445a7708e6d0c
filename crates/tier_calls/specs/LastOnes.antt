-- Arrivals of several tokens by one exchange, of which one is the last at their tier (not part of Java's API).
use Rattle.std.specs.Prelude.{◌≡◌, Option, Some, None, List, [], ◌∷◌}
use Rattle.phaser_word.specs.Fields.{Fields}
use Rattle.tier_steps.specs.declared.view.Errand.{Errand}
use Rattle.tier_steps.specs.declared.view.Errand.TheVariants.{Climbing, Advancing, Rest, Opening}
use Rattle.tier_steps.specs.declared.kind.Kind.TheVariants.{Arrive}
use Rattle.tier_rule.specs.declared.sight.Sight.{Sight}
use Rattle.tier_rule.specs.Group.{all_stepped}
use Rattle.tier_calls.specs.Holding.{Holding, sight_held}
use Rattle.tier_calls.specs.Groups.{GroupHeld, AllLost}
use Rattle.tier_calls.specs.declared.groups.LastTry.{LastTry}
use Rattle.tier_calls.specs.declared.groups.LastTry.TheVariants.{Owing, Lost}

-- the errand of a last arrival
abbrev pub IsLast : Errand → Type 0
IsLast Rest = ⊥
IsLast Advancing = Unit {0}
IsLast (Climbing t passage) = Unit {0}
IsLast (Opening tier claimed stage size) = ⊥

abbrev pub tokens_in : Option GroupHeld → List Sight
tokens_in None = []
tokens_in (Some c) = c.tokens

-- the other tokens owe nothing
abbrev pub Others : GroupHeld → Option GroupHeld → Type 0
Others old None = Unit {0}
Others old (Some c) = (c.tree ≡ old.tree) × (c.view ≡ record old.view { arrived = 1 })

-- Each token has arrived with its member by one exchange of their tier's word, which was w. The first one arrived last and owes what
-- follows from that.
pub record LastArrived (w : Fields) (old : GroupHeld) (first : Holding) (rest : Option GroupHeld) : Type 0 where
  pub tree : first.tree ≡ old.tree
  pub view : first.view ≡ record old.view { arrived = 1; errand = first.view.errand }
  pub tokens : sight_held first ∷ tokens_in rest ≡ all_stepped Arrive 1 old.view.tier old.view w old.tokens
  pub others : Others old rest

-- The arrivals of tokens that know as much as those of `from`, or else a look of all.
abbrev pub TriesLast : Fields → GroupHeld → GroupHeld → LastTry → Type 0
TriesLast w from old (Owing errand rest) = LastArrived w from errand.token rest
TriesLast w from old (Lost group z) = AllLost w z old group

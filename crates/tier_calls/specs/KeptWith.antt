-- Passages of a whole group whose first try begins with the root's word, which the tokens have kept (not part of Java's API).
use Rattle.std.specs.Prelude.{◌≡◌, ℕ, Option, Some, None, ◌∷◌}
use Rattle.phaser_word.specs.Fields.{Fields}
use Rattle.tier_rule.specs.Group.{looked_all}
use Rattle.tier_calls.specs.Holding.{sight_held}
use Rattle.tier_calls.specs.LastOnes.{tokens_in}
use Rattle.tier_calls.specs.Groups.{GroupHeld, glanced}
use Rattle.tier_calls.specs.ArrivesAll.{AllHere}
use Rattle.tier_calls.specs.ArrivesWith.{HasExchanged, TriesWith, FirstLook}
use Rattle.tier_calls.specs.declared.arriving_with.TriedWith.{TriedWith}
use Rattle.tier_calls.specs.declared.arriving_with.TriedWith.TheVariants as went

-- all have looked at their tier, by one try
pub record AllTried (old new : GroupHeld) : Type 0 where
  pub word : Fields
  pub tree : new.tree ≡ old.tree
  pub view : new.view ≡ glanced old.view.tier word old.view
  pub tokens : new.tokens ≡ looked_all old.view.tier word 1 old.tokens

-- One try: the passages of tokens that know as much as those of `from`, or else a look of all.
abbrev pub PassesFrom : ℕ → ℕ → GroupHeld → GroupHeld → TriedWith → Type 0
PassesFrom joining leaving from old (went.Yet group) = AllTried old group
PassesFrom joining leaving from old (went.Done group) = HasExchanged 1 joining leaving from group.tree group.view group.tokens
PassesFrom joining leaving from old (went.Owing errand rest) =
    HasExchanged 1 joining leaving from errand.token.tree errand.token.view (sight_held errand.token ∷ tokens_in rest)
    × ((c : GroupHeld) → rest ≡ Some c → (c.tree ≡ from.tree) × AllHere from.view c.view)
PassesFrom joining leaving from old (went.Full group count) = ⊥
PassesFrom joining leaving from old (went.Ended group word) = ⊥

-- one look at the root, and then some tries
abbrev pub LooksAndTriesWith : ℕ → ℕ → ℕ → GroupHeld → TriedWith → Type 0
LooksAndTriesWith tries joining leaving old t =
    (mid : GroupHeld) × FirstLook old mid × (mid.view.arrived ≡ 0) × TriesWith tries joining leaving mid t

-- some tries, after a look at the root if its word was kept
abbrev pub TriesWithKept : Option Fields → ℕ → ℕ → ℕ → GroupHeld → TriedWith → Type 0
TriesWithKept None tries joining leaving old t = TriesWith tries joining leaving old t
TriesWithKept (Some kept) tries joining leaving old t = LooksAndTriesWith tries joining leaving old t

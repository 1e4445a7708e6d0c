-- The root's word that a group keeps, and the exchange that finds it again (not part of Java's API).
use Rattle.std.specs.Prelude.{◌≡◌, ◌≢◌, ℕ, ◌-◌, false, Option, Some, None, List, [], ◌++◌, length, take}
use Rattle.atomic_table.specs.Table.{Me}
use Rattle.phaser_word.specs.Fields.{Fields}
use Rattle.tier_core.specs.Turn.{lags}
use Rattle.tier_steps.specs.declared.view.View.{View}
use Rattle.tier_steps.specs.declared.kind.Kind.{Kind}
use Rattle.tier_steps.specs.Step.{CanPass}
use Rattle.tier_rule.specs.declared.sight.Key.{Key}
use Rattle.tier_rule.specs.declared.sight.Sight.{Sight}
use Rattle.tier_rule.specs.Reach.{those}
use Rattle.tier_rule.specs.Group.{AreOf, AreAlike, Among, Goes, looked_all}
use Rattle.tier_calls.specs.Holding.{sight_of}
use Rattle.tier_calls.specs.Groups.{GroupHeld, IsGroup, AllLooked}
use Rattle.tier_calls.specs.NewTokens.{IsEager}

-- All tokens of this seat found the root's word w by their last step. Their members are there, and may pass from it.
pub record FoundThere (me : Me Kind (List Sight)) (v : View) (w : Fields) : Type 0 where
  pub root : v.tier ≡ 0
  pub among : Among (sight_of me).key.shape v.tier w (those me.0)
  pub may : CanPass v.tier w v
  pub eager : IsEager v

-- The same of a group.
pub record MayBegin (c : GroupHeld) (w : Fields) : Type 0 where
  pub group : IsGroup c
  pub root : c.view.tier ≡ 0
  pub among : Among c.tree.key.shape c.view.tier w (those c.tokens)
  pub may : CanPass c.view.tier w c.view
  pub eager : IsEager c.view

-- the members are at the root; they are to arrive, and it doesn't lag
pub record MayKeep (v : View) (w : Fields) : Type 0 where
  pub root : v.tier ≡ 0
  pub some : v.arrived ≢ 1
  pub going : w.ended ≡ false
  pub current : lags w v ≡ false

-- How a try begins: all tokens look at the tier t and find the word w, or they have kept it, and do nothing.
abbrev pub LooksUnlessKept : Option Fields → ℕ → Fields → GroupHeld → GroupHeld → Type 0
LooksUnlessKept None t w old new = AllLooked t w 0 old new
LooksUnlessKept (Some kept) t w old new = (w ≡ kept) × (new ≡ old)

pub record Finds (kept : Option Fields) (t : ℕ) (w : Fields) (old new : GroupHeld) : Type 0 where
  pub how : LooksUnlessKept kept t w old new

-- what the tokens know before the steps of an exchange from the word w, which finds that word, and so is a look at it too
abbrev pub before_of : Fields → GroupHeld → List Sight
before_of w c = looked_all c.view.tier w 0 c.tokens

abbrev pub as_seat : List Sight → Me Kind (List Sight)
as_seat l = (l, [])

-- Tokens of a seat come to know this much more by looks that change no word, if they change anything.
pub record GoesFrom (k : Key) (t : ℕ) (w : Fields) (me : Me Kind (List Sight)) (before : List Sight) : Type 0 where
  pub bare : me.1 ≡ []
  pub own : AreOf k me.0
  pub goes : Goes k t w me.0 w before
  pub same : those before ≡ those me.0

-- The same of the tokens of a group.
pub record Begins (c : GroupHeld) (w : Fields) (before : List Sight) : Type 0 where
  pub goes : Goes c.tree.key c.view.tier w c.tokens w before
  pub alike : AreAlike c.tree.key c.view before
  pub long : length before ≡ length c.tokens

abbrev pub begun : GroupHeld → List Sight → GroupHeld
begun c before = record c { tokens = before }

-- a seat's tokens, the last of which know what they know before their steps
abbrev pub ahead : List Sight → List Sight → List Sight
ahead l before = take (length l - length before) l ++ before

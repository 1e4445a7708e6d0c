-- Several tokens without members in one seat, and the exchange by which some of them join, others leave, and all the rest arrive (not part
-- of Java's API).
use Rattle.std.specs.Prelude.{◌≡◌, ℕ, ◌+◌, ◌≤◌, ◌<◌, false, None, List, [], length, replicate}
use Rattle.std.specs.List.{AllByRecursion}
use Rattle.atomic_table.specs.Table.{Me}
use Rattle.atomic_table.specs.Seated.{TableId}
use Rattle.tier_steps.specs.Step.{CanPass}
use Rattle.phaser_word.specs.Fields.{Fields}
use Rattle.tier_steps.specs.declared.view.View.{View}
use Rattle.tier_steps.specs.declared.view.Errand.TheVariants.{Rest}
use Rattle.tier_steps.specs.declared.kind.Kind.{Kind}
use Rattle.tier_rule.specs.declared.sight.Key.{Key}
use Rattle.tier_rule.specs.declared.sight.Sight.{Sight}
use Rattle.tier_rule.specs.Reach.{sat_sight}
use Rattle.tier_calls.specs.Holding.{Named}
use Rattle.tier_calls.specs.Groups.{GroupHeld}

pub record TokensHeld : Type 0 where
  pub table : TableId
  pub tokens : List Sight

-- the view of a token without members that owes nothing, has not seen the end, and notes nothing
pub record IsBlank (u : View) : Type 0 where
  pub none : u.size ≡ 0
  pub rests : u.errand ≡ Rest
  pub unseen : u.end_seen ≡ None
  pub unled : u.led ≡ false
  pub unnoted : u.note ≡ None

abbrev pub AreBlank : Key → List Sight → Type 0
AreBlank k l = AllByRecursion (λ x. (x.key ≡ k) × IsBlank x.view) l

pub record AreTokens (me : Me Kind (List Sight)) (count : ℕ) : Type 0 where
  pub bare : me.1 ≡ []
  pub long : length me.0 ≡ count

-- some new tokens, which have read the root's word
pub record AreSat (n : Named) (count : ℕ) (p : TokensHeld) : Type 0 where
  pub table : p.table ≡ n.id
  pub word : Fields
  pub tokens : p.tokens ≡ replicate count (sat_sight n.key word)

-- the members of these tokens have not arrived, and the tokens have just found the root open
pub record IsEager (v : View) : Type 0 where
  pub none : v.arrived ≡ 0
  pub unseen : v.end_seen ≡ None
  pub unled : v.led ≡ false
  pub unnoted : v.note ≡ None

abbrev pub tokens_of : TableId → Me Kind (List Sight) → TokensHeld
tokens_of id me = record { table = id; tokens = me.0 }

-- what the exchange needs of a group and of new tokens
pub record MayExchange (n : Named) (leaving : ℕ) (w : Fields) (c : GroupHeld) (p : TokensHeld) : Type 0 where
  pub own : (c.tree ≡ n) × (p.table ≡ n.id)
  pub blank : AreBlank n.key p.tokens
  pub may : CanPass c.view.tier w c.view
  pub eager : IsEager c.view
  pub place : c.view.tier < length n.key.shape
  pub some : 0 < w.parties
  pub capacity : w.parties + length p.tokens ≤ 65535
  pub enough : length c.tokens ≤ w.unarrived
  pub few : leaving ≤ length c.tokens
  pub come : leaving < length p.tokens + length c.tokens

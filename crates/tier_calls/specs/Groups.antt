-- Several tokens in one seat, with one member each (not part of Java's API).
use Rattle.std.specs.Prelude.{◌≡◌, ◌≢◌, ℕ, zero, suc, ◌+◌, ◌-◌, ◌≤◌, ◌<◌, List, [], ◌∷◌, ◌++◌, length}
use Rattle.atomic_table.specs.Table.{Me}
use Rattle.atomic_table.specs.Seated.{TableId}
use Rattle.phaser_word.specs.Fields.{Fields, IsLegal}
use Rattle.tier_steps.specs.declared.view.View.{View}
use Rattle.tier_steps.specs.declared.view.Errand.TheVariants.{Rest}
use Rattle.tier_steps.specs.declared.kind.Kind.{Kind}
use Rattle.tier_steps.specs.declared.kind.Kind.TheVariants.{Arrive, Join, Leave}
use Rattle.tier_steps.specs.Step.{looked}
use Rattle.tier_rule.specs.declared.sight.Key.{Key}
use Rattle.tier_rule.specs.declared.sight.Sight.{Sight}
use Rattle.tier_rule.specs.Reach.{those}
use Rattle.tier_rule.specs.Group.{stepped_sight, AreOf, AreAlike, Among, LookedAll, Goes, all_stepped}
use Rattle.tier_calls.specs.Holding.{Named, sight_of}

-- some tokens: their tree, what each knows of its member, and what their seat knows of each
pub record GroupHeld : Type 0 where
  pub tree : Named
  pub view : View
  pub tokens : List Sight

abbrev pub group_of : TableId → Me Kind (List Sight) → View → GroupHeld
group_of id me v = record { tree = record { id = id; key = (sight_of me).key }; view = v; tokens = me.0 }

-- the view of a token with one member that owes nothing
pub record IsOne (v : View) : Type 0 where
  pub one : v.size ≡ 1
  pub within : v.arrived ≤ 1
  pub rests : v.errand ≡ Rest

-- the word after `n` members have joined an open tier, and after `n` have left one at which others stay
abbrev pub joined_more : Fields → ℕ → Fields
joined_more w n = record w { parties = w.parties + n; unarrived = w.unarrived + n }

abbrev pub left_less : Fields → ℕ → Fields
left_less w n = record w { parties = w.parties - n; unarrived = w.unarrived - n }

-- What the tokens know after the members of new tokens joined the tier t, old ones left it, and all others arrived there, by one exchange
-- from the word w: first those that came, then those that left.
abbrev pub exchanged_all : ℕ → View → View → Fields → List Sight → List Sight → List Sight → List Sight
exchanged_all t u v w news stay gone =
    all_stepped Arrive 1 t v (left_less (joined_more w (length news)) (length gone)) (all_stepped (Join t 0 1) 0 t u w news ++ stay)
    ++ all_stepped Leave 1 t v (joined_more w (length news)) gone

-- A seat has so many sights, all with this view.
pub record AreSeated (me : Me Kind (List Sight)) (v : View) (count : ℕ) : Type 0 where
  pub bare : me.1 ≡ []
  pub long : length me.0 ≡ count
  pub some : 0 < count
  pub alike : AreAlike (sight_of me).key v me.0
  pub view : IsOne v

-- some tokens of one tree that know the same
pub record IsGroup (c : GroupHeld) : Type 0 where
  pub some : 0 < length c.tokens
  pub alike : AreAlike c.tree.key c.view c.tokens
  pub view : IsOne c.view

-- the view after a look at the tier t, which found the word w
abbrev pub glanced : ℕ → Fields → View → View
glanced zero w v = looked w v
glanced (suc t) w v = v

-- All tokens looked at the tier t, by this many tries, and found the word w.
pub record AllLooked (t : ℕ) (w : Fields) (tries : ℕ) (old new : GroupHeld) : Type 0 where
  pub tree : new.tree ≡ old.tree
  pub view : new.view ≡ glanced t w old.view
  pub looked : LookedAll old.tree.key t w tries old.tokens new.tokens
  pub was : IsGroup old
  pub group : IsGroup new

-- the tokens of a seat that may go, one after another, from one word to another
pub record MayGo (k : Key) (t : ℕ) (w u : Fields) (me : Me Kind (List Sight)) (m : List Sight) : Type 0 where
  pub bare : me.1 ≡ []
  pub legal : IsLegal w
  pub own : AreOf k me.0
  pub goes : Goes k t w me.0 u m

-- they have gone, by one exchange
pub record HaveGone (k : Key) (t : ℕ) (w u : Fields) (old new : Me Kind (List Sight)) (m : List Sight) : Type 0 where
  pub bare : new.1 ≡ []
  pub now : new.0 ≡ m
  pub before : Among k.shape t w (those old.0)
  pub after : Among k.shape t u (those m)

-- the exchange was lost to another word, and all have looked
pub record HaveLost (k : Key) (t : ℕ) (w z : Fields) (old new : Me Kind (List Sight)) : Type 0 where
  pub bare : new.1 ≡ []
  pub other : z ≢ w
  pub looked : LookedAll k t z 1 old.0 new.0

-- Each of the tokens has arrived with its member, one after another, by one exchange of their tier's word, which was w.
pub record AllArrived (w : Fields) (old new : GroupHeld) : Type 0 where
  pub tree : new.tree ≡ old.tree
  pub view : new.view ≡ record old.view { arrived = 1 }
  pub tokens : new.tokens ≡ all_stepped Arrive 1 old.view.tier old.view w old.tokens
  pub after : Among old.tree.key.shape old.view.tier (record w { unarrived = w.unarrived - length old.tokens }) (those new.tokens)

-- the first token of a list takes a step, by one try
abbrev pub first_stepped : Kind → ℕ → Fields → List Sight → List Sight
first_stepped kind t w [] = []
first_stepped kind t w (x ∷ xs) = stepped_sight kind t w 1 x ∷ xs

-- The exchange was lost to another word at their tier, and all have looked there instead.
pub record AllLost (w z : Fields) (old new : GroupHeld) : Type 0 where
  pub other : z ≢ w
  pub looked : AllLooked old.view.tier z 1 old new

-- The exchange by which new tokens join a tier beside a group, and what a call of it answers (not part of Java's API).
use Rattle.std.specs.Prelude.{◌≡◌, ◌≢◌, ℕ, ◌+◌, ◌≤◌, ◌<◌, true, Some, List, ◌++◌, length}
use Rattle.phaser_word.specs.Fields.{Fields}
use Rattle.tier_steps.specs.View.{new_view}
use Rattle.tier_steps.specs.declared.kind.Kind.TheVariants.{Join}
use Rattle.tier_steps.specs.Step.{CanPass}
use Rattle.tier_rule.specs.declared.sight.Sight.{Sight}
use Rattle.tier_rule.specs.Group.{all_stepped, looked_all}
use Rattle.tier_calls.specs.Holding.{Named}
use Rattle.tier_calls.specs.Passes.{EndSeen, IsFresh}
use Rattle.tier_calls.specs.Groups.{GroupHeld, glanced}
use Rattle.tier_calls.specs.ArrivesAll.{KeepsAll, KeepsSoon}
use Rattle.tier_calls.specs.NewTokens.{TokensHeld, AreBlank, AreSat, IsEager}
use Rattle.tier_calls.specs.ArrivesWith.{FirstLook, OnlyTried, FindsFull}
use Rattle.tier_calls.specs.declared.joining_all.JoinTry.{JoinTry}
use Rattle.tier_calls.specs.declared.joining_all.JoinTry.TheVariants as tried
use Rattle.tier_calls.specs.declared.joining_all.TriedJoin.{TriedJoin}
use Rattle.tier_calls.specs.declared.joining_all.TriedJoin.TheVariants as went
use Rattle.tier_calls.specs.declared.joining_all.JoinedAll.{JoinedAll}
use Rattle.tier_calls.specs.declared.joining_all.JoinedAll.TheVariants as answer

-- what the exchange needs of a group and of new tokens
pub record MayJoin (n : Named) (w : Fields) (c : GroupHeld) (p : TokensHeld) : Type 0 where
  pub own : (c.tree ≡ n) × (p.table ≡ n.id)
  pub blank : AreBlank n.key p.tokens
  pub may : CanPass c.view.tier w c.view
  pub eager : IsEager c.view
  pub place : c.view.tier < length n.key.shape
  pub some : 0 < w.parties
  pub enough : length c.tokens ≤ w.unarrived
  pub capacity : w.parties + length p.tokens ≤ 65535

-- What the tokens know after one member of each new token has joined at the group's tier, by one exchange from the word w: first the new
-- ones, then the old ones, which know what they knew.
abbrev pub sights_joined : GroupHeld → TokensHeld → Fields → List Sight
sights_joined c p w = all_stepped (Join c.view.tier 0 1) 1 c.view.tier (new_view 0) w p.tokens ++ c.tokens

-- One exchange: all new members have joined, and the group has their tokens too. Or it was lost to another word, and all old tokens have
-- looked.
abbrev pub TriesJoining : GroupHeld → TokensHeld → Fields → JoinTry → Type 0
TriesJoining c p w (tried.Joined group) = (group.tree ≡ c.tree) × (group.view ≡ c.view) × (group.tokens ≡ sights_joined c p w)
TriesJoining c p w (tried.Lost group z) =
    (z ≢ w) × (group.tree ≡ c.tree) × (group.view ≡ glanced c.view.tier z c.view) × (group.tokens ≡ looked_all c.view.tier z 1 c.tokens)

-- Some looks, and then one exchange, by which `n` new tokens joined at the tier of the old ones.
pub record HasJoined (tries n : ℕ) (old new : GroupHeld) : Type 0 where
  pub mid : GroupHeld
  pub word : Fields
  pub pool : TokensHeld
  -- nothing was counted before, by the other tries
  pub used : ℕ
  pub few : used < tries
  pub kept : KeepsAll used old mid
  -- the members had not arrived, and the root was open
  pub eager : IsEager mid.view
  -- the tokens are new, and there was room for them at the tier
  pub fresh : AreSat old.tree n pool
  pub capacity : word.parties + n ≤ 65535
  pub tree : new.tree ≡ old.tree
  pub view : new.view ≡ mid.view
  pub tokens : new.tokens ≡ sights_joined mid pool word

abbrev pub TriesToJoin : ℕ → ℕ → GroupHeld → TriedJoin → Type 0
TriesToJoin tries n old (went.Yet group) = KeepsAll tries old group
TriesToJoin tries n old (went.Joined group) = HasJoined tries n old group
TriesToJoin tries n old (went.Full group count) = (used : ℕ) × (used < tries) × KeepsAll used old group × FindsFull n group count
TriesToJoin tries n old (went.Ended group word) = KeepsSoon tries old group × (word.ended ≡ true) × (group.view.end_seen ≡ Some word.phase)

-- What each answer says, after one look at the root. Before Busy all tries were made.
abbrev pub JoinsAll : ℕ → ℕ → GroupHeld → JoinedAll → Type 0
JoinsAll tries n old (answer.Joined group phase) =
    (mid : GroupHeld) × FirstLook old mid × HasJoined tries n mid group × (phase ≡ group.view.phase)
JoinsAll tries n old (answer.Full group count) = (used : ℕ) × (used < tries) × OnlyTried used old group × FindsFull n group count
JoinsAll tries n old (answer.AlreadyArrived group phase) =
    FirstLook old group × IsFresh group.view × (group.view.arrived ≡ 1) × (phase ≡ group.view.phase)
JoinsAll tries n old (answer.Ended group shown) =
    (mid : GroupHeld) × FirstLook old mid × KeepsSoon tries mid group × EndSeen group.view shown
JoinsAll tries n old (answer.Busy group) = OnlyTried tries old group

-- the answer says that the tree has ended
abbrev pub HasEnded : JoinedAll → Type 0
HasEnded (answer.Ended group shown) = Unit {0}
HasEnded _ = ⊥

-- What it says that all tokens of a group pass their tier: some leave, new ones join, and the rest arrive (not part of Java's API).
use Rattle.std.specs.Prelude.{◌≡◌, ℕ, ◌+◌, ◌<◌, true, false, Some, List, ◌∷◌, ◌++◌, length}
use Rattle.phaser_word.specs.Fields.{Fields}
use Rattle.tier_steps.specs.declared.view.View.{View}
use Rattle.tier_rule.specs.declared.sight.Sight.{Sight}
use Rattle.tier_calls.specs.Holding.{Named, Holding, sight_held}
use Rattle.tier_calls.specs.Passes.{EndSeen, IsFresh}
use Rattle.tier_calls.specs.Arrives.{IsLooked}
use Rattle.tier_calls.specs.Groups.{GroupHeld, AllLooked}
use Rattle.tier_calls.specs.LastOnes.{tokens_in}
use Rattle.tier_calls.specs.ArrivesAll.{Each, Did, Looks, KeepsAll, KeepsSoon, AllHere}
use Rattle.tier_calls.specs.NewTokens.{TokensHeld, AreSat}
use Rattle.tier_calls.specs.Exchanges.{sights_with}
use Rattle.tier_calls.specs.declared.arriving_with.TriedWith.{TriedWith}
use Rattle.tier_calls.specs.declared.arriving_with.TriedWith.TheVariants as went
use Rattle.tier_calls.specs.declared.arriving_with.ArrivedWith.{ArrivedWith}
use Rattle.tier_calls.specs.declared.arriving_with.ArrivedWith.TheVariants as answer

-- Some looks, and then one exchange, by which `leaving` of the old tokens left, `joining` new ones joined, and all but those that left
-- arrived.
pub record HasExchanged (tries joining leaving : ℕ) (old : GroupHeld) (tree : Named) (view : View) (tokens : List Sight) : Type 0 where
  pub mid : GroupHeld
  pub word : Fields
  pub pool : TokensHeld
  -- nothing was counted before, by the other tries
  pub used : ℕ
  pub few : used < tries
  pub kept : KeepsAll used old mid
  pub fresh : AreSat old.tree joining pool
  pub same : tree ≡ old.tree
  pub here : AllHere old.view view
  pub gone : List Sight
  pub all : tokens ++ gone ≡ sights_with mid pool leaving word
  pub those : length gone ≡ leaving

-- At the last look at the tier, it had this many parties, and no room for `n` more.
pub record FindsFull (n : ℕ) (group : GroupHeld) (count : ℕ) : Type 0 where
  pub before : GroupHeld
  pub word : Fields
  pub found : AllLooked group.view.tier word 0 before group
  pub parties : count ≡ word.parties
  pub full : 65535 < count + n

abbrev pub TriesWith : ℕ → ℕ → ℕ → GroupHeld → TriedWith → Type 0
TriesWith tries joining leaving old (went.Yet group) = KeepsAll tries old group
TriesWith tries joining leaving old (went.Done group) = HasExchanged tries joining leaving old group.tree group.view group.tokens
TriesWith tries joining leaving old (went.Owing errand rest) =
    HasExchanged tries joining leaving old errand.token.tree errand.token.view (sight_held errand.token ∷ tokens_in rest)
    × ((c : GroupHeld) → rest ≡ Some c → (c.tree ≡ old.tree) × AllHere old.view c.view)
TriesWith tries joining leaving old (went.Full group count) =
    (used : ℕ) × (used < tries) × KeepsAll used old group × FindsFull joining group count
TriesWith tries joining leaving old (went.Ended group word) =
    KeepsSoon tries old group × (word.ended ≡ true) × (group.view.end_seen ≡ Some word.phase)

-- the first look of a call
pub record FirstLook (old mid : GroupHeld) : Type 0 where
  pub tree : mid.tree ≡ old.tree
  pub looked : IsLooked old.view mid.view
  pub unled : mid.view.led ≡ false
  pub tokens : Each (Did Looks 0) old.tokens mid.tokens
  pub place : mid.view.tier < length old.tree.key.shape

-- One look at the root, which found members that had not arrived, and then some looks and refreshes, which counted nothing, by
-- exactly so many tries.
pub record OnlyTried (tries : ℕ) (old new : GroupHeld) : Type 0 where
  pub mid : GroupHeld
  pub first : FirstLook old mid
  pub none : mid.view.arrived ≡ 0
  pub kept : KeepsAll tries mid new

-- What each answer says, after one look at the root. Before Busy all tries were made.
abbrev pub ArrivesWith : ℕ → ℕ → ℕ → GroupHeld → ArrivedWith → Type 0
ArrivesWith tries joining leaving old (answer.Done group phase) =
    (mid : GroupHeld) × FirstLook old mid × HasExchanged tries joining leaving mid group.tree group.view group.tokens
    × (phase ≡ group.view.phase)
ArrivesWith tries joining leaving old (answer.Owing errand rest) =
    (mid : GroupHeld) × FirstLook old mid
    × HasExchanged tries joining leaving mid errand.token.tree errand.token.view (sight_held errand.token ∷ tokens_in rest)
    × ((c : GroupHeld) → rest ≡ Some c → (c.tree ≡ mid.tree) × AllHere mid.view c.view)
ArrivesWith tries joining leaving old (answer.Full group count) =
    (used : ℕ) × (used < tries) × OnlyTried used old group × FindsFull joining group count
ArrivesWith tries joining leaving old (answer.AlreadyArrived group phase) =
    FirstLook old group × IsFresh group.view × (group.view.arrived ≡ 1) × (phase ≡ group.view.phase)
ArrivesWith tries joining leaving old (answer.Ended group shown) =
    (mid : GroupHeld) × FirstLook old mid × KeepsSoon tries mid group × EndSeen group.view shown
ArrivesWith tries joining leaving old (answer.Busy group) = OnlyTried tries old group

-- the answer says that the tree has ended
abbrev pub HasEnded : ArrivedWith → Type 0
HasEnded (answer.Ended group shown) = Unit {0}
HasEnded _ = ⊥

-- a door off which seats were split
pub record OnlySplit (old new : Holding) : Type 0 where
  pub tree : new.tree ≡ old.tree
  pub view : new.view ≡ old.view
  pub steps : new.steps ≡ old.steps
  pub tried : new.tried ≡ old.tried

-- All members of a group leave their tier by one exchange of its word (not part of Java's API).
use Rattle.std.specs.Prelude.{◌≡◌, ℕ, zero, suc, ◌-◌, ◌≤◌, ◌<◌, ◌==◌, if◌then◌else◌, Bool, true, false, Some, List, ◌∷◌, length}
use Rattle.std.specs.List.{AllByRecursion}
use Rattle.phaser_word.specs.Fields.{Fields}
use Rattle.tier_shape.specs.Parents.{parent_of}
use Rattle.tier_steps.specs.declared.view.Errand.{Errand}
use Rattle.tier_steps.specs.declared.view.Errand.TheVariants.{Rest, Climbing, Advancing}
use Rattle.tier_steps.specs.declared.view.Passage.TheVariants.{Arrival, Departure}
use Rattle.tier_steps.specs.declared.kind.Kind.{Kind}
use Rattle.tier_steps.specs.declared.kind.Kind.TheVariants.{Look, Leave}
use Rattle.tier_rule.specs.declared.sight.Sight.{Sight}
use Rattle.tier_calls.specs.Holding.{Holding, sight_held, shape_of}
use Rattle.tier_calls.specs.Made.{MadeOnly, is_quiet, HasLooked}
use Rattle.tier_calls.specs.Passes.{HasCounted, EndSeen, IsFresh}
use Rattle.tier_calls.specs.Arrives.{IsLooked, HasPassed}
use Rattle.tier_calls.specs.Groups.{GroupHeld, AllLost}
use Rattle.tier_calls.specs.ArrivesAll.{Each, Did, HasSpent, Looks, KeepsAll, KeepsSoon}
use Rattle.tier_calls.specs.declared.leaving_all.LeavingTry.{LeavingTry}
use Rattle.tier_calls.specs.declared.leaving_all.LeavingTry.TheVariants as once
use Rattle.tier_calls.specs.declared.leaving_all.TriedLeaving.{TriedLeaving}
use Rattle.tier_calls.specs.declared.leaving_all.TriedLeaving.TheVariants as tried
use Rattle.tier_calls.specs.declared.leaving_all.LeftAll.{LeftAll}
use Rattle.tier_calls.specs.declared.leaving_all.LeftAll.TheVariants as answer

-- the word of the tier t after `n` of its unarrived parties have left it; below the root an empty tier has a mark
abbrev pub all_left : ℕ → ℕ → Fields → Fields
all_left zero n w = record w { parties = w.parties - n; unarrived = w.unarrived - n }
all_left (suc t) n w = record w { parties = w.parties - n; unarrived = (if w.parties == n then 1 else w.unarrived - n) }

-- What the last of these departures owes if nobody else was to arrive at the tier t: the advance at the root, and a climb below it, by a
-- departure if the tier is empty then. `above` is the tier's parent.
abbrev pub owed_by_last : ℕ → ℕ → Bool → Errand
owed_by_last above zero empty = Advancing
owed_by_last above (suc t) empty = Climbing above (if empty then Departure else Arrival)

-- looks and refreshes, and then the departure
abbrev pub LeavesOnce : List Kind → List Kind → Type 0
LeavesOnce old new = (looked : List Kind) × MadeOnly is_quiet old looked × (new ≡ Leave ∷ looked)

-- the same after one look at the root
abbrev pub LooksAndLeaves : List Kind → List Kind → Type 0
LooksAndLeaves old new = LeavesOnce (Look ∷ old) new

-- a token without members that owes nothing; dropping it changes nothing for others
pub record IsSpare (x : Sight) : Type 0 where
  pub none : x.view.size ≡ 0
  pub rests : x.view.errand ≡ Rest

-- Every token's member has left, once, all by one exchange of their tier's word, which was w. `first` is the first token, and the others
-- are gone.
pub record HaveLeft (P : List Kind → List Kind → Type 0) (tries : ℕ) (w : Fields) (old : GroupHeld) (first : Holding) : Type 0 where
  pub tree : first.tree ≡ old.tree
  pub none : first.view.size ≡ 0
  pub nobody : first.view.arrived ≡ 0
  pub unled : first.view.led ≡ false
  pub tier : first.tier ≡ old.view.tier
  pub word : first.word ≡ all_left old.view.tier (length old.tokens) w
  pub enough : w.unarrived ≤ w.parties
  pub gone : List Sight
  pub spare : AllByRecursion IsSpare gone
  pub tokens : Each (Did P tries) old.tokens (sight_held first ∷ gone)

-- others are still to arrive at the tier, and the first token owes nothing
abbrev pub LeftEarly : (List Kind → List Kind → Type 0) → ℕ → GroupHeld → Holding → Type 0
LeftEarly P tries old first = (w : Fields) × HaveLeft P tries w old first × (length old.tokens < w.unarrived)

-- nobody else was to arrive at the tier, and the first token owes what follows
abbrev pub LeftLast : (List Kind → List Kind → Type 0) → ℕ → GroupHeld → Holding → Type 0
LeftLast P tries old first = (w : Fields) × HaveLeft P tries w old first × (length old.tokens ≡ w.unarrived)
    × (first.view.errand ≡ owed_by_last (parent_of (shape_of first) old.view.tier) old.view.tier (w.parties == length old.tokens))

-- One try from the word w: the departures of tokens that know as much as those of `from`, or else a look of all.
abbrev pub TriesOnce : Fields → GroupHeld → GroupHeld → LeavingTry → Type 0
TriesOnce w from old (once.Left door) =
    HasCounted Departure from.view door.view × HaveLeft LeavesOnce 1 w from door × (length from.tokens < w.unarrived)
TriesOnce w from old (once.Owing errand) =
    HasCounted Departure from.view errand.token.view × HaveLeft LeavesOnce 1 w from errand.token × (length from.tokens ≡ w.unarrived)
    × (errand.token.view.errand
    ≡ owed_by_last (parent_of (shape_of errand.token) from.view.tier) from.view.tier (w.parties == length from.tokens))
TriesOnce w from old (once.Lost group z) = AllLost w z old group

-- some tries
abbrev pub TriesLeaving : ℕ → GroupHeld → TriedLeaving → Type 0
TriesLeaving tries old (tried.Yet group) = KeepsAll tries old group
TriesLeaving tries old (tried.Left door) = HasCounted Departure old.view door.view × LeftEarly LeavesOnce tries old door
TriesLeaving tries old (tried.Owing errand) = HasCounted Departure old.view errand.token.view × LeftLast LeavesOnce tries old errand.token
TriesLeaving tries old (tried.Ended group word) = KeepsSoon tries old group × (word.ended ≡ true) × (group.view.end_seen ≡ Some word.phase)

-- What each answer says. After Left the door owes nothing. After Owing the errand's token owes a climb or the advance. After the other
-- answers nothing was counted. AlreadyArrived follows the look that begins the call, alone, and before Busy all tries were made.
abbrev pub LeavesAll : GroupHeld → ℕ → LeftAll → Type 0
LeavesAll old tries (answer.Left door phase) =
    HasPassed Departure old.view door.view × (phase ≡ door.view.phase) × LeftEarly LooksAndLeaves tries old door
LeavesAll old tries (answer.Owing errand) = HasPassed Departure old.view errand.token.view × LeftLast LooksAndLeaves tries old errand.token
LeavesAll old tries (answer.AlreadyArrived group phase) =
    (group.tree ≡ old.tree) × IsLooked old.view group.view × IsFresh group.view × (group.view.arrived ≡ 1) × (phase ≡ group.view.phase)
    × Each (Did Looks 0) old.tokens group.tokens
LeavesAll old tries (answer.Ended group shown) =
    (group.tree ≡ old.tree) × IsLooked old.view group.view × EndSeen group.view shown × Each (Did HasLooked tries) old.tokens group.tokens
LeavesAll old tries (answer.Busy group) =
    (group.tree ≡ old.tree) × IsLooked old.view group.view × (group.view.arrived ≡ 0) × Each (Did HasLooked tries) old.tokens group.tokens
    × HasSpent tries old.tokens group.tokens

-- the answer says that the tree has ended
abbrev pub HasEnded : LeftAll → Type 0
HasEnded (answer.Ended group shown) = Unit {0}
HasEnded _ = ⊥

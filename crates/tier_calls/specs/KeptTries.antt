-- Tries whose first one begins with the root's word, which the tokens have kept (not part of Java's API).
use Rattle.std.specs.Prelude.{◌≡◌, ℕ, ◌⊎◌, Option, Some, None}
use Rattle.phaser_word.specs.Fields.{Fields}
use Rattle.tier_calls.specs.Groups.{GroupHeld, AllLost}
use Rattle.tier_calls.specs.ArrivesAll.{ArrivesOnce, KeepsAll, CountsAll, CountsLast, TriesAll}
use Rattle.tier_calls.specs.ArrivesWith.{FirstLook, OnlyTried}
use Rattle.tier_calls.specs.LeavesAll.{TriesLeaving}
use Rattle.tier_calls.specs.declared.leaving_all.TriedLeaving.{TriedLeaving}
use Rattle.tier_calls.specs.declared.groups.TriedAll.{TriedAll}
use Rattle.tier_calls.specs.declared.groups.TriedAll.TheVariants as tried

-- One try from the word w: the arrivals of tokens that know as much as those of `from`, or else a look of all.
abbrev pub TriesFrom : Fields → GroupHeld → GroupHeld → TriedAll → Type 0
TriesFrom w from old (tried.Yet group) = (z : Fields) × AllLost w z old group
TriesFrom w from old (tried.Done group) = CountsAll ArrivesOnce 1 from group
TriesFrom w from old (tried.Owing errand rest) = CountsLast ArrivesOnce 1 from errand.token rest
TriesFrom w from old (tried.Ended group word) = ⊥

-- one look at the root, and then some tries
abbrev pub LooksAndTries : ℕ → GroupHeld → TriedAll → Type 0
LooksAndTries tries old t = (mid : GroupHeld) × FirstLook old mid × (mid.view.arrived ≡ 0) × TriesAll tries mid t

-- some tries, after a look at the root if its word was kept
abbrev pub TriesKept : Option Fields → ℕ → GroupHeld → TriedAll → Type 0
TriesKept None tries old t = TriesAll tries old t
TriesKept (Some kept) tries old t = LooksAndTries tries old t

-- The same of departures.
abbrev pub LooksAndTriesLeaving : ℕ → GroupHeld → TriedLeaving → Type 0
LooksAndTriesLeaving tries old t = (mid : GroupHeld) × FirstLook old mid × (mid.view.arrived ≡ 0) × TriesLeaving tries mid t

abbrev pub TriesLeavingKept : Option Fields → ℕ → GroupHeld → TriedLeaving → Type 0
TriesLeavingKept None tries old t = TriesLeaving tries old t
TriesLeavingKept (Some kept) tries old t = LooksAndTriesLeaving tries old t

-- After `n` tries nothing was counted. Their first one begins with `kept`, if a word was kept, and `now` is what the next one begins with.
abbrev pub CountsNothing : Option Fields → Option Fields → ℕ → GroupHeld → GroupHeld → Type 0
CountsNothing None now n old group = KeepsAll n old group × (now ≡ None)
CountsNothing (Some kept) now n old group = ((n ≡ 0) × (group ≡ old) × (now ≡ Some kept)) ⊎ (OnlyTried n old group × (now ≡ None))

pub record SoFar (kept now : Option Fields) (n : ℕ) (old group : GroupHeld) : Type 0 where
  pub how : CountsNothing kept now n old group

-- one of these tries, which counted nothing
abbrev pub TriedOnce : Option Fields → GroupHeld → GroupHeld → Type 0
TriedOnce None old group = KeepsAll 1 old group
TriedOnce (Some kept) old group = OnlyTried 1 old group

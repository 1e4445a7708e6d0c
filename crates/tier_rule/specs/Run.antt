-- What a run of steps has done: its last advance, and whether that advance waited for all (not part of Java's API).
use Rattle.std.specs.Prelude.{◌≡◌, ◌≢◌, ℕ, ◌<◌, ◌⊎◌, true, false, Option, None, Some, if◌then◌else◌, List, ◌∷◌, ◌++◌, length, set}
use Rattle.std.specs.List.{AllByRecursion}
use mathlib.Core.Option.{some}
use lib.ListN.{get_elem?}
use Rattle.phaser_word.specs.Fields.{Fields}
use Rattle.phaser_word.specs.Phase.{next_phase_of}
use Rattle.tier_steps.specs.Tally.{word_at, root_phase}
use Rattle.tier_steps.specs.Laws.{words_after}
use Rattle.tier_steps.specs.Due.{is_advance}
use Rattle.tier_rule.specs.declared.sight.Key.{Key}
use Rattle.tier_rule.specs.declared.sight.Sight.{Sight}
use Rattle.tier_rule.specs.Reach.{views_of, Reached, opens, steps, cuts, sits, joins, parts}
use Rattle.tier_rule.specs.Laws.{HasArrived, ended_by}

-- a state: the words of the tiers, and what the seats know
pub record Moment : Type 0 where
  pub words : List Fields
  pub seats : List (List Sight)

-- The state that the last advance of a run found, if the run has an advance.
abbrev pub last_advance : {k : Key} {ws : List Fields} {vs : List (List Sight)} → Reached k ws vs → Option Moment
last_advance (opens x shape small is) = None
last_advance (steps us ts id t tries f b x y kind r at within needs says own is few) =
    if is_advance kind then Some (record { words = us; seats = ts }) else last_advance r
last_advance (cuts us ts id l r at) = last_advance r
last_advance (sits us ts id n r at) = last_advance r
last_advance (joins us ts id other l m r at apart there) = last_advance r
last_advance (parts us ts id x l y m r at) = last_advance r

-- An advance left this phase, and found that every member of every token had arrived in it.
abbrev pub WaitedForAll : ℕ → Option Moment → Type 0
WaitedForAll phase None = ⊥
WaitedForAll phase (Some found) = (root_phase found.words ≡ phase) × AllByRecursion (HasArrived phase) (views_of found.seats)

-- The phase of a root, by the last advance: as long as there was none, it is that in which the tree was opened. Else it follows the phase
-- that the advance left, and every member of every token had arrived in that one.
abbrev pub Follows : Key → ℕ → Option Moment → Type 0
Follows k phase None = phase ≡ k.phase
Follows k phase (Some found) =
    (phase ≡ next_phase_of (root_phase found.words)) × AllByRecursion (HasArrived (root_phase found.words)) (views_of found.seats)

-- So it is after every run.
abbrev pub EachPhaseIsWaitedFor : Type 0
EachPhaseIsWaitedFor =
    (k : Key) (words : List Fields) (seats : List (List Sight)) (run : Reached k words seats)
    → Follows k (root_phase words) (last_advance run)

-- some seat has a token that knows this
pub record Stands (x : Sight) (seats : List (List Sight)) : Type 0 where
  pub id : ℕ
  pub front : List Sight
  pub back : List Sight
  pub seat : get_elem? seats id ≡ some (front ++ x ∷ back)

-- Steps reach a state in which the tier t has the word w, and some seat a token that knows x.
pub record IsReached (k : Key) (t : ℕ) (w : Fields) (x : Sight) : Type 0 where
  pub words : List Fields
  pub seats : List (List Sight)
  pub reached : Reached k words seats
  pub within : t < length words
  pub word : word_at words t ≡ w
  pub stands : Stands x seats

-- If the root is in the phase `now`, and some token with members is still in `left`, then in whatever way that state was reached, the last
-- advance left `left`, and found that every member of every token had arrived in it.
abbrev pub WaitedBetween : Key → ℕ → ℕ → Type 0
WaitedBetween k left now =
    (words : List Fields) (seats : List (List Sight)) (run : Reached k words seats) (x : Sight)
    → root_phase words ≡ now → Stands x seats → 0 < x.view.size → x.view.phase ≡ left → WaitedForAll left (last_advance run)

-- It is so between any two phases.
abbrev pub EachTokenIsWaitedFor : Type 0
EachTokenIsWaitedFor = (k : Key) (left now : ℕ) → now ≢ left → WaitedBetween k left now

-- As long as some member of a token has not arrived, the root is in that token's phase.
abbrev pub UnarrivedHoldThePhase : Type 0
UnarrivedHoldThePhase =
    (k : Key) (words : List Fields) (seats : List (List Sight)) (x : Sight)
    → Reached k words seats → Stands x seats → x.view.arrived < x.view.size → root_phase words ≡ x.view.phase

-- Whatever an access changes, in words and in what its own seat knows: if it brings the root into the next phase, then every member of
-- every token of the other seats had arrived in the phase before.
abbrev pub AccessesWaitForOthers : Type 0
AccessesWaitForOthers =
    (k : Key) (words after : List Fields) (seats : List (List Sight)) (id : ℕ) (own : List Sight) (other : ℕ) (front : List Sight)
    (x : Sight) (back : List Sight)
    → Reached k words seats → Reached k after (set seats id own) → root_phase after ≡ next_phase_of (root_phase words)
    → other ≢ id → get_elem? seats other ≡ some (front ++ x ∷ back) → HasArrived (root_phase words) x.view

-- A step of a run ended the tree in this phase: it found a root that had not ended, it was a force or an advance that the plan says is the
-- last, and it left the root in this phase.
abbrev pub HasEnd : {k : Key} {ws : List Fields} {vs : List (List Sight)} → Reached k ws vs → ℕ → Type 0
HasEnd (opens x shape small is) phase = ⊥
HasEnd {k = k} (steps us ts id t tries f b x y kind r at within needs says own is few) phase =
    (((word_at us 0).ended ≡ false) × (ended_by k us ts kind ≡ true) × (root_phase (words_after us kind t x.view) ≡ phase)) ⊎ HasEnd r phase
HasEnd (cuts us ts id l r at) phase = HasEnd r phase
HasEnd (sits us ts id n r at) phase = HasEnd r phase
HasEnd (joins us ts id other l m r at apart there) phase = HasEnd r phase
HasEnd (parts us ts id x l y m r at) phase = HasEnd r phase

-- In whatever way a state of a tree was reached whose root has ended, a step of that run ended the tree, in the phase in which the root is.
abbrev pub EndsHaveACause : Key → Type 0
EndsHaveACause k =
    (words : List Fields) (seats : List (List Sight)) (run : Reached k words seats) → (word_at words 0).ended ≡ true
    → HasEnd run (root_phase words)

-- So it is of every tree.
abbrev pub EachEndHasACause : Type 0
EachEndHasACause = (k : Key) → EndsHaveACause k

-- After such a step the root has ended for good, and stays in that phase.
abbrev pub EndsLast : Type 0
EndsLast =
    (k : Key) (words : List Fields) (seats : List (List Sight)) (run : Reached k words seats) (phase : ℕ)
    → HasEnd run phase → ((word_at words 0).ended ≡ true) × (root_phase words ≡ phase)

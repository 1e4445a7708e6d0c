-- What holds of the steps of any number of threads (not part of Java's API).
use Rattle.std.specs.Prelude.{◌≡◌, ◌≢◌, ℕ, ◌+◌, ◌<◌, ◌==◌, Bool, true, false, List, [], ◌∷◌, ◌++◌, length, set, take, sum_by, ◌≤◌, if◌then◌else◌}
use Rattle.std.specs.List.{AllByRecursion}
use mathlib.Core.Option.{some}
use lib.ListN.{get_elem?}
use Rattle.phaser_word.specs.Fields.{Fields}
use Rattle.tier_steps.specs.declared.view.View.{View}
use Rattle.tier_steps.specs.View.{only_at, is_hidden}
use Rattle.tier_steps.specs.declared.kind.Kind.{Kind}
use Rattle.tier_steps.specs.declared.kind.Kind.TheVariants.{Advance, Force}
use Rattle.tier_steps.specs.Tally.{word_at}
use Rattle.tier_steps.specs.Step.{Needs}
use Rattle.tier_steps.specs.Laws.{words_after, stepped_view}
use Rattle.tier_steps.specs.Image.{image, label, labelled, IsAllowedLabel, LooksAlike}
use Rattle.tier_steps.specs.Start.{empty_words}
use Rattle.flat_phaser.specs.Flat.{Flat, registered}
use Rattle.advance_rule.specs.Plan.{end_ends}
use Rattle.tier_rule.specs.declared.sight.Key.{Key}
use Rattle.tier_rule.specs.declared.sight.Sight.{Sight}
use Rattle.tier_rule.specs.Reach.{views_of, PlanSays, Reached}
use Rattle.tier_rule.specs.Group.{Goes}

-- all members of a token have arrived in this phase
abbrev pub HasArrived : ℕ → View → Type 0
HasArrived phase v = 0 < v.size → (v.phase ≡ phase) × (v.arrived ≡ v.size)

-- After any steps of any tokens, in any order, this token, one of those of its seat, may take this step. If the step leaves the root's
-- phase, every member of every token has arrived in that phase.
abbrev pub AdvancesWaitForAll : Type 0
AdvancesWaitForAll =
    (k : Key) (words : List Fields) (seats : List (List Sight)) (id t : ℕ) (front : List Sight) (x : Sight) (back : List Sight)
    (kind : Kind)
    → Reached k words seats → get_elem? seats id ≡ some (front ++ x ∷ back) → t < length words
    → Needs k.shape kind t (word_at words t) x.view
    → (word_at (words_after words kind t x.view) 0).phase ≢ (word_at words 0).phase
    → AllByRecursion (HasArrived (word_at words 0).phase) (views_of seats)

-- after any steps of any tokens, a step that a token may take, one of those of its seat
pub record MayStep (k : Key) (words : List Fields) (seats : List (List Sight)) (id t : ℕ) (front : List Sight) (x : Sight)
    (back : List Sight) (kind : Kind) : Type 0 where
  pub reached : Reached k words seats
  pub seat : get_elem? seats id ≡ some (front ++ x ∷ back)
  pub within : t < length words
  pub needs : Needs k.shape kind t (word_at words t) x.view
  pub says : PlanSays k kind (word_at words t)

-- the number of a token: how many views are before it
abbrev pub number_of : List (List Sight) → ℕ → List Sight → ℕ
number_of seats id front = length (views_of (take id seats)) + length front

-- Such a step is the flat phaser's step of its label, or no step of it. Any flat phaser that looks like the tree before may take it, and
-- then looks like the tree afterwards.
abbrev pub StepsAreFlat : Type 0
StepsAreFlat =
    (k : Key) (words : List Fields) (seats : List (List Sight)) (id t : ℕ) (front : List Sight) (x y : Sight) (back : List Sight)
    (kind : Kind) (f : Flat)
    → MayStep k words seats id t front x back kind → y.view ≡ stepped_view k.shape words kind t x.view
    → LooksAlike f (image words (views_of seats))
    → IsAllowedLabel (label (number_of seats id front) kind) f
    × LooksAlike (labelled (label (number_of seats id front) kind) f)
    (image (words_after words kind t x.view) (views_of (set seats id (front ++ y ∷ back))))

-- whether the tree has ended after a step: yes after a force, after an advance as the plan says, by the phase and by whether there are no
-- members, and as before after any other step
abbrev pub ended_by : Key → List Fields → List (List Sight) → Kind → Bool
ended_by k words seats (Advance ends) = end_ends k.plan (word_at words 0).phase (registered (image words (views_of seats)) == 0)
ended_by k words seats Force = true
ended_by k words seats _ = (word_at words 0).ended

abbrev pub EndsAreForcedOrPlanned : Type 0
EndsAreForcedOrPlanned =
    (k : Key) (words : List Fields) (seats : List (List Sight)) (id t : ℕ) (front : List Sight) (x : Sight) (back : List Sight)
    (kind : Kind)
    → MayStep k words seats id t front x back kind
    → (word_at (words_after words kind t x.view) 0).ended ≡ ended_by k words seats kind

-- the step that ended a tree, at a moment when it had not ended
pub record IsEnd (k : Key) : Type 0 where
  pub words : List Fields
  pub seats : List (List Sight)
  pub id : ℕ
  pub tier : ℕ
  pub front : List Sight
  pub sight : Sight
  pub back : List Sight
  pub kind : Kind
  pub may : MayStep k words seats id tier front sight back kind
  pub going : (word_at words 0).ended ≡ false
  pub ends : ended_by k words seats kind ≡ true

-- If a tree has ended, a step ended it: a force, or an advance that the plan says is the last.
abbrev pub EndsHaveAStep : Type 0
EndsHaveAStep =
    (k : Key) (words : List Fields) (seats : List (List Sight)) → Reached k words seats → (word_at words 0).ended ≡ true → IsEnd k

-- A new tree is empty: as long as its first token has taken no step and no seat was split off the token's seat, all
-- words are as at first, and there is no other seat.
abbrev pub NewTreesAreEmpty : Type 0
NewTreesAreEmpty =
    (k : Key) (words : List Fields) (seats : List (List Sight)) (id : ℕ) (x : Sight)
    → Reached k words seats → get_elem? seats id ≡ some (x ∷ []) → x.steps ≡ [] → x.opened ≡ 0
    → (words ≡ empty_words k.shape k.phase) × (seats ≡ (x ∷ []) ∷ [])

-- One exchange may be several steps: tokens of one seat that go from one word of a tier to another, one after another, go from a state that
-- is reached to another.
abbrev pub RunsAreSteps : Type 0
RunsAreSteps =
    (k : Key) (words : List Fields) (seats : List (List Sight)) (id t : ℕ) (word : Fields) (old new : List Sight)
    → Reached k words seats → get_elem? seats id ≡ some old → t < length words → Goes k t (word_at words t) old word new
    → Reached k (set words t word) (set seats id new)

-- the members that a token has at the root; one that still opens a path has none there
abbrev pub members_at_root : View → ℕ
members_at_root v = if is_hidden v.errand then 0 else only_at v.tier v.size 0

-- The root never has more than 65535 members, also after the tree has ended.
abbrev pub RootsHaveRoom : Type 0
RootsHaveRoom =
    (k : Key) (words : List Fields) (seats : List (List Sight)) → Reached k words seats → sum_by members_at_root (views_of seats) ≤ 65535

-- The states of the words and of the seats' views that steps of the tree reach (not part of Java's API).
use Rattle.std.specs.Prelude.{◌≡◌, ◌≢◌, ℕ, ◌+◌, ◌≤◌, ◌<◌, ◌==◌, List, [], ◌∷◌, ◌++◌, map, length, set, replicate, Bool, true, false}
use mathlib.Core.Option.{some}
use lib.ListN.{get_elem?}
use Rattle.atomic_table.specs.Table.{State}
use Rattle.advance_rule.specs.Plan.{end_ends}
use Rattle.phaser_word.specs.Packed.{packed}
use Rattle.phaser_word.specs.Fields.{Fields}
use Rattle.tier_steps.specs.declared.view.View.{View}
use Rattle.tier_steps.specs.View.{new_view}
use Rattle.tier_shape.specs.Paths.{IsTiers}
use Rattle.tier_steps.specs.Tally.{word_at, Tallies}
use Rattle.tier_steps.specs.declared.kind.Kind.{Kind}
use Rattle.tier_steps.specs.declared.kind.Kind.TheVariants.{Look, Join, Advance}
use Rattle.tier_steps.specs.Step.{Needs, word_after}
use Rattle.tier_steps.specs.Laws.{words_after, stepped_view}
use Rattle.tier_steps.specs.Start.{empty_word, empty_words}
use Rattle.tier_rule.specs.declared.sight.Key.{Key}
use Rattle.tier_rule.specs.declared.sight.Sight.{Sight}

-- the views of one seat, and of all seats
abbrev pub those : List Sight → List View
those [] = []
those (x ∷ xs) = x.view ∷ those xs

abbrev pub views_of : List (List Sight) → List View
views_of [] = []
views_of (l ∷ ls) = those l ++ views_of ls

-- what the first seat of a tree knows, if the root has this word
abbrev pub first_sight : Key → Fields → Sight
first_sight k w = record { key = k; view = new_view w.phase; tier = 0; word = w; tried = 0; steps = []; opened = 0 }

-- what a seat knows that was split off another and saw this word at the root
abbrev pub sat_sight : Key → Fields → Sight
sat_sight k w = record { key = k; view = new_view w.phase; tier = 0; word = w; tried = 0; steps = Look ∷ []; opened = 0 }

-- what a seat knows after one more was split off it
abbrev pub cut_once : Sight → Sight
cut_once x = record x { opened = x.opened + 1 }

abbrev pub cut_off : List Sight → List Sight
cut_off [] = []
cut_off (x ∷ xs) = cut_once x ∷ xs

-- the first sight of a seat, and its other sights
abbrev pub front_of : List Sight → List Sight
front_of [] = []
front_of (x ∷ xs) = x ∷ []

abbrev pub rest_of : List Sight → List Sight
rest_of [] = []
rest_of (x ∷ xs) = xs

abbrev pub first_sights : Key → List Sight
first_sights k = first_sight k (empty_word k.phase) ∷ []

-- an advance ends the tree exactly if the plan says so
abbrev pub PlanSays : Key → Kind → Fields → Type 0
PlanSays k (Advance ends) w = ends ≡ end_ends k.plan w.phase (w.parties == 0)
PlanSays k _ w = Unit {0}

-- What a seat knows after a step of this kind at the tier t, which found these words and took `tries` tries: all that it knew, and the
-- step.
pub record Learns (kind : Kind) (t : ℕ) (ws : List Fields) (tries : ℕ) (x y : Sight) : Type 0 where
  pub key : y.key ≡ x.key
  pub view : y.view ≡ stepped_view x.key.shape ws kind t x.view
  pub tier : y.tier ≡ t
  pub word : y.word ≡ word_after kind t (word_at ws t) x.view
  pub tried : y.tried ≡ x.tried + tries
  pub steps : y.steps ≡ kind ∷ x.steps
  pub opened : y.opened ≡ x.opened

abbrev pub is_join : Kind → Bool
is_join (Join tier claimed size) = true
is_join _ = false

-- At most one try, and exactly one if the step changes the word. Only a join may leave its try to the step that the same exchange takes
-- after it.
pub record IsTried (kind : Kind) (t : ℕ) (w : Fields) (tries : ℕ) (x : Sight) : Type 0 where
  pub few : tries ≤ 1
  pub changes : word_after kind t w x.view ≢ w → is_join kind ≡ false → tries ≡ 1

-- A tree begins with empty tiers and one seat. A token, anywhere among those of its seat, takes a step of the tree. A seat without views is
-- split off another, which counts it, and becomes that of some new tokens when it looks at the root. A seat takes the views of another. A
-- seat with several views parts with the last ones, and keeps some.
pub data Reached (k : Key) : List Fields → List (List Sight) → Type 0 where
  opens : (x : Sight) → IsTiers k.shape → k.phase ≤ 2147483647 → x ≡ first_sight k (empty_word k.phase)
      → Reached k (empty_words k.shape k.phase) ((x ∷ []) ∷ [])
  steps : (ws : List Fields) (vs : List (List Sight)) (id t tries : ℕ) (f b : List Sight) (x y : Sight) (kind : Kind)
      → Reached k ws vs → get_elem? vs id ≡ some (f ++ x ∷ b) → t < length ws
      → Needs k.shape kind t (word_at ws t) x.view → PlanSays k kind (word_at ws t) → x.key ≡ k → Learns kind t ws tries x y
      → IsTried kind t (word_at ws t) tries x
      → Reached k (words_after ws kind t x.view) (set vs id (f ++ y ∷ b))
  cuts : (ws : List Fields) (vs : List (List Sight)) (id : ℕ) (l : List Sight)
      → Reached k ws vs → get_elem? vs id ≡ some l → Reached k ws (set vs id (cut_off l) ++ [] ∷ [])
  sits : (ws : List Fields) (vs : List (List Sight)) (id n : ℕ)
      → Reached k ws vs → get_elem? vs id ≡ some [] → Reached k ws (set vs id (replicate n (sat_sight k (word_at ws 0))))
  joins : (ws : List Fields) (vs : List (List Sight)) (id other : ℕ) (l m : List Sight)
      → Reached k ws vs → get_elem? vs id ≡ some l → other ≢ id → get_elem? (set vs id (l ++ m)) other ≡ some m
      → Reached k ws (set (set vs id (l ++ m)) other [])
  parts : (ws : List Fields) (vs : List (List Sight)) (id : ℕ) (x : Sight) (l : List Sight) (y : Sight) (m : List Sight)
      → Reached k ws vs → get_elem? vs id ≡ some (x ∷ (l ++ y ∷ m)) → Reached k ws (set vs id (x ∷ l) ++ (y ∷ m) ∷ [])

-- the rule of the table
pub record Kept (k : Key) (s : State Kind (List Sight)) : Type 0 where
  pub words : List Fields
  pub packed : s.words ≡ map packed words
  pub reached : Reached k words s.views

-- At every moment the words and the views tally.
abbrev pub ReachedStatesTally : Type 0
ReachedStatesTally =
    (k : Key) (words : List Fields) (seats : List (List Sight)) → Reached k words seats → Tallies k.shape words (views_of seats)

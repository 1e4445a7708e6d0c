-- The runs of one flat phaser, and that every run of the tree is one of them (not part of Java's API).
use Rattle.std.specs.Prelude.{◌≡◌, ℕ, true, false, if◌then◌else◌, Option, None, Some, List, [], ◌∷◌}
use Rattle.phaser_word.specs.Fields.{Fields}
use Rattle.flat_phaser.specs.Flat.{Flat, empty_in, everyone_arrived}
use Rattle.flat_phaser.specs.declared.FlatStep.{FlatStep}
use Rattle.flat_phaser.specs.Step.{MayTake, flat_step}
use Rattle.flat_phaser.specs.Laws.{is_advance}
use Rattle.tier_steps.specs.Tally.{word_at}
use Rattle.tier_steps.specs.Image.{image, label, LooksAlike}
use Rattle.tier_steps.specs.Seats.{IsSameButOwners}
use Rattle.tier_rule.specs.declared.sight.Key.{Key}
use Rattle.tier_rule.specs.declared.sight.Sight.{Sight}
use Rattle.tier_rule.specs.Reach.{views_of, Reached, opens, steps, cuts, sits, joins, parts}
use Rattle.tier_rule.specs.Laws.{number_of}
use Rattle.tier_rule.specs.Run.{Moment, last_advance}

-- A run of one flat phaser. It begins without members in this phase. As long as the phaser has not ended, it takes a step that it may take.
-- It may go on as a phaser that nobody can distinguish from it, and as one that differs only in whose the members are.
pub data FlatRun (phase : ℕ) : Flat → Type 0 where
  begins : FlatRun phase (empty_in phase)
  takes : (f : Flat) (step : FlatStep) → FlatRun phase f → f.ended ≡ false → MayTake step f → FlatRun phase (flat_step step f)
  seems : (f g : Flat) → FlatRun phase f → LooksAlike f g → FlatRun phase g
  regroups : (f g : Flat) → FlatRun phase f → IsSameButOwners f g → FlatRun phase g

-- The flat phaser that the last advance of a flat run found, if the run has an advance.
abbrev pub last_found : {phase : ℕ} {f : Flat} → FlatRun phase f → Option Flat
last_found begins = None
last_found (takes f step run going may) = if is_advance step then Some f else last_found run
last_found (seems f g run alike) = last_found run
last_found (regroups f g run same) = last_found run

-- The steps that a flat run takes, the latest first.
abbrev pub steps_taken : {phase : ℕ} {f : Flat} → FlatRun phase f → List FlatStep
steps_taken begins = []
steps_taken (takes f step run going may) = step ∷ steps_taken run
steps_taken (seems f g run alike) = steps_taken run
steps_taken (regroups f g run same) = steps_taken run

-- one more flat step, if this step of the tree has one
abbrev pub with_label : Option FlatStep → List FlatStep → List FlatStep
with_label None labels = labels
with_label (Some step) labels = step ∷ labels

-- The flat steps of a run of the tree, the latest first: as long as the tree has not ended, each join, arrival, departure, advance and
-- force, by the token with its number at that moment.
abbrev pub labels_of : {k : Key} {ws : List Fields} {vs : List (List Sight)} → Reached k ws vs → List FlatStep
labels_of (opens x shape small is) = []
labels_of (steps us ts id t tries f b x y kind r at within needs says own is few) =
    if (word_at us 0).ended then labels_of r else with_label (label (number_of ts id f) kind) (labels_of r)
labels_of (cuts us ts id l r at) = labels_of r
labels_of (sits us ts id n r at) = labels_of r
labels_of (joins us ts id other l m r at apart there) = labels_of r
labels_of (parts us ts id x l y m r at) = labels_of r

-- the flat phaser that the words and the seats represent at a moment
abbrev pub flat_at : Moment → Flat
flat_at m = image m.words (views_of m.seats)

abbrev pub flat_found : Option Moment → Option Flat
flat_found None = None
flat_found (Some found) = Some (flat_at found)

-- A run of the tree is a flat run. This leads to the flat phaser that the words and the seats represent, takes the run's flat steps one
-- after another, and its last advance found what the run's last advance found.
pub record IsFlatRunOf {k : Key} {words : List Fields} {seats : List (List Sight)} (run : Reached k words seats) : Type 0 where
  pub flat : FlatRun k.phase (image words (views_of seats))
  pub taken : steps_taken flat ≡ labels_of run
  pub last : last_found flat ≡ flat_found (last_advance run)

-- So is every run, from the phase in which the tree was opened.
abbrev pub RunsAreFlat : Type 0
RunsAreFlat = (k : Key) (words : List Fields) (seats : List (List Sight)) (run : Reached k words seats) → IsFlatRunOf run

-- A flat run leads to this flat phaser. It has not ended, its advance is due, and everyone has arrived.
pub record IsDueAfter (phase : ℕ) (f : Flat) : Type 0 where
  pub run : FlatRun phase f
  pub going : f.ended ≡ false
  pub due : f.due ≡ true
  pub everyone : everyone_arrived f.phase f.members ≡ true

-- The last advance of every run found such a flat phaser.
abbrev pub AdvancesAreDueInFlatRuns : Type 0
AdvancesAreDueInFlatRuns =
    (k : Key) (words : List Fields) (seats : List (List Sight)) (run : Reached k words seats) (found : Moment)
    → last_advance run ≡ Some found → IsDueAfter k.phase (flat_at found)

-- What holds of flat runs by themselves: their last advance was due, and everyone had arrived. So neither a phaser that seems the same nor
-- other owners make an advance due.
abbrev pub FlatRunsWaitForAll : Type 0
FlatRunsWaitForAll = (phase : ℕ) (f : Flat) (run : FlatRun phase f) (found : Flat) → last_found run ≡ Some found → IsDueAfter phase found

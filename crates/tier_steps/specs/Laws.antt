-- The laws of the steps, over any shape, any words, and any views. One of the views is the stepping token's.
use Rattle.std.specs.Prelude.{ℕ, ◌<◌, List, ◌∷◌, ◌++◌, length, slice_set}
use Rattle.flat_phaser.specs.Flat.{Flat}
use Rattle.tier_steps.specs.Word.{Fields}
use Rattle.tier_steps.specs.View.{View, parent_of}
use Rattle.tier_steps.specs.Tally.{word_at, Tallies, IsShape}
use Rattle.tier_steps.specs.Step.{Kind, Needs, word_after, view_after}
use Rattle.tier_steps.specs.Image.{image, label, labelled, IsAllowedLabel, LooksAlike}

-- the words and the views that a step leaves
abbrev pub words_after : List Fields → Kind → ℕ → View → List Fields
words_after words kind t v = slice_set words t (word_after kind t (word_at words t) v)

abbrev pub stepped_view : List ℕ → List Fields → Kind → ℕ → View → View
stepped_view parents words kind t v = view_after (parent_of parents t) kind t (word_at words t) v

-- a step that the stepping token may take
pub record IsStep (parents : List ℕ) (words : List Fields) (front : List View) (v : View) (back : List View) (t : ℕ)
    (kind : Kind) : Type 0 where
  pub shape : IsShape parents
  pub within : t < length words
  pub tally : Tallies parents words (front ++ v ∷ back)
  pub needs : Needs parents kind t (word_at words t) v

-- Each kind of step keeps the tally, by its word and the stepping token's view alone.
abbrev pub KindsKeepTally : Type 0
KindsKeepTally =
    (parents : List ℕ) (words : List Fields) (front : List View) (v : View) (back : List View) (t : ℕ) (kind : Kind)
    → IsStep parents words front v back t kind
    → Tallies parents (words_after words kind t v) (front ++ stepped_view parents words kind t v ∷ back)

-- Each kind of step is the flat step of its label: the flat phaser may take it, and what it leaves looks like the image afterwards.
abbrev pub KindsAreFlat : Type 0
KindsAreFlat =
    (parents : List ℕ) (words : List Fields) (front : List View) (v : View) (back : List View) (t : ℕ) (kind : Kind) (f : Flat)
    → IsStep parents words front v back t kind
    → LooksAlike f (image words (front ++ v ∷ back))
    → IsAllowedLabel (label (length front) kind) f
    × LooksAlike (labelled (label (length front) kind) f)
    (image (words_after words kind t v) (front ++ stepped_view parents words kind t v ∷ back))

-- Seats that hold lists of views: a step by a seat with one view is a flat step, two seats may be joined, and a new one
-- may be added (own).
use Rattle.std.specs.Prelude.{◌≡◌, ℕ, ◌<◌, Bool, Option, List, [], ◌∷◌, ◌++◌, length, count_by}
use Rattle.flat_phaser.specs.Flat.{Flat}
use Rattle.tier_steps.specs.Word.{Fields}
use Rattle.tier_steps.specs.View.{View, new_view}
use Rattle.tier_steps.specs.Tally.{word_at, Tallies, IsShape}
use Rattle.tier_steps.specs.Step.{Kind, Needs}
use Rattle.tier_steps.specs.Image.{image, label, labelled, IsAllowedLabel, LooksAlike}
use Rattle.tier_steps.specs.Laws.{words_after, stepped_view}
use Rattle.tier_steps.specs.Known.{seated_views}

-- A step by a seat with one view is the flat step of its label, by the token at that view's place among all views.
abbrev pub SeatsAreFlat : Type 0
SeatsAreFlat =
    (parents : List ℕ) (words : List Fields) (front : List (List View)) (v : View) (back : List (List View)) (t : ℕ) (kind : Kind)
    (f : Flat)
    → IsShape parents → t < length words
    → Tallies parents words (seated_views (front ++ (v ∷ []) ∷ back))
    → Needs parents kind t (word_at words t) v
    → LooksAlike f (image words (seated_views (front ++ (v ∷ []) ∷ back)))
    → IsAllowedLabel (label (length (seated_views front)) kind) f
    × LooksAlike (labelled (label (length (seated_views front)) kind) f)
    (image (words_after words kind t v) (seated_views (front ++ (stepped_view parents words kind t v ∷ []) ∷ back)))

-- One seat may take the views of another.
abbrev pub JoinedSeatsTally : Type 0
JoinedSeatsTally =
    (parents : List ℕ) (words : List Fields) (front : List (List View)) (x : List View) (middle : List (List View)) (y : List View)
    (back : List (List View))
    → Tallies parents words (seated_views (front ++ x ∷ (middle ++ y ∷ back)))
    → Tallies parents words (seated_views (front ++ (x ++ y) ∷ (middle ++ [] ∷ back)))

-- A seat for a token without members may be added anywhere.
abbrev pub NewSeatsTally : Type 0
NewSeatsTally =
    (parents : List ℕ) (words : List Fields) (front back : List (List View)) (phase : ℕ)
    → Tallies parents words (seated_views (front ++ back))
    → Tallies parents words (seated_views (front ++ (new_view phase ∷ []) ∷ back))

-- two flat phasers that differ only in whose their members are, and in which order: each mark is as often in both
pub record IsSameButOwners (f g : Flat) : Type 0 where
  pub phase : f.phase ≡ g.phase
  pub ended : f.ended ≡ g.ended
  pub due : f.due ≡ g.due
  pub marks : (test : Option ℕ → Bool) → count_by (λ m. test m.mark) f.members ≡ count_by (λ m. test m.mark) g.members

-- Neither changes more of the image than whose the members are.
abbrev pub JoinedSeatsLookTheSame : Type 0
JoinedSeatsLookTheSame =
    (words : List Fields) (front : List (List View)) (x : List View) (middle : List (List View)) (y : List View) (back : List (List View))
    → IsSameButOwners (image words (seated_views (front ++ x ∷ (middle ++ y ∷ back))))
    (image words (seated_views (front ++ (x ++ y) ∷ (middle ++ [] ∷ back))))

abbrev pub NewSeatsLookTheSame : Type 0
NewSeatsLookTheSame =
    (words : List Fields) (front back : List (List View)) (phase : ℕ)
    → IsSameButOwners (image words (seated_views (front ++ back))) (image words (seated_views (front ++ (new_view phase ∷ []) ∷ back)))

-- How a tree starts, and how tokens are added (own).
use Rattle.std.specs.Prelude.{◌≡◌, ℕ, ◌≤◌, false, List, [], ◌∷◌, ◌++◌, length, replicate}
use Rattle.flat_phaser.specs.Flat.{empty_in}
use Rattle.tier_steps.specs.Word.{Fields}
use Rattle.tier_steps.specs.View.{View, new_view}
use Rattle.tier_steps.specs.Tally.{Tallies, IsShape}
use Rattle.tier_steps.specs.Image.{image, LooksAlike}

abbrev pub empty_word : ℕ → Fields
empty_word phase = record { phase = phase; parties = 0; unarrived = 1; ended = false }

-- all tiers are empty in the same phase
abbrev pub empty_words : List ℕ → ℕ → List Fields
empty_words parents phase = replicate (length parents) (empty_word phase)

-- An empty tree and one token without members tally, and represent the flat phaser without members.
abbrev pub StartTallies : Type 0
StartTallies =
    (parents : List ℕ) (phase : ℕ) → IsShape parents → phase ≤ 2147483647
    → Tallies parents (empty_words parents phase) (new_view phase ∷ [])
    × LooksAlike (empty_in phase) (image (empty_words parents phase) (new_view phase ∷ []))

-- Before it has any token it represents the flat phaser without members itself.
abbrev pub EmptyTreesHaveNoMembers : Type 0
EmptyTreesHaveNoMembers = (parents : List ℕ) (phase : ℕ) → IsShape parents → image (empty_words parents phase) [] ≡ empty_in phase

-- A token without members may be added anywhere.
abbrev pub NewTokensTally : Type 0
NewTokensTally =
    (parents : List ℕ) (words : List Fields) (front back : List View) (phase : ℕ)
    → Tallies parents words (front ++ back) → Tallies parents words (front ++ new_view phase ∷ back)

-- It changes nothing of the image if it comes after all others.
abbrev pub NewTokensAreUnseen : Type 0
NewTokensAreUnseen = (words : List Fields) (views : List View) (phase : ℕ) → image words (views ++ new_view phase ∷ []) ≡ image words views

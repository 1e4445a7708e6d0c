-- What is upgraded, as text.
use Rattle.text_lines.specs.Limits.{most_bytes}
use Rattle.std.specs.Prelude.{◌≡◌, ◌≤◌, ℕ, List, length, Ok}
use Rattle.job_reader.specs.Trees.{JobTree}
use Rattle.job_reader.specs.Grammar.{canonical_text}
use Rattle.job_reader.specs.Reading.{job_in}
use Rattle.job_reader.specs.Upgrade.{upgraded_tree}

-- What a read job is written as in format 2 is read as that job in format 2, if it is short.
abbrev pub UpgradedTextsAreRead : Type 0
UpgradedTextsAreRead =
    (text : List ℕ) (j : JobTree) → job_in text ≡ Ok j → length (canonical_text (upgraded_tree j)) ≤ most_bytes
    → job_in (canonical_text (upgraded_tree j)) ≡ Ok (upgraded_tree j)

-- What that text is read as is of format 2, and is written again byte for byte.
abbrev pub UpgradingTwiceIsUpgradingOnce : Type 0
UpgradingTwiceIsUpgradingOnce =
    (text : List ℕ) (j k : JobTree) → job_in text ≡ Ok j → job_in (canonical_text (upgraded_tree j)) ≡ Ok k
    → (k ≡ upgraded_tree j) × (upgraded_tree k ≡ k) × (canonical_text (upgraded_tree k) ≡ canonical_text (upgraded_tree j))

-- The state of one tier as plain data, and which of them are legal (own).
use Rattle.std.specs.Prelude.{◌≡◌, ℕ, Bool, ◌≤◌, ◌↔◌, ◌<◌, ◌==◌, if◌then◌else◌}

pub record Fields : Type 0 where
  pub phase : ℕ
  pub parties : ℕ
  pub unarrived : ℕ
  pub ended : Bool

-- How many may be unarrived: the parties, or 2 if there are none (1 marks an empty tier, 2 one that is being opened).
abbrev pub most_unarrived : ℕ → ℕ
most_unarrived parties = if parties == 0 then 2 else parties

pub record IsLegal (w : Fields) : Type 0 where
  pub phase : w.phase ≤ 2147483647
  pub parties : w.parties ≤ 65535
  pub unarrived : w.unarrived ≤ most_unarrived w.parties

-- Which words there are, in numbers: of a tier with parties at most these are unarrived; of one without exactly the marks 0, 1 and 2 are.
pub record WordsAreSpelledOut : Type 0 where
  pub with_parties : (w : Fields) → w.phase < 2147483648 → 0 < w.parties → w.parties < 65536 → IsLegal w ↔ (w.unarrived ≤ w.parties)
  pub empty : (w : Fields) → w.phase < 2147483648 → w.parties ≡ 0 → IsLegal w ↔ (w.unarrived < 3)

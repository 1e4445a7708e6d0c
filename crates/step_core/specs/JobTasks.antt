-- What a task of a job may leave (own).
use Rattle.std.specs.Prelude.{◌≡◌, ℕ, ℤ, List}
use Rattle.task_lang.specs.Meaning.{Plan, Task, Segment, segment_of}

-- what its segment does, and nothing else
abbrev pub JobMay : List Plan → Task → List (List ℕ × List ℤ) → ℕ → Segment → Type 0
JobMay plans t arrays step g = g ≡ segment_of plans t arrays step

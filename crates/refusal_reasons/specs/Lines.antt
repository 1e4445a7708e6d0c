-- Lines of a text by their numbers (own).
use Rattle.std.specs.Prelude.{ℕ, zero, suc, List, [], slice_get, unwrap_or}

-- the line of this number, from 1, or no bytes
abbrev pub line_at : ℕ → List (List ℕ) → List ℕ
line_at zero lines = []
line_at (suc n) lines = unwrap_or (slice_get lines n) []

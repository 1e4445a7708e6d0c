-- The limit of a text.
use Rattle.std.specs.Prelude.{ℕ}

-- the most bytes of a text
abbrev pub most_bytes : ℕ
most_bytes = 1048576

-- A word as one number of 64 bits (own).
use Rattle.std.specs.Prelude.{ℕ, ◌+◌, ◌*◌, ◌^◌, if◌then◌else◌}
use Rattle.phaser_word.specs.Fields.{Fields}

-- unarrived in bits 0 to 15, parties in 16 to 31, the phase in 32 to 62, the end in 63
abbrev pub packed : Fields → ℕ
packed w = w.unarrived + 2 ^ 16 * w.parties + 2 ^ 32 * w.phase + (if w.ended then 2 ^ 63 else 0)

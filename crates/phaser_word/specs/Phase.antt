-- Phase numbers (Java SE 21, `Phaser`: they wrap to 0 after 2147483647; the number shown after the end is own).
use Rattle.std.specs.Prelude.{ℕ, Bool, ◌+◌, ℤ, pos, ◌-ℤ◌, ◌==◌, if◌then◌else◌}

abbrev pub next_phase_of : ℕ → ℕ
next_phase_of phase = if phase == 2147483647 then 0 else phase + 1

-- the phase, or 2147483648 less once the phaser has ended
abbrev pub shown_of : ℕ → Bool → ℤ
shown_of phase ended = if ended then pos phase -ℤ pos 2147483648 else pos phase

-- What one tier counts, and what a step makes of its word (Java SE 21, `Phaser`: parties, unarrived, tiers; empty tiers and tiers that are
-- being opened are own).
pub use Rattle.phaser_word.specs.Fields.{Fields, IsLegal}
pub use Rattle.phaser_word.specs.Phase.{next_phase_of}
use Rattle.std.specs.Prelude.{ℕ, ◌+◌, ◌-◌, Bool, true, false, ◌==◌, if◌then◌else◌}

abbrev pub is_empty : Fields → Bool
is_empty w = if w.parties == 0 then w.unarrived == 1 else false

abbrev pub is_being_opened : Fields → Bool
is_being_opened w = if w.parties == 0 then w.unarrived == 2 else false

-- The parties of a tier that haven't arrived in the root's phase: all of them if the word is in an earlier phase, and
-- none if there is no party.
abbrev pub late : ℕ → Fields → ℕ
late root w = if w.parties == 0 then 0 else (if w.phase == root then w.unarrived else w.parties)

-- this many parties join
abbrev pub joined : Fields → ℕ → Fields
joined w n = record w { parties = w.parties + n; unarrived = (if w.parties == 0 then n else w.unarrived + n) }

-- one party arrives
abbrev pub arrived_one : Fields → Fields
arrived_one w = record w { unarrived = w.unarrived - 1 }

-- one unarrived party leaves a tier below the root, which is empty after the last one
abbrev pub left_one : Fields → Fields
left_one w = record w { parties = w.parties - 1; unarrived = (if w.parties == 1 then 1 else w.unarrived - 1) }

-- one unarrived party leaves the root
abbrev pub left_root : Fields → Fields
left_root w = record w { parties = w.parties - 1; unarrived = w.unarrived - 1 }

-- the next phase, in which nobody has arrived
abbrev pub advanced : Fields → Bool → Fields
advanced w ends = record w { phase = next_phase_of w.phase; unarrived = (if w.parties == 0 then 1 else w.parties); ended = ends }

-- a word that lags is brought into a phase
abbrev pub refreshed : Fields → ℕ → Fields
refreshed w phase = record w { phase = phase; unarrived = w.parties }

abbrev pub emptied : Fields → Fields
emptied w = record w { parties = 0; unarrived = 1 }

abbrev pub claimed_word : Fields → Fields
claimed_word w = record w { parties = 0; unarrived = 2 }

-- a claimed tier gets its first parties, in the phase of the join
abbrev pub settled : Fields → ℕ → ℕ → Fields
settled w phase n = record w { phase = phase; parties = n; unarrived = n }

abbrev pub forced : Fields → Fields
forced w = record w { ended = true }

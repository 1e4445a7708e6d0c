-- What the number of a single phaser says, as numbers (Java SE 21, `Phaser`: its getters).
use Rattle.std.specs.Prelude.{◌≡◌, ◌≢◌, ◌↔◌, ◌-◌, ℕ, ℤ, pos, if◌then◌else◌}
use Rattle.phaser_word.specs.Fields.{Fields}
use Rattle.flat_phaser.specs.Flat.{Flat, registered, unarrived, shown}
use Rattle.flat_phaser.specs.Alike.{IsAlike}
use Rattle.phaser_one.specs.Seen.{flat_of}
use Rattle.bsp_phaser.specs.declared.reading.Reading.{Reading}
use Rattle.bsp_phaser.specs.declared.reading.Reading.TheVariants.{Phase, Parties, Arrived, Unarrived, Ended}
use Rattle.bsp_phaser.specs.Numbers.{IsWordOf, IsNoWord}

abbrev pub parties_in : Flat → ℤ
parties_in f = pos (registered f)

abbrev pub arrived_in : Flat → ℤ
arrived_in f = pos (registered f - unarrived f)

abbrev pub unarrived_in : Flat → ℤ
unarrived_in f = pos (unarrived f)

-- 1 once it has ended, else 0
abbrev pub ended_in : Flat → ℤ
ended_in f = if f.ended then pos 1 else pos 0

-- the answer to a question about a phaser
abbrev pub reported_by : Reading → Flat → ℤ
reported_by Phase f = shown f
reported_by Parties f = parties_in f
reported_by Arrived f = arrived_in f
reported_by Unarrived f = unarrived_in f
reported_by Ended f = ended_in f

-- Status 1 means exactly that the number is the word of no phaser. Otherwise the status is 0, and the answer holds of
-- every phaser that has this word.
pub record IsReading (of : Flat → ℤ) (number : ℕ) (status answer : ℤ) : Type 0 where
  pub done : (w : Fields) → IsWordOf w number → (f : Flat) → IsAlike f (flat_of w) → (status ≡ pos 0) × (answer ≡ of f)
  pub none : (status ≡ pos 1) ↔ IsNoWord number
  pub kept : status ≢ pos 0 → answer ≡ pos 0

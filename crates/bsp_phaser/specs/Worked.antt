-- One run through all calls, worked out by hand: each number and each answer written down (own).
use Rattle.std.specs.Prelude.{◌≡◌, ℕ, ℤ, pos, negsuc}
use Rattle.advance_rule.specs.declared.CountPlan.{CountPlan}
use Rattle.flat_phaser.specs.Flat.{Flat, shown}
use Rattle.phaser_one.specs.declared.call.Call.{Call}
use Rattle.phaser_one.specs.declared.call.Call.TheVariants.{Bulk, Arrive, Leave, Await, Force}
use Rattle.bsp_phaser.specs.Steps.{IsStep, IsNew, plan_of, status_of_new}
use Rattle.bsp_phaser.specs.Readings.{IsReading, parties_in, arrived_in, unarrived_in, ended_in}

-- a new phaser has this number
abbrev pub Makes : ℤ → ℕ → ℕ → Type 0
Makes parties phase number = (status_of_new parties phase ≡ pos 0) × ((n : ℕ) → IsNew parties phase n → n ≡ number)

-- a call on a number gives this number, this status and this answer
abbrev pub Gives : CountPlan → Call → ℕ → ℕ → ℤ → ℤ → Type 0
Gives plan call number next status answer = (n : ℕ) (s a : ℤ) → IsStep plan call number n s a → (n ≡ next) × (s ≡ status) × (a ≡ answer)

-- a reading of a number gives this answer
abbrev pub Reads : (Flat → ℤ) → ℕ → ℤ → Type 0
Reads of number answer = (s a : ℤ) → IsReading of number s a → (s ≡ pos 0) × (a ≡ answer)

-- Three parties begin in phase 5. They end it with 1 party at least, at the end of phase 6, or by force. A number is its unarrived parties,
-- 65536 times its parties and 4294967296 times its phase, and 9223372036854775808 more after the end.
pub record RunIsWorkedOut : Type 0 where
  pub new : Makes (pos 3) 5 21475033091
  pub late : status_of_new (pos 3) 2147483648 ≡ pos 1
  pub negative : status_of_new (negsuc 0) 5 ≡ pos 3
  pub many : status_of_new (pos 65536) 5 ≡ pos 3
  -- the first arrives, and its phase has not passed
  pub arrives : Gives (plan_of 1 6) Arrive 21475033091 21475033090 (pos 0) (pos 5)
  pub phase : Reads shown 21475033090 (pos 5)
  pub parties : Reads parties_in 21475033090 (pos 3)
  pub arrived : Reads arrived_in 21475033090 (pos 1)
  pub unarrived : Reads unarrived_in 21475033090 (pos 2)
  pub going : Reads ended_in 21475033090 (pos 0)
  pub waits : Gives (plan_of 1 6) (Await (pos 5)) 21475033090 21475033090 (pos 2) (pos 0)
  -- a fourth joins, and one leaves
  pub joins : Gives (plan_of 1 6) (Bulk (pos 1)) 21475033090 21475098627 (pos 0) (pos 5)
  pub full : Gives (plan_of 1 6) (Bulk (pos 65533)) 21475033090 21475033090 (pos 4) (pos 0)
  pub refused : Gives (plan_of 1 6) (Bulk (negsuc 0)) 21475033090 21475033090 (pos 6) (pos 0)
  pub leaves : Gives (plan_of 1 6) Leave 21475098627 21475033090 (pos 0) (pos 5)
  -- the last two arrive, and phase 6 begins
  pub again : Gives (plan_of 1 6) Arrive 21475033090 21475033089 (pos 0) (pos 5)
  pub last : Gives (plan_of 1 6) Arrive 21475033089 25770000387 (pos 0) (pos 5)
  pub passed : Gives (plan_of 1 6) (Await (pos 5)) 25770000387 25770000387 (pos 0) (pos 6)
  -- two leave; the third arrives, and the phaser ends in phase 7, as phase 6 was to be the last
  pub second : Gives (plan_of 1 6) Leave 25770000387 25769934850 (pos 0) (pos 6)
  pub third : Gives (plan_of 1 6) Leave 25769934850 25769869313 (pos 0) (pos 6)
  pub ends : Gives (plan_of 1 6) Arrive 25769869313 9223372066919612417 (pos 0) (pos 6)
  pub over : Reads ended_in 9223372066919612417 (pos 1)
  pub at_end : Reads shown 9223372066919612417 (negsuc 2147483640)
  -- with another phase it goes on, with two parties at least it ends
  pub goes_on : Gives (plan_of 1 7) Arrive 25769869313 30064836609 (pos 0) (pos 6)
  pub too_few : Gives (plan_of 2 7) Arrive 25769869313 9223372066919612417 (pos 0) (pos 6)
  -- by force it ends in its phase
  pub forced : Gives (plan_of 1 6) Force 25770000387 9223372062624776195 (pos 0) (negsuc 2147483641)

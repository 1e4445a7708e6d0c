-- What a meeting that doesn't wait answers.
use Rattle.std.specs.Prelude.{◌≡◌, ℕ, ◌⊎◌}
use Rattle.tier_steps.specs.declared.view.Passage.TheVariants.{Arrival}
use Rattle.tier_calls.specs.Holding.{Holding}
use Rattle.tier_calls.specs.Arrives.{Arrives, FindsArrived}
use Rattle.tier_calls.specs.Polls.{Polls, CaughtUpBy}
use Rattle.tier_calls.specs.Led.{LedWaited}
use Rattle.tier_calls.specs.Waited.{PollWaited}
use Rattle.tier_calls.specs.declared.arriving.Arrived.{Arrived}
use Rattle.tier_calls.specs.declared.arriving.Arrived.TheVariants as arrived
use Rattle.tier_calls.specs.declared.arriving.Resumed.{Resumed}
use Rattle.tier_calls.specs.declared.arriving.Resumed.TheVariants as resumed
use Rattle.tier_calls.specs.declared.polling.Polled.{Polled}
use Rattle.tier_calls.specs.declared.polling.Polled.TheVariants as polled
use Rattle.phasers.specs.declared.trying.Met.{Met}
use Rattle.phasers.specs.declared.trying.Met.TheVariants as met
use Rattle.phasers.specs.declared.trying.Settled.{Settled}
use Rattle.phasers.specs.declared.trying.Settled.TheVariants as settled

-- an arrival that is over, and hands this token back
abbrev pub IsOver : Holding → Arrived → Type 0
IsOver between (arrived.Done crew phase led) = crew ≡ between
IsOver between (arrived.AlreadyArrived crew phase) = crew ≡ between
IsOver between _ = ⊥

-- an arrival with at most `tries` tries, and then a poll
pub record MeetsBy (old new : Holding) (tries : ℕ) (answer : Polled) : Type 0 where
  pub between : Holding
  pub came : Arrived
  pub arrives : Arrives Arrival old tries came
  pub found : FindsArrived old came
  pub led : LedWaited came
  pub over : IsOver between came
  pub polls : Polls between new answer
  pub waited : PollWaited between new answer
  pub caught_up : CaughtUpBy answer new

abbrev pub TriesToMeet : {A : Type 0} → Holding → ℕ → Met A → Type 0
TriesToMeet old tries (met.Passed party phase) = MeetsBy old party tries (polled.Passed phase)
TriesToMeet old tries (met.Waiting party) = MeetsBy old party tries polled.Waiting
TriesToMeet old tries (met.Here party phase) = MeetsBy old party tries (polled.Here phase)
TriesToMeet old tries (met.Ended party shown) =
    Arrives Arrival old tries (arrived.Ended party shown) ⊎ MeetsBy old party tries (polled.Ended shown)
TriesToMeet old tries (met.Busy party) = Arrives Arrival old tries (arrived.Busy party)
TriesToMeet old tries (met.Owing owed) = Arrives Arrival old tries (arrived.Owing owed)

abbrev pub resumed_of : {A : Type 0} → Settled A → Resumed
resumed_of (settled.Done party phase led) = resumed.Done party phase led
resumed_of (settled.Owing owed) = resumed.Owing owed

-- What calls answer that wait no longer than a limit: as the calls without one, or that the time has passed.
use Rattle.std.specs.Prelude.{ℕ, Result, Ok, Err}
use Rattle.tier_calls.specs.Holding.{Holding}
use Rattle.tier_calls.specs.InPlace.{ArrivesInPlace, FindsArrived}
use Rattle.tier_calls.specs.Led.{LedInPlaceWaited}
use Rattle.tier_calls.specs.Made.{HasLooked}
use Rattle.tier_calls.specs.declared.in_place.ArrivedInPlace.{ArrivedInPlace}
use Rattle.tier_table.specs.AtLast.{IsWaiting}
use Rattle.tier_table.specs.declared.waiting.RegisteredAtLast.{RegisteredAtLast}
use Rattle.sleepers.specs.declared.TimedOut.{TimedOut}
use Rattle.phasers.specs.declared.answers.JoinError.{JoinError}
use Rattle.phasers.specs.declared.answers.JoinTimedOut.{JoinTimedOut}
use Rattle.phasers.specs.declared.answers.MeetError.{MeetError}
use Rattle.phasers.specs.Thin.{Meets, admitted_of, awaited_of}

-- a registration: its answer, or the guest that has waited in vain
abbrev pub joined_of : {A : Type 0} → Result (Result Holding (JoinError A)) (JoinTimedOut A) → Result RegisteredAtLast Holding
joined_of (Ok answer) = Ok (admitted_of answer)
joined_of (Err late) = Err late.guest

-- an arrival, and then a wait that was given up
pub record MeetsNobody (old new : Holding) : Type 0 where
  pub between : Holding
  pub came : ArrivedInPlace
  pub arrives : ArrivesInPlace old between came
  pub found : FindsArrived old between came
  pub led : LedInPlaceWaited between came
  pub waits : IsWaiting between new
  pub looked : HasLooked between.steps new.steps

-- a meeting
abbrev pub MeetsWithin : Holding → Holding → Result (Result ℕ MeetError) TimedOut → Type 0
MeetsWithin old new (Ok answer) = Meets old new (awaited_of answer)
MeetsWithin old new (Err fault) = MeetsNobody old new

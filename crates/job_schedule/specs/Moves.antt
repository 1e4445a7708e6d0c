-- What a worker may do next (own).
use Rattle.std.specs.Prelude.{ℕ, Bool, true, false, ◌==◌, if◌then◌else◌, Option, Some, None}
use Rattle.tier_core.specs.declared.call.Call.TheVariants as call
use Rattle.job_schedule.specs.declared.stage.Move.{Move}
use Rattle.job_schedule.specs.declared.stage.Move.TheVariants.{Takes, Delivers, Calls, Advances, Closes, Ends}
use Rattle.job_schedule.specs.ParticipantValue.{Stage, Waits, Taken, Polling, Joining, Arriving, Leaving, Over, ParticipantValue, child_at}

-- Its task is delivered. Then follow the calls of the task's tree, and the advance if that is due.
abbrev pub passing : Bool → ℕ → ℕ → Bool → Option Move
passing true place token synced = Some (Advances place)
passing false place token synced = Some (Calls place token (if synced then call.Arrive else call.Leave))

abbrev pub by_stage : ParticipantValue → ℕ → Bool → Stage → Option Move
by_stage g place due Waits = None
by_stage g place due Taken = Some (Delivers place)
by_stage g place due Polling = Some (Calls place g.token call.Poll)
by_stage g place due (Joining joined) =
    Some (Calls place (child_at g.children joined).token (call.Join (child_at g.children joined).home 1))
by_stage g place due (Arriving arrived) = Some (Calls place (child_at g.children arrived).token call.Arrive)
by_stage g place due Leaving = passing due place g.token g.synced
by_stage g place due Over = None

abbrev pub at_stage : ParticipantValue → Stage → ParticipantValue
at_stage g stage = record g { stage = stage }

-- by which of a worker's five steps each move is taken
abbrev pub kind_for : Move → ℕ
kind_for (Takes place) = 0
kind_for (Delivers place) = 1
kind_for (Calls place token c) = 2
kind_for (Ends token) = 2
kind_for (Advances place) = 3
kind_for (Closes token) = 4

-- What a step of this kind does: its worker's next move, if it is taken by such a step, and else nothing.
abbrev pub asked : ℕ → Option Move → Option Move
asked kind None = None
asked kind (Some move) = if kind == kind_for move then Some move else None

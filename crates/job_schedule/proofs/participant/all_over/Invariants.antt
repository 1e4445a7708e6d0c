use Rattle.std.proofs.Common.{◌≡◌, drop}
use Rattle.job_schedule.specs.ParticipantValue.{all_over}
use Rattle.job_schedule.proofs.participant.all_over.Given as goal

abbrev pub invariant-loop-participant : goal.invariant-loop-participant
invariant-loop-participant l = all_over (drop l.participant-index l.participants) ≡ all_over l.fn.participants

use Rattle.std.proofs.Common.{length}
use Rattle.job_schedule.specs.ParticipantValue.{participant_path}
use Rattle.superstep_memory.proofs.InOrder.{Passed}
use Rattle.job_schedule.proofs.next.place_for.Given as goal

abbrev pub invariant-loop-last : goal.invariant-loop-last
invariant-loop-last l = Passed participant_path l.path l.fn.living l.rest

abbrev pub decreases-loop-last : goal.decreases-loop-last
decreases-loop-last l = length l.rest

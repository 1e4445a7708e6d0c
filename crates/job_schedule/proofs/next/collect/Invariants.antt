use Rattle.std.proofs.Common.{◌≡◌, length, reverse}
use Rattle.superstep_memory.specs.PathOrder.{put_all}
use Rattle.job_schedule.specs.ParticipantValue.{participant_path, living_participants, next_participants}
use Rattle.job_schedule.proofs.next.collect.Given as goal

abbrev pub invariant-loop-participant : goal.invariant-loop-participant
invariant-loop-participant l =
    put_all participant_path (living_participants l.rest.items) (reverse l.living.items) ≡ next_participants l.fn.participants.items

abbrev pub decreases-loop-participant : goal.decreases-loop-participant
decreases-loop-participant l = length l.rest.items

use Rattle.std.proofs.Common.{◌≡◌, length, map, reverse}
use Rattle.superstep_memory.specs.PathOrder.{put_all}
use Rattle.job_schedule.specs.ParticipantValue.{participant_path, child_participant}
use Rattle.job_schedule.proofs.next.put_children.Given as goal

abbrev pub invariant-loop-child : goal.invariant-loop-child
invariant-loop-child l =
    put_all participant_path (map child_participant l.rest.items) (reverse l.living.items)
    ≡ put_all participant_path (map child_participant l.fn.children.items) (reverse l.fn.living.items)

abbrev pub decreases-loop-child : goal.decreases-loop-child
decreases-loop-child l = length l.rest.items

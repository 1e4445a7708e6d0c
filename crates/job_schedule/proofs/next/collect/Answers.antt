use Rattle.std.proofs.Common.{◌++◌, map}
use Rattle.job_schedule.specs.ParticipantValue.{participant_path, own_participant, child_participant, living_participants}
use Rattle.superstep_memory.proofs.InOrder.{put_next_all}
use Rattle.job_schedule.proofs.Participating.{living_last}
use Rattle.job_schedule.proofs.next.collect.Goals as goal

pub loop-participant-preserved : goal.loop-participant-preserved
loop-participant-preserved c =
    put_next_all participant_path (living_participants c.loop-participant.rest.items) (living_participants c.pop.new.self.items)
    (own_participant c.in-Some.participant ++ map child_participant c.in-Some.participant.children)
    c.loop-participant.living.items c.put_living.new.living.items _
    (living_last c.loop-participant.rest.items c.pop.new.self.items c.in-Some.participant c.in-Some.ensures.items)
    c.in_ok-put_living.ensures c.loop-participant.invariant

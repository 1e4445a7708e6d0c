use Rattle.std.proofs.Common.{◌∙◌, ◌∷◌, ◌++◌, [], map, ap, sym}
use Rattle.job_schedule.specs.ParticipantValue.{ParticipantValue, participant_path, child_participant}
use Rattle.superstep_memory.proofs.InOrder.{put_next}
use Rattle.job_schedule.proofs.Participating.{children_last}
use Rattle.job_schedule.proofs.next.put_children.Goals as goal

pub loop-child-preserved : goal.loop-child-preserved
loop-child-preserved c =
    put_next participant_path (map child_participant c.loop-child.rest.items) (map child_participant c.pop.new.self.items)
    c.into_participant.result c.loop-child.living.items c.put_participant.new.living.items _
    (children_last c.loop-child.rest.items c.pop.new.self.items c.in-Some.child c.in-Some.ensures.items
    ∙ ap (λ (g : ParticipantValue). map child_participant c.pop.new.self.items ++ g ∷ []) (sym c.into_participant.ensures))
    c.in_ok-put_participant.ensures c.loop-child.invariant

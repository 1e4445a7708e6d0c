use Rattle.std.proofs.Common.{◌∙◌, refl, ap}
use Rattle.stretch_queue.specs.QueueValue.{is_over}
use Rattle.stretch_queue.proofs.HandedOut.{there_taken}
use Rattle.stretch_queue.proofs.Queueing.{handed_out}
use Rattle.stretch_queue.proofs.queue.Queue.hand_out.Goals as goal

pub invariant_of-self-2 : goal.invariant_of-self-2
invariant_of-self-2 g c =
    let going = ap is_over c.self.view_is ∙ ap is_over c.take_tokens.ensures ∙ c.requires.running in
    let l = c.issue-pass.ensures.listed in
    handed_out c.self.invariant going c.args.number c.take.new.self c.in-Some-2.stretch
    (there_taken _ _ _ _ c.in-Some-2.is c.in_ok-stretch.ensures.taken) _ l.0 c.step.result c.number.result c.step.ensures
    c.number.ensures l.1.0 refl _

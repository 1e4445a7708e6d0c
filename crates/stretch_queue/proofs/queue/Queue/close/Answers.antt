use Rattle.std.proofs.Common.{◌∙◌, sym, ap}
use Rattle.stretch_queue.specs.Hooked.{is_stopped}
use Rattle.stretch_queue.specs.QueueValue.{is_over}
use Rattle.stretch_queue.proofs.Queueing.{closed, unclosed, not_stopped}
use Rattle.stretch_queue.proofs.queue.Queue.close.Goals as goal

pub invariant_of-self : goal.invariant_of-self
invariant_of-self g c =
    let e = c.in-Ok-Stopped.ensures in
    let going = ap is_over c.self.view_is ∙ c.requires.running in
    closed c.self.invariant c.in-Ok-Stopped.field-0 c.close.new.stretches _ (sym (ap is_stopped c.in-Ok-Stopped.field-0-is)) e.same e.whole
    e.kept e.reopens going

pub invariant_of-self-in-Ok-Faulted : goal.invariant_of-self-in-Ok-Faulted
invariant_of-self-in-Ok-Faulted g c =
    let e = c.in-Ok-Faulted.ensures in
    let going = ap is_over c.self.view_is ∙ c.requires.running in
    closed c.self.invariant c.in-Ok-Faulted.field-0 c.close.new.stretches _
    (not_stopped c.self.invariant going ∙ sym (ap is_stopped c.in-Ok-Faulted.field-0-is)) e.same e.whole e.kept e.reopens going

pub invariant_of-self-in-Err : goal.invariant_of-self-in-Err
invariant_of-self-in-Err g c =
    let e = c.in-Err.ensures in
    unclosed c.self.invariant c.close.new.stretches _ e.same e.refused (c.refusal.ensures.workers g.J.Running.workers)

pub invariant_of-self-then-has_ended : goal.invariant_of-self-then-has_ended
invariant_of-self-then-has_ended g c =
    let e = c.in-Ok-Landed.ensures in
    let going = ap is_over c.self.view_is ∙ c.requires.running in
    closed c.self.invariant c.in-Ok-Landed.field-0 c.close.new.stretches _
    (not_stopped c.self.invariant going ∙ sym (ap is_stopped c.in-Ok-Landed.field-0-is)) e.same e.whole e.kept e.reopens going

pub invariant_of-self-2 : goal.invariant_of-self-2
invariant_of-self-2 g c =
    let e = c.in-Ok-Landed.ensures in
    let going = ap is_over c.self.view_is ∙ c.requires.running in
    closed c.self.invariant c.in-Ok-Landed.field-0 c.close.new.stretches _
    (not_stopped c.self.invariant going ∙ sym (ap is_stopped c.in-Ok-Landed.field-0-is)) e.same e.whole e.kept e.reopens going

use Rattle.std.proofs.Common.{◌∙◌, sym, ap, subst}
use Rattle.programs.specs.Order.{AreOrdered}
use Rattle.task_bodies.specs.Bodies.{member_frame}
use Rattle.task_bodies.proofs.Framed.{same_of}
use Rattle.bsp_steps.specs.Runs.{RunValue}
use Rattle.bsp_steps.proofs.Placed.{Tasks}
use Rattle.bsp_steps.proofs.run.Run.begin_with.Goals as goal

pub invariant_of-result : goal.invariant_of-result
invariant_of-result c =
    let is = same_of c.args.tasks.items ∙ sym (ap (λ (v : RunValue). v.tasks) c.new.ensures.begun) in (
      subst (λ (ts : Tasks). AreOrdered member_frame ts) is (c.new.ensures.ordered c.args._program.now),
      ap (λ (v : RunValue). v.failed) c.new.ensures.begun,
    )

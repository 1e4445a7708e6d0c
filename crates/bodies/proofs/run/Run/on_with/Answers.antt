use Rattle.std.proofs.Common.{subst}
use Rattle.programs.specs.History.{HasRun}
use Rattle.programs.proofs.Reached.{never_stopped}
use Rattle.bodies.specs.RunValue.{RunValue, setup_in}
use Rattle.bodies.proofs.run.Run.on_with.Goals as goal

pub returns-clause-ran : goal.returns-clause-ran
returns-clause-ran g c =
    let left = c.in_ok-ran.ran in
    subst (λ (r : RunValue g.row.B.Denot g.row.B-Kept.Denot). HasRun (setup_in g.B.TaskBody.may r) left.report left.tasks.items)
    c.watch.ensures (never_stopped _ _ _ _ c.in_ok-ran.ensures.ran)

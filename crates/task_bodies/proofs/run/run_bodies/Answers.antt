use Rattle.programs.proofs.Reached.{never_stopped}
use Rattle.task_bodies.proofs.run.run_bodies.Goals as goal

pub returns : goal.returns
returns g c = record { ran = never_stopped _ _ _ _ c.in_ok-ran.ensures.ran; few = c.in_ok-ran.ensures.few; fault = tt }

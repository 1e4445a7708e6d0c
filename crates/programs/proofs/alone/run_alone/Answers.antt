use Rattle.programs.proofs.Reached.{never_stopped}
use Rattle.programs.proofs.alone.run_alone.Goals as goal

pub returns : goal.returns
returns g c = never_stopped _ _ _ _ c.in_ok-ran.ensures

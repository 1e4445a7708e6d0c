use Rattle.programs.proofs.Reached.{never_stopped}
use Rattle.worker_pool.proofs.program.run_program.Goals as goal

pub returns-clause-ran : goal.returns-clause-ran
returns-clause-ran g c = never_stopped _ _ _ _ c.in_ok-ran.ensures.ran

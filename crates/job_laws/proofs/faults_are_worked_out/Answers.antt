use Rattle.std.proofs.Common.{refl}
use Rattle.task_lang.specs.Meaning as meaning
use Rattle.job_laws.proofs.faults_are_worked_out.Goals as goal

pub returns : goal.returns
unfolding meaning.segment_of meaning.run
returns c = record {
  overflow = refl;
  read_outside = refl;
  put_outside = refl;
  inside = refl;
  budget = refl;
  in_budget = refl;
  depth = refl;
  in_depth = refl;
  spawns = refl;
  eight = refl;
  at_limit = refl;
  below_limit = refl;
  no_task = refl;
}

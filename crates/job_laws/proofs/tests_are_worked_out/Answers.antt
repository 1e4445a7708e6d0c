use Rattle.std.proofs.Common.{refl}
use Rattle.task_lang.specs.Meaning as meaning
use Rattle.job_laws.proofs.tests_are_worked_out.Goals as goal

pub returns : goal.returns
unfolding meaning.segment_of meaning.run
returns c = record {
  above = refl;
  zero = refl;
  below = refl;
  far_below = refl;
  once_zero = refl;
  once_below = refl;
  while_below = refl;
  read_below = refl;
  test_below = refl;
  put_below = refl;
  add_below = refl;
}

use Rattle.std.proofs.Common.{refl}
use Rattle.task_lang.specs.Meaning as meaning
use Rattle.job_laws.proofs.jobs_are_worked_out.Goals as goal

pub returns : goal.returns
unfolding meaning.segment_of meaning.run
returns c = record {
  swapped = refl;
  last_wins = refl;
  last_put_wins = refl;
  spawned = refl;
  faulted = refl;
  limited = refl;
  added = refl;
  overflowed = refl;
  fits_in_time = refl;
  covered = refl;
  fault_first = refl;
}

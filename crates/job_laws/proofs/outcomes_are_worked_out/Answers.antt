use Rattle.std.proofs.Common.{refl}
use Rattle.task_lang.specs.Meaning as meaning
use Rattle.job_laws.proofs.outcomes_are_worked_out.Goals as goal

pub returns : goal.returns
unfolding meaning.segment_of meaning.run
returns c = record { faulted = refl; overflowed = refl; landed = refl; faulted_first = refl; too_many = refl; just_enough = refl }

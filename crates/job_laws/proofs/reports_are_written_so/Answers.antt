use Rattle.std.proofs.Common.{refl}
use Rattle.std.specs.Fmt as fmt
use Rattle.task_lang.specs.Meaning as meaning
use Rattle.job_laws.proofs.reports_are_written_so.Goals as goal

pub returns : goal.returns
unfolding fmt.digits meaning.segment_of meaning.run
returns c = record { ended = refl; spawned = refl; faulted = refl; limited = refl; of_nobody = refl }

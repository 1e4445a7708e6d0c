use Rattle.std.proofs.Common.{refl}
use Rattle.bsp_job.proofs.statuses_are_numbered.Goals as goal

pub returns : goal.returns
returns c = record { ended = refl; faulted = refl; limited = refl }

use Rattle.std.proofs.Common.{refl}
use Rattle.job_laws.proofs.runs_are_landed_so.Goals as goal

pub returns : goal.returns
returns c = record { fits = refl; lands = refl; falling = refl; shared = refl; outside = refl; overflow = refl }

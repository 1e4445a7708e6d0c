use Rattle.std.proofs.Common.{refl}
use Rattle.job_laws.proofs.refusals_are_numbered.Goals as goal

pub returns : goal.returns
returns c = record { out_of_range = λ path place. refl; not_in_order = refl; overflow = λ path place. refl; missing = λ path. refl }

use Rattle.std.proofs.Common.{refl, sym, subst}
use Rattle.task_code.specs.Rules.{IsJob}
use Rattle.job_reader.proofs.JobLemmas.{jobs}
use Rattle.job_reader.proofs.upgrades.upgrade.Goals as goal

pub returns-clause-job : goal.returns-clause-job
returns-clause-job c = jobs c.in-Some.job (subst IsJob (sym c.in-Some.ensures.made) (c.in-Some.ensures.refused.0 refl))

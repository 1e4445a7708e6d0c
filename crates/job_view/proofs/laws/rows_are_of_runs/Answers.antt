use Rattle.job_view.proofs.Limits.{rows_are_of_runs}
use Rattle.job_view.proofs.laws.rows_are_of_runs.Goals as goal

pub returns : goal.returns
returns c = rows_are_of_runs

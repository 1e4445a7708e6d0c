use Rattle.job_view.proofs.ReadBack.{each-report-is-read-back}
use Rattle.job_view.proofs.laws.each_report_is_read_back.Goals as goal

pub returns : goal.returns
returns c = each-report-is-read-back

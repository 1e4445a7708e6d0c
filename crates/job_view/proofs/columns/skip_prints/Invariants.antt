use Rattle.std.proofs.Common.{◌≡◌, length}
use Rattle.phase_records.specs.ReportText.{rest_of}
use Rattle.job_view.proofs.columns.skip_prints.Given as goal

abbrev pub invariant-loop-print : goal.invariant-loop-print
invariant-loop-print l = rest_of l.step l.rest ≡ rest_of l.step l.fn.prints

abbrev pub decreases-loop-print : goal.decreases-loop-print
decreases-loop-print l = length l.rest

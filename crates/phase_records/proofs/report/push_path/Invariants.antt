use Rattle.std.proofs.Common.{length}
use Rattle.phase_records.specs.ReportText.{path_text}
use Rattle.phase_records.proofs.ReportProofs.{points_text}
use Rattle.phase_records.proofs.TakenProofs.{TookFront}
use Rattle.phase_records.proofs.report.push_path.Given as goal

abbrev pub invariant-loop-number : goal.invariant-loop-number
invariant-loop-number g l = TookFront (g.S.Sink.seen l.fn.out) (g.S.Sink.seen l.out) (path_text l.fn.path) (points_text l.rest)

abbrev pub decreases-loop-number : goal.decreases-loop-number
decreases-loop-number g l = length l.rest

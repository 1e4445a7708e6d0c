use Rattle.std.proofs.Common.{length}
use Rattle.phase_records.specs.ReportText.{steps_text}
use Rattle.phase_records.proofs.TakenProofs.{TookFront}
use Rattle.phase_records.proofs.report.push_steps.Given as goal

abbrev pub invariant-loop-counts : goal.invariant-loop-counts
invariant-loop-counts g l =
    TookFront (g.S.Sink.seen l.fn.out) (g.S.Sink.seen l.out) (steps_text l.fn.prints l.fn.records) (steps_text l.prints l.rest)

abbrev pub decreases-loop-counts : goal.decreases-loop-counts
decreases-loop-counts g l = length l.rest

use Rattle.std.proofs.Common.{drop}
use Rattle.std.specs.List.{flat_map}
use Rattle.phase_records.specs.ReportText.{array_line}
use Rattle.phase_records.proofs.TakenProofs.{TookFront}
use Rattle.phase_records.proofs.report.push_arrays.Given as goal

abbrev pub invariant-loop-place : goal.invariant-loop-place
invariant-loop-place g l =
    TookFront (g.S.Sink.seen l.fn.out) (g.S.Sink.seen l.out) (flat_map array_line l.arrays) (flat_map array_line (drop l.place l.arrays))

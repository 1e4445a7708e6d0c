use Rattle.std.proofs.Common.{◌≡◌, length}
use Rattle.std.specs.List.{flat_map}
use Rattle.phase_records.specs.ReportText.{print_line, front_of, rest_of}
use Rattle.phase_records.proofs.TakenProofs.{TookFront}
use Rattle.phase_records.proofs.report.push_prints.Given as goal

abbrev pub invariant-loop-print : goal.invariant-loop-print
invariant-loop-print g l = record {
  lines : TookFront (g.S.Sink.seen l.fn.out) (g.S.Sink.seen l.out) (flat_map print_line (front_of l.step l.fn.prints))
      (flat_map print_line (front_of l.step l.rest));
  others : rest_of l.step l.rest ≡ rest_of l.step l.fn.prints;
}

abbrev pub decreases-loop-print : goal.decreases-loop-print
decreases-loop-print g l = length l.rest

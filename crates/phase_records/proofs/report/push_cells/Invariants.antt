use Rattle.std.proofs.Common.{length}
use Rattle.std.specs.List.{flat_map}
use Rattle.phase_records.specs.ReportText.{cell_text}
use Rattle.phase_records.proofs.TakenProofs.{TookFront}
use Rattle.phase_records.proofs.report.push_cells.Given as goal

abbrev pub invariant-loop-cell : goal.invariant-loop-cell
invariant-loop-cell g l =
    TookFront (g.S.Sink.seen l.fn.out) (g.S.Sink.seen l.out) (flat_map cell_text l.fn.cells) (flat_map cell_text l.rest)

abbrev pub decreases-loop-cell : goal.decreases-loop-cell
decreases-loop-cell g l = length l.rest

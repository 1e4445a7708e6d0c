use Rattle.std.proofs.Common.{◌≡◌, ◌+◌, ◌≤◌, length}
use Rattle.std.specs.Prelude.{slice_get}
use Rattle.text_lines.specs.Text.{lines_of}
use Rattle.fault_reasons.specs.Lines.{kept_from}
use Rattle.fault_reasons.proofs.lines.line_from.Given as goal

abbrev pub invariant-loop-line : goal.invariant-loop-line
invariant-loop-line l = record {
  same : slice_get (kept_from l.number (lines_of l.rest)) l.left ≡ slice_get (kept_from l.first (lines_of l.text)) l.count;
  bound : l.number + length l.rest ≤ l.first + length l.text;
}

abbrev pub decreases-loop-line : goal.decreases-loop-line
decreases-loop-line l = length l.rest

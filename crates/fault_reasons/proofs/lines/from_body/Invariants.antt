use Rattle.std.proofs.Common.{◌≡◌, ◌+◌, ◌≤◌, length}
use Rattle.text_lines.specs.Text.{lines_of}
use Rattle.fault_reasons.specs.Lines.{from_body, kept_from}
use Rattle.fault_reasons.proofs.lines.from_body.Given as goal

abbrev pub invariant-loop-line : goal.invariant-loop-line
invariant-loop-line l = record {
  same : from_body l.left (kept_from l.number (lines_of l.rest)) ≡ from_body l.body (kept_from 1 (lines_of l.text));
  bound : l.number + length l.rest ≤ 1 + length l.text;
}

abbrev pub decreases-loop-line : goal.decreases-loop-line
decreases-loop-line l = length l.rest

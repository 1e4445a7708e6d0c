use Rattle.std.proofs.Common.{◌≡◌, length}
use Rattle.text_lines.specs.Text.{lines_of}
use Rattle.refusal_reasons.specs.Lines.{line_at}
use Rattle.refusal_reasons.proofs.lines.line_at.Given as goal

abbrev pub invariant-loop-line : goal.invariant-loop-line
invariant-loop-line l = line_at l.left (lines_of l.rest) ≡ line_at l.number (lines_of l.text)

abbrev pub decreases-loop-line : goal.decreases-loop-line
decreases-loop-line l = length l.rest

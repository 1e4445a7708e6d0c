use Rattle.std.proofs.Common.{◌≡◌, length}
use Rattle.text_lines.specs.Text.{lines_of}
use Rattle.refusal_reasons.specs.Known.{is_first}
use Rattle.refusal_reasons.proofs.known.is_first.Given as goal

abbrev pub invariant-loop-line : goal.invariant-loop-line
invariant-loop-line l = is_first (lines_of l.rest) ≡ is_first (lines_of l.text)

abbrev pub decreases-loop-line : goal.decreases-loop-line
decreases-loop-line l = length l.rest

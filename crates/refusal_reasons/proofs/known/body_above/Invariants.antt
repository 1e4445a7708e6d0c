use Rattle.std.proofs.Common.{◌≡◌, [], length}
use Rattle.text_lines.specs.Text.{lines_of}
use Rattle.refusal_reasons.specs.Known.{above, last_body}
use Rattle.refusal_reasons.proofs.known.body_above.Given as goal

abbrev pub invariant-loop-line : goal.invariant-loop-line
invariant-loop-line l = last_body l.last (above l.left (lines_of l.rest)) ≡ last_body [] (above l.number (lines_of l.text))

abbrev pub decreases-loop-line : goal.decreases-loop-line
decreases-loop-line l = length l.rest

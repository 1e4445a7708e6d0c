use Rattle.std.proofs.Common.{◌≡◌, ◌++◌, length}
use Rattle.text_lines.specs.Text.{lines_of}
use Rattle.job_reader.specs.Views.{lent}
use Rattle.refusal_reasons.specs.Known.{above, arrays_in}
use Rattle.refusal_reasons.proofs.known.arrays_above.Given as goal

abbrev pub invariant-loop-line : goal.invariant-loop-line
invariant-loop-line l = lent l.names.items ++ arrays_in (above l.left (lines_of l.rest)) ≡ arrays_in (above l.number (lines_of l.text))

abbrev pub decreases-loop-line : goal.decreases-loop-line
decreases-loop-line l = length l.rest

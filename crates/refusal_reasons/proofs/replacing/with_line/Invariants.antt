use Rattle.std.proofs.Common.{◌≡◌, ◌++◌, length}
use Rattle.text_lines.specs.Laws.{joined}
use Rattle.text_lines.specs.Text.{lines_of}
use Rattle.refusal_reasons.specs.Faults.{replaced}
use Rattle.refusal_reasons.proofs.replacing.with_line.Given as goal

abbrev pub invariant-loop-line : goal.invariant-loop-line
invariant-loop-line l =
    l.out.items ++ joined (replaced l.left l.other (lines_of l.rest)) ≡ joined (replaced l.number l.other (lines_of l.text))

abbrev pub decreases-loop-line : goal.decreases-loop-line
decreases-loop-line l = length l.rest

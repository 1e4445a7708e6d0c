use Rattle.std.proofs.Common.{◌≡◌, ◌++◌, length}
use Rattle.text_lines.specs.Text.{words_of}
use Rattle.fault_reasons.specs.Lines.{spaced}
use Rattle.fault_reasons.proofs.lines.push_spaced.Given as goal

abbrev pub invariant-loop-word : goal.invariant-loop-word
invariant-loop-word l = l.out.items ++ spaced (words_of l.rest) ≡ l.fn.out.items ++ spaced (words_of l.words)

abbrev pub decreases-loop-word : goal.decreases-loop-word
decreases-loop-word l = length l.rest

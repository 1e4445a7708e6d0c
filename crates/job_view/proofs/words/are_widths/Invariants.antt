use Rattle.std.proofs.Common.{◌≡◌, length}
use Rattle.text_lines.specs.Text.{words_of}
use Rattle.job_view.specs.Words.{are_widths}
use Rattle.job_view.proofs.words.are_widths.Given as goal

abbrev pub invariant-loop-word : goal.invariant-loop-word
invariant-loop-word l = are_widths (words_of l.rest) ≡ are_widths (words_of l.words)

abbrev pub decreases-loop-word : goal.decreases-loop-word
decreases-loop-word l = length l.rest

use Rattle.std.proofs.Common.{◌≡◌, length}
use Rattle.text_lines.specs.Text.{words_of}
use Rattle.job_view.specs.Words.{is_given}
use Rattle.job_view.proofs.words.is_given.Given as goal

abbrev pub invariant-loop-word : goal.invariant-loop-word
invariant-loop-word l = is_given l.name (words_of l.rest) ≡ is_given l.name (words_of l.words)

abbrev pub decreases-loop-word : goal.decreases-loop-word
decreases-loop-word l = length l.rest

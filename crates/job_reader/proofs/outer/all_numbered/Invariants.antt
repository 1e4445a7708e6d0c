use Rattle.std.proofs.Common.{◌≡◌, length}
use Rattle.text_lines.specs.Text.{words_of}
use Rattle.job_reader.specs.Reading.{all_numbered, with_front}
use Rattle.job_reader.proofs.outer.all_numbered.Given as goal

abbrev pub invariant-loop-word : goal.invariant-loop-word
invariant-loop-word l = with_front l.values.items (all_numbered (words_of l.rest)) ≡ all_numbered (words_of l.line)

abbrev pub decreases-loop-word : goal.decreases-loop-word
decreases-loop-word l = length l.rest

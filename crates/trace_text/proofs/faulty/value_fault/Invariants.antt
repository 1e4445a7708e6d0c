use Rattle.std.proofs.Common.{◌≡◌, ◌+◌, ◌≤◌, [], length}
use Rattle.text_lines.specs.Text.{words_of}
use Rattle.trace_text.specs.Faulty.{value_fault}
use Rattle.trace_text.proofs.faulty.value_fault.Given as goal

abbrev pub invariant-loop-word : goal.invariant-loop-word
invariant-loop-word l = record {
  same : value_fault l.before l.at (words_of l.rest) ≡ value_fault [] 2 (words_of l.line);
  bound : l.at + length l.rest ≤ 2 + length l.line;
}

abbrev pub decreases-loop-word : goal.decreases-loop-word
decreases-loop-word l = length l.rest

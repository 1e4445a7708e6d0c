use Rattle.std.proofs.Common.{◌≡◌, ◌+◌, ◌≤◌, [], length}
use Rattle.text_lines.specs.Text.{lines_of}
use Rattle.refusal_reasons.specs.Known.{above, open_after}
use Rattle.refusal_reasons.proofs.known.open_above.Given as goal

abbrev pub invariant-loop-line : goal.invariant-loop-line
invariant-loop-line l = record {
  same : open_after l.at l.blocks.items (above l.left (lines_of l.rest)) ≡ open_after 1 [] (above l.number (lines_of l.text));
  bound : l.at + length l.rest ≤ 1 + length l.text;
}

abbrev pub decreases-loop-line : goal.decreases-loop-line
decreases-loop-line l = length l.rest

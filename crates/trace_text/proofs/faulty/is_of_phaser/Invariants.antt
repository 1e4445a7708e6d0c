use Rattle.std.proofs.Common.{◌≡◌, length}
use Rattle.text_lines.specs.Text.{lines_of}
use Rattle.trace_text.specs.Faulty.{is_of_phaser}
use Rattle.trace_text.proofs.faulty.is_of_phaser.Given as goal

abbrev pub invariant-loop-line : goal.invariant-loop-line
invariant-loop-line l = is_of_phaser (lines_of l.rest) ≡ is_of_phaser (lines_of l.text)

abbrev pub decreases-loop-line : goal.decreases-loop-line
decreases-loop-line l = length l.rest

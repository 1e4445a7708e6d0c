use Rattle.std.proofs.Common.{◌≡◌, ◌+◌, ◌≤◌, length}
use Rattle.text_lines.specs.Text.{lines_of}
use Rattle.job_reader.specs.Views.{lent}
use Rattle.job_reader.specs.Above.{Above, nothing}
use Rattle.job_reader.specs.Kept.{KeptAt}
use Rattle.job_reader.specs.Reading.{read_lines}
use Rattle.job_reader.specs.Relates.{IsAt}
use Rattle.job_reader.proofs.read.read_lines.Given as goal

abbrev pub invariant-loop-this : goal.invariant-loop-this
invariant-loop-this l = record {
  counted : l.line + length l.rest ≤ l.first + length l.text;
  at : (a : Above) × IsAt a l.state × KeptAt a.job a.inside
      × (read_lines (lent l.bodies) l.first (nothing l.format) (lines_of l.text) ≡ read_lines (lent l.bodies) l.line a (lines_of l.rest));
}

abbrev pub decreases-loop-this : goal.decreases-loop-this
decreases-loop-this l = length l.rest

use Rattle.std.proofs.Common.{◌≡◌, ◌+◌, ◌≤◌, length, List}
use Rattle.text_lines.specs.Text.{lines_of}
use Rattle.job_reader.specs.Words.{Word}
use Rattle.job_reader.specs.Begins.{has_header}
use Rattle.job_reader.specs.Reading.{read_from}
use Rattle.job_reader.proofs.read.split_header.Given as goal

abbrev pub invariant-loop-this : goal.invariant-loop-this
invariant-loop-this l = record {
  counted : l.line + length l.rest ≤ length l.text + 1;
  header : has_header (lines_of l.text) ≡ has_header (lines_of l.rest);
  same : (bodies : List Word) → read_from bodies 1 (lines_of l.text) ≡ read_from bodies l.line (lines_of l.rest);
}

abbrev pub decreases-loop-this : goal.decreases-loop-this
decreases-loop-this l = length l.rest

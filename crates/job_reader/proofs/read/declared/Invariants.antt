use Rattle.std.proofs.Common.{◌≡◌, ◌≤◌, ◌++◌, take, length}
use Rattle.std.specs.List.{filter_map}
use Rattle.text_lines.specs.Text.{lines_of, words_of}
use Rattle.job_reader.specs.Views.{lent}
use Rattle.job_reader.specs.Reading.{declared_by, declared}
use Rattle.job_reader.proofs.read.declared.Given as goal

abbrev pub invariant-loop-line : goal.invariant-loop-line
invariant-loop-line l = record {
  same : take 64 (lent l.names.items ++ filter_map (λ l. declared_by (words_of l)) (lines_of l.rest)) ≡ declared (lines_of l.text);
  few : length l.names.items ≤ 64;
}

abbrev pub decreases-loop-line : goal.decreases-loop-line
decreases-loop-line l = length l.rest

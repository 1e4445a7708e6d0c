use Rattle.std.proofs.Common.{◌≡◌, ◌++◌, drop}
use Rattle.job_reader.specs.Grammar.{text_of, array_lines}
use Rattle.job_reader.proofs.write.push_arrays.Given as goal

abbrev pub invariant-loop-place : goal.invariant-loop-place
invariant-loop-place l = l.out.items ++ text_of (array_lines (drop l.place l.arrays)) ≡ l.fn.out.items ++ text_of (array_lines l.arrays)

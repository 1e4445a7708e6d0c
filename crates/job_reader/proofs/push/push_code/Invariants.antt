use Rattle.std.proofs.Common.{◌≡◌, ◌++◌, length}
use Rattle.job_reader.specs.Grammar.{text_of}
use Rattle.job_reader.specs.Writing.{names_of, code_lines}
use Rattle.job_reader.proofs.push.push_code.Given as goal

abbrev pub invariant-loop-line : goal.invariant-loop-line
invariant-loop-line l =
    l.out.items ++ text_of (code_lines (names_of l.names) l.rest) ≡ l.fn.out.items ++ text_of (code_lines (names_of l.names) l.code)

abbrev pub decreases-loop-line : goal.decreases-loop-line
decreases-loop-line l = length l.rest

use Rattle.std.proofs.Common.{◌≡◌, ◌++◌, length, map}
use Rattle.job_reader.specs.Grammar.{text_of, start_lines}
use Rattle.job_reader.proofs.write.push_starts.Given as goal

abbrev pub invariant-loop-start : goal.invariant-loop-start
invariant-loop-start l =
    l.out.items ++ text_of (start_lines (map (λ b. b.name) l.bodies) l.rest)
    ≡ l.fn.out.items ++ text_of (start_lines (map (λ b. b.name) l.bodies) l.starts)

abbrev pub decreases-loop-start : goal.decreases-loop-start
decreases-loop-start l = length l.rest

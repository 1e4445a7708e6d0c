use Rattle.std.proofs.Common.{◌≡◌, ◌++◌, length, map}
use Rattle.job_reader.specs.Trees.{body_tree}
use Rattle.job_reader.specs.Grammar.{text_of, bodies_lines}
use Rattle.job_reader.proofs.write.push_bodies.Given as goal

abbrev pub invariant-loop-body : goal.invariant-loop-body
invariant-loop-body l =
    l.out.items ++ text_of (bodies_lines l.format (map (λ a. a.0) l.arrays) (map (λ b. b.name) l.all) (map body_tree l.rest))
    ≡ l.fn.out.items ++ text_of (bodies_lines l.format (map (λ a. a.0) l.arrays) (map (λ b. b.name) l.all) (map body_tree l.bodies))

abbrev pub decreases-loop-body : goal.decreases-loop-body
decreases-loop-body l = length l.rest

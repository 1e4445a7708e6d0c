use Rattle.std.proofs.Common.{◌≡◌, map, length}
use Rattle.task_code.specs.Names as spec
use Rattle.task_code.proofs.job.are_named_apart.Given as goal

abbrev pub invariant-loop-first : goal.invariant-loop-first
invariant-loop-first l = spec.are_names (map (λ b. b.name) l.bodies) ≡ spec.are_names (map (λ b. b.name) l.rest)

abbrev pub decreases-loop-first : goal.decreases-loop-first
decreases-loop-first l = length l.rest

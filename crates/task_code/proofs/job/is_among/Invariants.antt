use Rattle.std.proofs.Common.{◌≡◌, map, drop}
use Rattle.task_code.specs.Names as spec
use Rattle.task_code.proofs.job.is_among.Given as goal

abbrev pub invariant-loop-first : goal.invariant-loop-first
invariant-loop-first l = spec.is_among (map (λ b. b.name) l.bodies) l.name ≡ spec.is_among (map (λ b. b.name) (drop l.first-index l.bodies)) l.name

use Rattle.std.proofs.Common.{◌≡◌, drop}
use Rattle.std.specs.List.{list_all, AllByRecursion}
use Rattle.task_code.specs.Limits as limits
use Rattle.task_code.specs.Rules.{IsBody}
use Rattle.task_code.proofs.job.are_within.Given as goal

abbrev pub invariant-loop-first : goal.invariant-loop-first
invariant-loop-first l = record {
  within : list_all (λ b. list_all (limits.is_line l.arrays l.count) b.code) l.bodies
      ≡ list_all (λ b. list_all (limits.is_line l.arrays l.count) b.code) (drop l.first-index l.bodies);
  each : AllByRecursion IsBody (drop l.first-index l.bodies) → AllByRecursion IsBody l.bodies;
}

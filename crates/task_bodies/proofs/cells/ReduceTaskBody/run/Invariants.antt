use Rattle.std.proofs.Common.{◌≤◌, ◌-◌}
use Rattle.task_bodies.proofs.Each.{IsSummed}
use Rattle.task_bodies.proofs.cells.ReduceTaskBody.run.Given as goal

abbrev pub invariant-loop-place : goal.invariant-loop-place
invariant-loop-place g l = record {
  done : IsSummed (λ x v. goal.F-post g l.self.f x v) l.cells l.kept.first l.place l.sum;
  low : l.kept.first ≤ l.place;
  high : l.place ≤ l.end;
}

abbrev pub decreases-loop-place : goal.decreases-loop-place
decreases-loop-place g l = l.end - l.place

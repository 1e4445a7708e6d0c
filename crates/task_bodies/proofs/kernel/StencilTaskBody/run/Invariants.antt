use Rattle.std.proofs.Common.{◌≤◌, ◌-◌}
use Rattle.task_bodies.specs.Kernels.{IsMapped}
use Rattle.task_bodies.proofs.kernel.StencilTaskBody.run.Given as goal

abbrev pub invariant-loop-place : goal.invariant-loop-place
invariant-loop-place g l = record {
  done : IsMapped (λ x y z v. goal.F-post g l.self.f x y z v) l.cells l.kept.before (l.place - l.kept.before) l.values.items;
  low : l.kept.before ≤ l.place;
  high : l.place ≤ l.end;
}

abbrev pub decreases-loop-place : goal.decreases-loop-place
decreases-loop-place g l = l.end - l.place

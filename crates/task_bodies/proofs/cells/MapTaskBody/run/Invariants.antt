use Rattle.std.proofs.Common.{◌≤◌, ◌-◌}
use Rattle.task_bodies.specs.Cells.{AreGiven}
use Rattle.task_bodies.proofs.cells.MapTaskBody.run.Given as goal

abbrev pub invariant-loop-place : goal.invariant-loop-place
invariant-loop-place g l = record {
  done : AreGiven (λ x v. goal.F-post g l.self.f x v) l.cells l.kept.first (l.place - l.kept.first) l.values.items;
  low : l.kept.first ≤ l.place;
  high : l.place ≤ l.end;
}

abbrev pub decreases-loop-place : goal.decreases-loop-place
decreases-loop-place g l = l.end - l.place

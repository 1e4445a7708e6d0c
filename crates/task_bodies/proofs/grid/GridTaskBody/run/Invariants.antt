use Rattle.std.proofs.Common.{◌≡◌, ◌≤◌, ◌-◌, ◌*◌}
use Rattle.task_bodies.specs.Board.{AreRowsGiven}
use Rattle.task_bodies.proofs.grid.GridTaskBody.run.Given as goal

abbrev pub invariant-loop-row : goal.invariant-loop-row
invariant-loop-row g l = record {
  done : AreRowsGiven (λ w v. goal.F-post g l.self.f w v) l.self.beyond l.cells l.width l.kept.first (l.row - l.kept.first) l.values.items;
  at : l.at ≡ l.row * l.width;
  low : l.kept.first ≤ l.row;
  high : l.row ≤ l.end;
}

abbrev pub decreases-loop-row : goal.decreases-loop-row
decreases-loop-row g l = l.end - l.row

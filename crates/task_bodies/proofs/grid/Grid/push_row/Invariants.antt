use Rattle.std.proofs.Common.{◌≡◌, ◌≤◌, ◌+◌, ◌-◌}
use Rattle.task_bodies.specs.Board.{HasRow, near}
use Rattle.task_bodies.proofs.grid.Grid.push_row.Given as goal

abbrev pub invariant-loop-place : goal.invariant-loop-place
invariant-loop-place g l = record {
  done : HasRow (λ w v. goal.F-post g l.self.f w v) l.self.beyond l.rows.up.now l.rows.own.now l.rows.down.now l.place l.fn.values.items
      l.values.items;
  left_up : l.left.up ≡ near l.self.beyond l.rows.up.now l.place;
  left_own : l.left.own ≡ near l.self.beyond l.rows.own.now l.place;
  left_down : l.left.down ≡ near l.self.beyond l.rows.down.now l.place;
  middle_up : l.middle.up ≡ near l.self.beyond l.rows.up.now (l.place + 1);
  middle_own : l.middle.own ≡ near l.self.beyond l.rows.own.now (l.place + 1);
  middle_down : l.middle.down ≡ near l.self.beyond l.rows.down.now (l.place + 1);
  high : l.place ≤ l.width;
}

abbrev pub decreases-loop-place : goal.decreases-loop-place
decreases-loop-place g l = l.width - l.place

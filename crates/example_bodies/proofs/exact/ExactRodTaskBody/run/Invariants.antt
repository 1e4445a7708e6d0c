use Rattle.std.proofs.Common.{◌≡◌, ◌≤◌, ◌-◌}
use Rattle.example_bodies.specs.Rod.{mixed_from}
use Rattle.example_bodies.proofs.exact.ExactRodTaskBody.run.Given as goal

abbrev pub invariant-loop-place : goal.invariant-loop-place
invariant-loop-place l = record {
  done : l.values.items ≡ mixed_from l.cells l.piece.first (l.place - l.piece.first);
  low : l.piece.first ≤ l.place;
  high : l.place - l.piece.first ≤ l.piece.end - l.piece.first;
}

abbrev pub decreases-loop-place : goal.decreases-loop-place
decreases-loop-place l = l.piece.end - l.place

use Rattle.std.proofs.Common.{◌≡◌}
use Rattle.test_groups.specs.Seats.{ThreeAt}
use Rattle.test_groups.proofs.runs.played.Given as goal

abbrev pub invariant-loop-number : goal.invariant-loop-number
invariant-loop-number g l = (l.spare.tree ≡ l.tree.tree) × ThreeAt l.tree.tree l.seats

use Rattle.std.proofs.Common.{◌≡◌, ◌<◌, drop}
use Rattle.stretch_queue.specs.Leaves.{leaf_below}
use Rattle.stretch_queue.proofs.moves.leaf_below.Given as goal

abbrev pub invariant-loop-number : goal.invariant-loop-number
invariant-loop-number l = (l.leaf < l.leaves) × (leaf_below l.leaves l.leaf (drop l.number-index l.path) ≡ leaf_below l.leaves l.at l.path)

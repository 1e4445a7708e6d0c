use Rattle.std.proofs.Common.{◌≡◌, List, ℕ, length}
use Rattle.std.specs.Prelude.{ℤ}
use Rattle.superstep_memory.specs.Lots.{puts_in, rows_among}
use Rattle.superstep_memory.specs.Taken.{HasBegun}
use Rattle.superstep_memory.proofs.lots_landing.give_back_lots.Given as goal

abbrev pub invariant-loop-lot : goal.invariant-loop-lot
invariant-loop-lot l = record {
  back : (xs : List (List ℕ × List ℤ)) → HasBegun (puts_in l.lots l.rows) l.fn.olds.items xs l.fn.arrays
      → HasBegun (puts_in l.rest l.left) l.olds.items xs l.arrays;
  count : l.before ≡ length (puts_in l.rest l.left);
  rows : length l.left ≡ rows_among l.rest;
}

abbrev pub decreases-loop-lot : goal.decreases-loop-lot
decreases-loop-lot l = length l.rest

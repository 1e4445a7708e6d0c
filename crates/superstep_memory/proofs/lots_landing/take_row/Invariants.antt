use Rattle.std.proofs.Common.{◌≡◌, ◌+◌, length}
use Rattle.superstep_memory.proofs.LotsTaken.{IsTakingRow}
use Rattle.superstep_memory.proofs.lots_landing.take_row.Given as goal

abbrev pub invariant-loop-value : goal.invariant-loop-value
invariant-loop-value l = record {
  taking : IsTakingRow l.fn.array l.first l.values l.place l.rest l.fn.olds.items l.olds.items l.fn.arrays l.arrays;
  count : l.place + length l.rest ≡ l.first + length l.values;
}

abbrev pub decreases-loop-value : goal.decreases-loop-value
decreases-loop-value l = length l.rest

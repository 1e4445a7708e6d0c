use Rattle.std.proofs.Common.{◌≡◌, ◌++◌, length}
use Rattle.superstep_memory.specs.Rows.{row_puts}
use Rattle.superstep_memory.proofs.lots_listed.list_row.Given as goal

abbrev pub invariant-loop-value : goal.invariant-loop-value
invariant-loop-value l = l.puts.items ++ row_puts l.array l.index l.rest ≡ l.fn.puts.items ++ row_puts l.array l.first l.values

abbrev pub decreases-loop-value : goal.decreases-loop-value
decreases-loop-value l = length l.rest

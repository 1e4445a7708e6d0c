use Rattle.std.proofs.Common.{◌≡◌, ◌++◌, drop}
use Rattle.superstep_memory.specs.Lots.{puts_in}
use Rattle.superstep_memory.proofs.lots_listed.list_of.Given as goal

abbrev pub invariant-loop-lot : goal.invariant-loop-lot
invariant-loop-lot l = l.puts.items ++ puts_in (drop l.lot-index l.lots) l.left ≡ puts_in l.lots l.rows

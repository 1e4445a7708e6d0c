use Rattle.std.proofs.Common.{◌≡◌, drop}
use Rattle.std.specs.List.{list_all}
use Rattle.superstep_memory.specs.Cells.{is_cell}
use Rattle.superstep_memory.specs.Lots.{puts_in}
use Rattle.superstep_memory.proofs.lots_landing.are_all_in.Given as goal

abbrev pub invariant-loop-lot : goal.invariant-loop-lot
invariant-loop-lot l = list_all (is_cell l.arrays) (puts_in l.fn.lots l.fn.rows) ≡ list_all (is_cell l.arrays) (puts_in (drop l.lot-index l.lots) l.left)

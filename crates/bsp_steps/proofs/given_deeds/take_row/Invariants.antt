use Rattle.std.proofs.Common.{◌≡◌, ◌≤◌, ◌++◌, length}
use Rattle.std.specs.List.{list_all}
use Rattle.superstep_memory.specs.Cells.{is_cell}
use Rattle.superstep_memory.specs.Rows.{row_puts}
use Rattle.bsp_steps.specs.Given.{puts_given}
use Rattle.bsp_steps.proofs.given_deeds.take_row.Given as goal

abbrev pub invariant-loop-next : goal.invariant-loop-next
invariant-loop-next l = record {
  row : row_puts l.array l.first l.values.items ++ puts_given l.rest
      ≡ row_puts l.fn.array l.fn.first l.fn.values.items ++ puts_given l.fn.given;
  cells : list_all (is_cell l.arrays) (row_puts l.array l.first l.values.items)
      ≡ list_all (is_cell l.fn.arrays) (row_puts l.fn.array l.fn.first l.fn.values.items);
  fewer : length l.rest ≤ length l.fn.given;
}

abbrev pub decreases-loop-next : goal.decreases-loop-next
decreases-loop-next l = length l.rest

use Rattle.std.proofs.Common.{◌≡◌, ◌++◌, drop}
use Rattle.std.specs.List.{list_all}
use Rattle.superstep_memory.specs.Cells.{is_cell}
use Rattle.bsp_steps.specs.Given.{puts_given}
use Rattle.bsp_steps.proofs.given_deeds.put_some.Given as goal

abbrev pub invariant-loop-next : goal.invariant-loop-next
invariant-loop-next l = record {
  all : list_all (is_cell l.arrays) (puts_given (drop l.next-index l.given)) ≡ list_all (is_cell l.fn.arrays) (puts_given l.fn.given);
  put : l.puts ++ puts_given (drop l.next-index l.given) ≡ l.fn.puts ++ puts_given l.fn.given;
}

use Rattle.std.proofs.Common.{◌≡◌, ◌≤◌, ◌-◌, map, drop, length}
use Rattle.superstep_memory.specs.Cells.{has_array}
use Rattle.bsp_steps.specs.Given.{array_given}
use Rattle.bsp_steps.proofs.open.has_name.Given as goal

abbrev pub invariant-loop-place : goal.invariant-loop-place
invariant-loop-place l = record {
  others : has_array (map array_given (drop l.place l.given)) l.name ≡ has_array (map array_given l.fn.given) l.fn.name;
  within : l.place ≤ length l.given;
}

abbrev pub decreases-loop-place : goal.decreases-loop-place
decreases-loop-place l = length l.given - l.place

use Rattle.std.proofs.Common.{◌≡◌, ◌≤◌, ◌-◌, drop, length}
use Rattle.std.specs.List.{list_all}
use Rattle.bsp_steps.specs.Given.{is_small}
use Rattle.bsp_steps.proofs.open.are_small.Given as goal

abbrev pub invariant-loop-place : goal.invariant-loop-place
invariant-loop-place l = record {
  others : list_all is_small (drop l.place l.given) ≡ list_all is_small l.fn.given;
  within : l.place ≤ length l.given;
}

abbrev pub decreases-loop-place : goal.decreases-loop-place
decreases-loop-place l = length l.given - l.place

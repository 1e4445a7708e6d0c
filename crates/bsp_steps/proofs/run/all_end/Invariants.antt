use Rattle.std.proofs.Common.{◌≡◌, ◌≤◌, ◌-◌, drop, length}
use Rattle.std.specs.List.{list_all}
use Rattle.bsp_steps.specs.Given.{is_ending}
use Rattle.bsp_steps.proofs.run.all_end.Given as goal

abbrev pub invariant-loop-place : goal.invariant-loop-place
invariant-loop-place l = record {
  others : list_all is_ending (drop l.place l.deeds) ≡ list_all is_ending l.fn.deeds;
  within : l.place ≤ length l.deeds;
}

abbrev pub decreases-loop-place : goal.decreases-loop-place
decreases-loop-place l = length l.deeds - l.place

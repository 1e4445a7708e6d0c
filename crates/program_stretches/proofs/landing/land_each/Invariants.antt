use Rattle.std.proofs.Common.{◌≡◌, true, ◌-◌, length, drop}
use Rattle.std.specs.List.{list_all}
use Rattle.superstep_memory.specs.Landing.{landed, is_set}
use Rattle.program_stretches.specs.Parts.{puts_in}
use Rattle.program_stretches.proofs.landing.land_each.Given as goal

abbrev pub invariant-loop-place : goal.invariant-loop-place
invariant-loop-place g l = record {
  landed : landed (puts_in (drop l.place l.parts)) l.arrays ≡ landed (puts_in l.fn.parts) l.fn.arrays;
  sets : list_all is_set (puts_in (drop l.place l.parts)) ≡ true;
}

abbrev pub decreases-loop-place : goal.decreases-loop-place
decreases-loop-place g l = length l.parts - l.place

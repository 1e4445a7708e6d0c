use Rattle.std.proofs.Common.{◌≡◌, ◌-◌, length, drop}
use Rattle.std.specs.List.{list_all}
use Rattle.superstep_memory.specs.Landing.{is_set}
use Rattle.program_stretches.specs.Parts.{puts_in}
use Rattle.program_stretches.proofs.parts.are_all_sets.Given as goal

abbrev pub invariant-loop-place : goal.invariant-loop-place
invariant-loop-place g l = list_all is_set (puts_in (drop l.place l.parts)) ≡ list_all is_set (puts_in l.fn.parts)

abbrev pub decreases-loop-place : goal.decreases-loop-place
decreases-loop-place g l = length l.parts - l.place

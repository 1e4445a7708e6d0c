use Rattle.std.proofs.Common.{◌≡◌, ◌≤◌, ◌+◌, ◌++◌, ◌-◌, length, drop}
use Rattle.std.specs.Vec.{vec_len, vec_capacity}
use Rattle.program_stretches.specs.Parts.{without_prints, prints_in}
use Rattle.program_stretches.proofs.Along.{half}
use Rattle.program_stretches.proofs.hand_over.give_all_prints.Given as goal

abbrev pub invariant-loop-place : goal.invariant-loop-place
invariant-loop-place g l = record {
  parts : l.parts.items ≡ half without_prints l.place l.fn.parts.items;
  prints : l.prints.items ++ prints_in (drop l.place l.fn.parts.items) ≡ l.fn.prints.items ++ prints_in l.fn.parts.items;
  capacity : vec_len l.prints + length (prints_in (drop l.place l.fn.parts.items)) ≤ vec_capacity l.prints;
}

abbrev pub decreases-loop-place : goal.decreases-loop-place
decreases-loop-place g l = length l.parts.items - l.place

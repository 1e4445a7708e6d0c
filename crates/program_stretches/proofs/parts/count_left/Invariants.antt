use Rattle.std.proofs.Common.{◌-◌, drop, ◌≡◌, ◌≤◌, ◌+◌, length}
use Rattle.programs.specs.InPlace.{left_in}
use Rattle.program_stretches.specs.Parts.{deeds_in}
use Rattle.program_stretches.proofs.parts.count_left.Given as goal

abbrev pub invariant-loop-place : goal.invariant-loop-place
invariant-loop-place g l = record {
  same : l.count + left_in (deeds_in (drop l.place l.parts)) ≡ left_in (deeds_in l.fn.parts);
  below : l.count ≤ l.most;
}

abbrev pub decreases-loop-place : goal.decreases-loop-place
decreases-loop-place g l = length l.parts - l.place

use Rattle.std.proofs.Common.{◌-◌, drop, ◌≡◌, ◌≤◌, length}
use Rattle.program_stretches.specs.Parts.{covers}
use Rattle.program_stretches.proofs.parts.cover.Given as goal

abbrev pub invariant-loop-place : goal.invariant-loop-place
invariant-loop-place g l = record {
  same : covers l.done l.end l.at (drop l.place l.parts) ≡ covers l.done l.end 0 l.fn.parts;
  below : l.at ≤ l.end;
}

abbrev pub decreases-loop-place : goal.decreases-loop-place
decreases-loop-place g l = length l.parts - l.place

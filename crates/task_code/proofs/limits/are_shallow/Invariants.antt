use Rattle.std.proofs.Common.{◌≤◌, ◌↔◌, length}
use Rattle.task_code.specs.Limits as spec
use Rattle.task_code.proofs.limits.are_shallow.Given as goal

abbrev pub invariant-loop-line : goal.invariant-loop-line
invariant-loop-line l = record {
  few : l.open_lines ≤ 16;
  same : (spec.deepest 0 l.code ≤ 16) ↔ (spec.deepest l.open_lines l.rest ≤ 16);
}

abbrev pub decreases-loop-line : goal.decreases-loop-line
decreases-loop-line l = length l.rest

use Rattle.std.proofs.Common.{◌≡◌, ◌+◌, ◌≤◌, length, drop}
use Rattle.task_code.specs.Limits as spec
use Rattle.task_code.proofs.limits.statements.Given as goal

abbrev pub invariant-loop-line : goal.invariant-loop-line
invariant-loop-line l = record {
  counted : l.count + spec.statements (drop l.line-index l.code) ≡ spec.statements l.code;
  fits : l.count + length (drop l.line-index l.code) ≤ length l.code;
}

use Rattle.std.proofs.Common.{◌≡◌, ◌+◌, ◌*◌, ◌≤◌, length, drop}
use Rattle.fault_reasons.specs.AgainSeen.{again_seen}
use Rattle.fault_reasons.specs.Texts.{all_living}
use Rattle.fault_reasons.proofs.sums.count_living.Given as goal

abbrev pub invariant-loop-task : goal.invariant-loop-task
invariant-loop-task l = record {
  same : l.count + all_living (again_seen l.at) (drop l.task-index l.rest) ≡ all_living (again_seen l.at) (again_seen l.at).tasks;
  few : l.count + 256 * length (drop l.task-index l.rest) ≤ 256 * length (again_seen l.at).tasks;
}

use Rattle.std.proofs.Common.{◌≡◌, drop}
use Rattle.fault_reasons.specs.AgainSeen.{again_seen}
use Rattle.fault_reasons.specs.Texts.{fault_at}
use Rattle.fault_reasons.proofs.task.push_task_fault.Given as goal

abbrev pub invariant-loop-task : goal.invariant-loop-task
invariant-loop-task l = record {
  same : fault_at (again_seen l.at) l.path (drop l.task-index l.rest) ≡ fault_at (again_seen l.at) l.path (again_seen l.at).tasks;
  out : l.out ≡ l.fn.out;
}

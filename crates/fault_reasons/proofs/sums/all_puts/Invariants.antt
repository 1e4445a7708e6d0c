use Rattle.std.proofs.Common.{◌≡◌, ◌++◌, drop}
use Rattle.fault_reasons.specs.AgainSeen.{again_seen}
use Rattle.fault_reasons.specs.Texts.{all_puts}
use Rattle.fault_reasons.proofs.sums.all_puts.Given as goal

abbrev pub invariant-loop-task : goal.invariant-loop-task
invariant-loop-task l = l.puts.items ++ all_puts (again_seen l.at) (drop l.task-index l.rest) ≡ all_puts (again_seen l.at) (again_seen l.at).tasks

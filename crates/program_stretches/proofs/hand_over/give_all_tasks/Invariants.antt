use Rattle.std.proofs.Common.{◌≡◌, ◌++◌, ◌-◌, length, drop}
use Rattle.program_stretches.specs.Parts.{without_tasks, tasks_in, deeds_in}
use Rattle.program_stretches.proofs.Along.{half}
use Rattle.program_stretches.proofs.hand_over.give_all_tasks.Given as goal

abbrev pub invariant-loop-place : goal.invariant-loop-place
invariant-loop-place g l = record {
  parts : l.parts.items ≡ half without_tasks l.place l.fn.parts.items;
  tasks : l.tasks.items ++ tasks_in (drop l.place l.fn.parts.items) ≡ l.fn.tasks.items ++ tasks_in l.fn.parts.items;
  deeds : l.deeds ++ deeds_in (drop l.place l.fn.parts.items) ≡ l.fn.deeds ++ deeds_in l.fn.parts.items;
}

abbrev pub decreases-loop-place : goal.decreases-loop-place
decreases-loop-place g l = length l.parts.items - l.place

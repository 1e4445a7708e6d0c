use Rattle.std.proofs.Common.{◌≡◌, ◌++◌, List, length}
use Rattle.task_lang.specs.Meaning.{Plan}
use Rattle.programs.specs.Superstep.{prints_of}
use Rattle.step_core.specs.Slots.{slots_of, delivered}
use Rattle.step_core.proofs.closing.collect_prints.Given as goal

abbrev pub invariant-loop-slot : goal.invariant-loop-slot
invariant-loop-slot l =
    (ps : List Plan)
    → l.prints.items ++ prints_of l.step (delivered (slots_of ps l.rest)) ≡ prints_of l.step (delivered (slots_of ps l.fn.slots))

abbrev pub decreases-loop-slot : goal.decreases-loop-slot
decreases-loop-slot l = length l.rest

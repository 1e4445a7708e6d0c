use Rattle.std.proofs.Common.{◌≡◌, List, length}
use Rattle.task_lang.specs.Meaning.{Plan}
use Rattle.programs.specs.Superstep.{first_fault}
use Rattle.step_core.specs.Slots.{slots_of, delivered}
use Rattle.step_core.proofs.closing.find_fault.Given as goal

abbrev pub invariant-loop-slot : goal.invariant-loop-slot
invariant-loop-slot l = (ps : List Plan) → first_fault (delivered (slots_of ps l.rest)) ≡ first_fault (delivered (slots_of ps l.fn.slots))

abbrev pub decreases-loop-slot : goal.decreases-loop-slot
decreases-loop-slot l = length l.rest

use Rattle.std.proofs.Common.{◌≡◌, ◌≤◌, ◌+◌, ◌*◌, List, length}
use Rattle.task_lang.specs.Meaning.{Plan}
use Rattle.programs.specs.Superstep.{spawned, left}
use Rattle.step_core.specs.Slots.{slots_of, delivered}
use Rattle.step_core.specs.SlotParts.{AllSmall}
use Rattle.step_core.proofs.closing.record_of.Given as goal

abbrev pub invariant-loop-slot : goal.invariant-loop-slot
invariant-loop-slot l = record {
  count : (ps : List Plan) → l.count + length (delivered (slots_of ps l.rest)) ≡ length (delivered (slots_of ps l.fn.slots));
  left : (ps : List Plan) → l.left + left (delivered (slots_of ps l.rest)) ≡ left (delivered (slots_of ps l.fn.slots));
  spawned : (ps : List Plan) → l.spawned + spawned (delivered (slots_of ps l.rest)) ≡ spawned (delivered (slots_of ps l.fn.slots));
  few : l.count + length l.rest ≤ 4096;
  few_left : l.left + length l.rest ≤ 4096;
  few_spawned : l.spawned + 8 * length l.rest ≤ 32768;
  small : AllSmall l.rest;
}

abbrev pub decreases-loop-slot : goal.decreases-loop-slot
decreases-loop-slot l = length l.rest

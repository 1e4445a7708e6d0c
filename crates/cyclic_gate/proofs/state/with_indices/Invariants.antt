use Rattle.std.proofs.Common.{◌≡◌, ◌+◌, length, take}
use Rattle.cyclic_gate.specs.Steps.{indexed}
use Rattle.cyclic_gate.proofs.state.with_indices.Given as goal

abbrev pub invariant-loop-caller : goal.invariant-loop-caller
invariant-loop-caller l = record {
  counted : l.next + l.caller-index ≡ l.parties;
  whole : length l.waiting + 1 ≡ l.parties;
  listed : l.list.items ≡ indexed l.parties 0 (take l.caller-index l.waiting);
}

use Rattle.std.proofs.Common.{◌≡◌, ◌++◌, take, drop}
use Rattle.cyclic_gate.specs.Ledger.{end_of, read_by}
use Rattle.cyclic_gate.proofs.ledger.place_of.Given as goal

abbrev pub invariant-loop-end : goal.invariant-loop-end
invariant-loop-end l = record {
  counted : l.place ≡ l.end-index;
  outcome : end_of l.generation l.ends ≡ end_of l.generation (drop l.end-index l.ends);
  others : read_by l.generation l.ends ≡ take l.end-index l.ends ++ read_by l.generation (drop l.end-index l.ends);
}

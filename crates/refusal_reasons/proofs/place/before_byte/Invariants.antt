use Rattle.std.proofs.Common.{◌≡◌, ◌+◌, drop}
use Rattle.refusal_reasons.specs.Places.{before_byte}
use Rattle.refusal_reasons.proofs.place.before_byte.Given as goal

abbrev pub invariant-loop-other : goal.invariant-loop-other
invariant-loop-other l = record {
  same : l.before + before_byte l.byte (drop l.other-index l.line) ≡ before_byte l.byte l.line;
  at : l.before ≡ l.other-index;
}

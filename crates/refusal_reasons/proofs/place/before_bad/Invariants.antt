use Rattle.std.proofs.Common.{◌≡◌, ◌+◌, drop}
use Rattle.refusal_reasons.specs.Places.{before_bad}
use Rattle.refusal_reasons.proofs.place.before_bad.Given as goal

abbrev pub invariant-loop-byte : goal.invariant-loop-byte
invariant-loop-byte l = record {
  same : l.before + before_bad (drop l.byte-index l.line) ≡ before_bad l.line;
  at : l.before ≡ l.byte-index;
}

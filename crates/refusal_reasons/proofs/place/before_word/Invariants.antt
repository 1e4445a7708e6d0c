use Rattle.std.proofs.Common.{◌≡◌, ◌+◌, true, drop}
use Rattle.refusal_reasons.specs.Places.{before_word}
use Rattle.refusal_reasons.proofs.place.before_word.Given as goal

abbrev pub invariant-loop-byte : goal.invariant-loop-byte
invariant-loop-byte l = record {
  same : l.before + before_word l.spaced l.left (drop l.byte-index l.line) ≡ before_word true l.fn.number l.line;
  at : l.before ≡ l.byte-index;
}

use Rattle.std.proofs.Common.{◌≡◌, ◌+◌, [], drop}
use Rattle.job_reader.specs.Views.{lent}
use Rattle.refusal_reasons.specs.Marks.{repeated}
use Rattle.refusal_reasons.proofs.marks.repeated.Given as goal

abbrev pub invariant-loop-word : goal.invariant-loop-word
invariant-loop-word l = record {
  same : repeated (lent l.seen.items) l.at (lent (drop l.word-index l.words)) ≡ repeated [] l.first (lent l.words);
  at : l.at ≡ l.first + l.word-index;
}

use Rattle.std.proofs.Common.{◌≡◌, ◌+◌, drop}
use Rattle.job_reader.specs.Views.{lent}
use Rattle.refusal_reasons.specs.Marks.{name_mark}
use Rattle.refusal_reasons.proofs.marks.name_mark.Given as goal

abbrev pub invariant-loop-word : goal.invariant-loop-word
invariant-loop-word l = record {
  same : name_mark l.code l.at (lent (drop l.word-index l.words)) ≡ name_mark l.code l.first (lent l.words);
  at : l.at ≡ l.first + l.word-index;
}

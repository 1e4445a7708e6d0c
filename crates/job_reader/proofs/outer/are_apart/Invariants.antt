use Rattle.std.proofs.Common.{◌≡◌, drop, take}
use Rattle.job_reader.specs.Views.{lent}
use Rattle.job_reader.specs.Reading.{are_apart}
use Rattle.job_reader.proofs.ApartNames.{AreFound, apart_from}
use Rattle.job_reader.proofs.outer.are_apart.Given as goal

abbrev pub invariant-loop-word : goal.invariant-loop-word
invariant-loop-word l = record {
  found : AreFound l.seen (lent (take l.word-index l.words));
  rest : are_apart (lent l.words) ≡ apart_from (lent (take l.word-index l.words)) (lent (drop l.word-index l.words));
}

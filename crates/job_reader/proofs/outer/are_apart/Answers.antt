use Rattle.std.proofs.Common.{ap}
use Rattle.std.specs.List.{list_any}
use Rattle.job_reader.specs.Views.{lent}
use Rattle.job_reader.proofs.ApartNames.{word_eq, apart-begins, apart-next}
use Rattle.job_reader.proofs.outer.are_apart.Goals as goal

pub loop-word-init : goal.loop-word-init
loop-word-init c = record {
  found = λ w. ap (list_any (word_eq w)) c.new-seen.ensures.empty;
  rest = apart-begins (lent c.args.words.now);
}

pub loop-word-preserved : goal.loop-word-preserved
loop-word-preserved c =
    let next =
    apart-next c.loop-word.seen c.insert.new.self c.args.words.now c.loop-word.word-index _ _ c.in_ok-insert.field-0 c.loop-word-test.true
    c.in_ok-insert.ensures.added c.if-not-branch.false c.in_ok-insert.ensures.updates c.loop-word.invariant.found
    c.loop-word.invariant.rest in
    record { found = next.0; rest = next.1 }

use Rattle.std.proofs.Common.{◌∙◌, rules}
use Rattle.tier_table.proofs.waiting.pass_once.Goals as goal

pub settle_wait-requires-clause-own : goal.settle_wait-requires-clause-own
settle_wait-requires-clause-own g c = c.in-Owing.ensures.answer.0.tree ∙ c.requires.own

pub settle_wait-requires-clause-rule : goal.settle_wait-requires-clause-rule
settle_wait-requires-clause-rule g c = c.requires.rule

pub returns-in-Done : goal.returns-in-Done
returns-in-Done g c =
    let reported = c.in-Done.ensures.answer in
    record {
      some = c.size.ensures.some;
      answer = (reported.0.tree, reported.1, reported.2, reported.3, reported.4);
      waited = c.in-Done.ensures.waited;
      unsplit = reported.0.opened;
      made = reported.5;
      ended = λ p e. absurd (c.in-Done.ensures.ended p e);
    }

pub returns-in-Left : goal.returns-in-Left
returns-in-Left g c =
    let reported = c.in-Left.ensures.answer in
    record {
      some = c.size.ensures.some;
      answer = (reported.0, reported.1.tree, reported.2, reported.3, reported.4, reported.5);
      waited = c.in-Left.ensures.waited;
      unsplit = reported.1.opened;
      made = reported.6;
      ended = λ p e. absurd (c.in-Left.ensures.ended p e);
    }

pub returns-in-AlreadyArrived : goal.returns-in-AlreadyArrived
returns-in-AlreadyArrived g c =
    let reported = c.in-AlreadyArrived.ensures.answer in
    record {
      some = c.size.ensures.some;
      answer = (reported.0.tree, reported.1, reported.2, reported.3, reported.4);
      waited = tt;
      unsplit = reported.0.opened;
      made = c.in-AlreadyArrived.ensures.found;
      ended = λ p e. absurd (c.in-AlreadyArrived.ensures.ended p e);
    }

pub returns-in-Ended : goal.returns-in-Ended
returns-in-Ended g c = let reported = c.in-Ended.ensures.answer in
    record {
      some = c.size.ensures.some;
      answer = (reported.0.tree, reported.1, (reported.2.0, reported.2.1, search rules));
      waited = tt;
      unsplit = reported.0.opened;
      made = reported.3;
      ended = λ p e. tt;
    }

pub returns-in-Busy : goal.returns-in-Busy
returns-in-Busy g c =
    let reported = c.in-Busy.ensures.answer in
    record {
      some = c.size.ensures.some;
      answer = (reported.0.tree, reported.1);
      waited = tt;
      unsplit = reported.0.opened;
      made = record { looked = reported.3; some = c.in-Busy.ensures.found };
      ended = λ p e. absurd (c.in-Busy.ensures.ended p e);
    }

pub returns-in-Owing : goal.returns-in-Owing
returns-in-Owing g c =
    let some = c.size.ensures.some in
    let owed = c.in-Owing.ensures.answer in
    record {
      some = some;
      answer = c.settle_wait.ensures.answer c.args.crew some owed.0.tree owed.1;
      waited = c.settle_wait.ensures.waited;
      unsplit = c.settle_wait.ensures.unsplit ∙ owed.0.opened;
      made = c.settle_wait.ensures.made c.args.crew.steps owed.4;
      ended = λ p e. absurd (c.in-Owing.ensures.ended p e);
    }

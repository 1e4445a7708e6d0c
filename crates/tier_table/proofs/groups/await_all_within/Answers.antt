use Rattle.std.proofs.Common.{◌∙◌, rules}
use Rattle.std.proofs.lemmas.Bool.{false≢true}
use Rattle.tier_table.proofs.GroupsLasting.{waited_first, waited_more, waits_all}
use Rattle.tier_table.proofs.groups.await_all_within.Goals as goal

pub loop-init : goal.loop-init
loop-init g c = (tt, tt, waited_first c.args.group.now, λ p e. e)

pub poll_all-requires : goal.poll_all-requires
poll_all-requires g c = record { own = c.loop.invariant.2.tree ∙ c.requires.own }

pub loop-preserved : goal.loop-preserved
loop-preserved g c =
    let reported = c.in-Waiting.ensures.answer in
    let kept = c.loop.invariant.2 in (
      tt,
      tt,
      waited_more 1 (kept.view.size ∙ c.size.ensures.one) kept reported.0 reported.1 reported.3 reported.4,
      λ p e. absurd (c.in-Waiting.ensures.ended p (c.loop.invariant.3 p e)),
    )

pub loop-preserved-derived : goal.loop-preserved-derived
loop-preserved-derived g c = (tt, tt)

pub returns-in-Passed-clause-answer : goal.returns-in-Passed-clause-answer
returns-in-Passed-clause-answer g c =
    record {
      last = c.loop.group;
      waited = c.loop.invariant.2;
      polls = c.in-Passed.ensures.answer;
      all = c.in-Passed.ensures.waited;
      caught_up = c.in-Passed.ensures.caught_up;
    }

pub returns-in-Here-clause-answer : goal.returns-in-Here-clause-answer
returns-in-Here-clause-answer g c =
    record {
      last = c.loop.group;
      waited = c.loop.invariant.2;
      polls = c.in-Here.ensures.answer;
      all = tt;
      caught_up = c.in-Here.ensures.caught_up;
    }

pub returns-in-Ended-clause-answer : goal.returns-in-Ended-clause-answer
returns-in-Ended-clause-answer g c = let reported = c.in-Ended.ensures.answer in
    record {
      last = c.loop.group;
      waited = c.loop.invariant.2;
      polls = (reported.0, reported.1, (reported.2.0, reported.2.1, search rules), reported.3);
      all = c.in-Ended.ensures.waited;
      caught_up = tt;
    }

pub unreachable-requires : goal.unreachable-requires
unreachable-requires g c = false≢true c.in-None.ensures.steps

pub returns-in-Passed-clause-tree : goal.returns-in-Passed-clause-tree
returns-in-Passed-clause-tree g c = c.in-Passed.ensures.answer.0 ∙ c.loop.invariant.2.tree

pub returns-in-Here-clause-tree : goal.returns-in-Here-clause-tree
returns-in-Here-clause-tree g c = c.in-Here.ensures.answer.0 ∙ c.loop.invariant.2.tree

pub returns-in-Ended-clause-tree : goal.returns-in-Ended-clause-tree
returns-in-Ended-clause-tree g c = c.in-Ended.ensures.answer.0 ∙ c.loop.invariant.2.tree

pub returns-in-Passed-clause-ended : goal.returns-in-Passed-clause-ended
returns-in-Passed-clause-ended g c = λ p e. absurd (c.in-Passed.ensures.ended p (c.loop.invariant.3 p e))

pub returns-in-Here-clause-ended : goal.returns-in-Here-clause-ended
returns-in-Here-clause-ended g c = λ p e. absurd (c.in-Here.ensures.ended p (c.loop.invariant.3 p e))

pub returns-in-Ended-clause-ended : goal.returns-in-Ended-clause-ended
returns-in-Ended-clause-ended g c = λ p e. tt

pub returns-then-is_err-clause-answer : goal.returns-then-is_err-clause-answer
returns-then-is_err-clause-answer g c =
    let reported = c.in-Waiting.ensures.answer in
    let kept = c.loop.invariant.2 in
    waits_all 1 (kept.view.size ∙ c.size.ensures.one) kept reported.0 reported.1 reported.2 reported.3 reported.4

pub returns-then-is_err-clause-tree : goal.returns-then-is_err-clause-tree
returns-then-is_err-clause-tree g c = c.in-Waiting.ensures.answer.0 ∙ c.loop.invariant.2.tree

pub returns-then-is_err-clause-ended : goal.returns-then-is_err-clause-ended
returns-then-is_err-clause-ended g c = λ p e. absurd (c.in-Waiting.ensures.ended p (c.loop.invariant.3 p e))

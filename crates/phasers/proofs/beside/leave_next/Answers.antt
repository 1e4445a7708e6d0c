use Rattle.std.proofs.Common.{arith, rules}
use Rattle.tier_table.specs.declared.waiting.AwaitedAdvance.TheVariants as awaited
use Rattle.phasers.proofs.beside.leave_next.Goals as goal

pub leave_now-requires-clause-some : goal.leave_now-requires-clause-some
leave_now-requires-clause-some g c = let reported = c.in-Passed.ensures.answer in
    let a = reported.0.size in
    let b = reported.2.nobody in
    let d = c.size.ensures.some in
    omega arith

pub returns-in-Passed-clause-answer : goal.returns-in-Passed-clause-answer
returns-in-Passed-clause-answer g c = record {
  next = c.await_advance.new.crew;
  came = awaited.Passed c.in-Passed.field-0;
  tree = c.in-Passed.ensures.tree;
  awaits = c.in-Passed.ensures.answer;
  waited = c.in-Passed.ensures.waited;
  looked = c.in-Passed.ensures.made;
  departs = c.leave_now.ensures.answer;
}

pub returns-in-Here-clause-answer : goal.returns-in-Here-clause-answer
returns-in-Here-clause-answer g c = record {
  next = c.await_advance.new.crew;
  came = awaited.Here c.in-Here.field-0;
  tree = c.in-Here.ensures.tree;
  awaits = c.in-Here.ensures.answer;
  waited = c.in-Here.ensures.waited;
  looked = c.in-Here.ensures.made;
  departs = c.leave_now-in-Here.ensures.answer;
}

pub returns-in-Ended-clause-answer : goal.returns-in-Ended-clause-answer
returns-in-Ended-clause-answer g c = record {
  next = c.await_advance.new.crew;
  came = awaited.Ended c.in-Ended.shown;
  tree = c.in-Ended.ensures.tree;
  awaits = c.in-Ended.ensures.answer;
  waited = c.in-Ended.ensures.waited;
  looked = c.in-Ended.ensures.made;
  departs = search rules;
}

use Rattle.std.proofs.Common.{◌≡◌, ◌∙◌, arith, drop, []}
use Rattle.std.proofs.lemmas.List.{drop_more}
use Rattle.std.proofs.lemmas.Grind.{common_steps}
use Rattle.phaser_one.proofs.RunProofs.{runs_more, runs_whole}
use Rattle.phaser_one.proofs.phaser.PhaserOne.call_all.Goals as goal

pub loop-call-preserved : goal.loop-call-preserved
loop-call-preserved g c = record {
  follows = λ f a.
      rw c.push_reserved.ensures.items
      (runs_more _ _ _ _ _ _ _ _ _ _ (drop_more _ _ _ c.loop-call-test.true) (rw c.loop-call.invariant.rule at c.call-reply.ensures.flat) (c.loop-call.invariant.follows f a));
  rule = c.call-reply.ensures.rule ∙ c.loop-call.invariant.rule;
  capacity = c.push_reserved.ensures.capacity ∙ c.loop-call.invariant.capacity;
  count = omega (arith, c.push_reserved.ensures.len, c.loop-call.invariant.count);
}

pub returns-clause-flat : goal.returns-clause-flat
returns-clause-flat g c = λ f a.
    let none : drop c.loop-call.call-index c.args.calls.now ≡ [] = grind (arith, common_steps) in
    runs_whole _ _ _ _ _ _ none (c.loop-call.invariant.follows f a)

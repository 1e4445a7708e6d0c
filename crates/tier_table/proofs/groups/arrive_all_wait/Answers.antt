use Rattle.std.proofs.Common.{◌∙◌, refl, inl, inr, arith}
use Rattle.std.proofs.lemmas.Bool.{false≢true}
use Rattle.tier_table.proofs.GroupsLasting.{before_more, before_tree, all_before, all_tree}
use Rattle.tier_table.proofs.groups.arrive_all_wait.Goals as goal

pub loop-init : goal.loop-init
loop-init g c = (tt, tt, inl refl, λ p e. e)

pub arrive_all_once-requires-clause-own : goal.arrive_all_once-requires-clause-own
arrive_all_once-requires-clause-own g c = before_tree c.loop.invariant.2 ∙ c.requires.own

pub arrive_all_once-requires-clause-rule : goal.arrive_all_once-requires-clause-rule
arrive_all_once-requires-clause-rule g c = c.requires.rule

pub loop-preserved : goal.loop-preserved
loop-preserved g c = (
  tt,
  tt,
  inr (before_more (let a = c.arrive_all_once.ensures.one in omega arith) c.loop.invariant.2 c.in-Err.ensures.answer),
  λ p e. absurd (c.in-Err.ensures.ended p (c.loop.invariant.3 p e)),
)

pub loop-preserved-derived : goal.loop-preserved-derived
loop-preserved-derived g c = (tt, tt)

pub returns-in-Ok-clause-answer : goal.returns-in-Ok-clause-answer
returns-in-Ok-clause-answer g c =
    all_before 16 c.args.group c.loop.group c.in-Ok.answer (let a = c.arrive_all_once.ensures.one in omega arith) c.loop.invariant.2
    c.in-Ok.ensures.answer

pub unreachable-requires : goal.unreachable-requires
unreachable-requires g c = false≢true c.in-None.ensures.steps

pub returns-in-Ok-clause-tree : goal.returns-in-Ok-clause-tree
returns-in-Ok-clause-tree g c = all_tree 16 c.loop.group c.in-Ok.answer c.in-Ok.ensures.answer ∙ before_tree c.loop.invariant.2

pub returns-in-Ok-clause-ended : goal.returns-in-Ok-clause-ended
returns-in-Ok-clause-ended g c = λ p e. c.in-Ok.ensures.ended p (c.loop.invariant.3 p e)

use Rattle.std.proofs.Common.{◌∙◌, refl, inl, inr, arith}
use Rattle.std.proofs.lemmas.Bool.{false≢true}
use Rattle.tier_table.proofs.GroupsLasting.{before_more, before_tree, before_long, with_before, with_tree, split_first, split_then}
use Rattle.tier_table.proofs.groups.arrive_with_wait.Goals as goal

pub loop-init : goal.loop-init
loop-init g c = (tt, tt, inl refl, split_first c.args.door.now, λ p e. e)

pub arrive_with_once-requires-clause-own : goal.arrive_with_once-requires-clause-own
arrive_with_once-requires-clause-own g c = (c.loop.invariant.3.tree ∙ c.requires.own.0, before_tree c.loop.invariant.2 ∙ c.requires.own.1)

pub arrive_with_once-requires-clause-few : goal.arrive_with_once-requires-clause-few
arrive_with_once-requires-clause-few g c = let a = before_long c.loop.invariant.2 in let b = c.requires.few in omega arith

pub arrive_with_once-requires-clause-come : goal.arrive_with_once-requires-clause-come
arrive_with_once-requires-clause-come g c = let a = before_long c.loop.invariant.2 in let b = c.requires.come in omega arith

pub arrive_with_once-requires-clause-rule : goal.arrive_with_once-requires-clause-rule
arrive_with_once-requires-clause-rule g c = c.requires.rule

pub loop-preserved : goal.loop-preserved
loop-preserved g c = (
  tt,
  tt,
  inr (before_more (let a = c.arrive_with_once.ensures.one in omega arith) c.loop.invariant.2 c.in-Err.ensures.answer),
  split_then c.loop.invariant.3 c.arrive_with_once.ensures.door,
  λ p e. absurd (c.in-Err.ensures.ended p (c.loop.invariant.4 p e)),
)

pub loop-preserved-derived : goal.loop-preserved-derived
loop-preserved-derived g c = (tt, tt)

pub returns-in-Ok-clause-answer : goal.returns-in-Ok-clause-answer
returns-in-Ok-clause-answer g c =
    with_before 16 c.args.joining c.args.leaving c.args.group c.loop.group c.in-Ok.answer
    (let a = c.arrive_with_once.ensures.one in omega arith) c.loop.invariant.2 c.in-Ok.ensures.answer

pub returns-in-Ok-clause-door : goal.returns-in-Ok-clause-door
returns-in-Ok-clause-door g c = split_then c.loop.invariant.3 c.arrive_with_once.ensures.door

pub unreachable-requires : goal.unreachable-requires
unreachable-requires g c = false≢true c.in-None.ensures.steps

pub returns-in-Ok-clause-tree : goal.returns-in-Ok-clause-tree
returns-in-Ok-clause-tree g c =
    with_tree 16 c.args.joining c.args.leaving c.loop.group c.in-Ok.answer c.in-Ok.ensures.answer ∙ before_tree c.loop.invariant.2

pub returns-in-Ok-clause-ended : goal.returns-in-Ok-clause-ended
returns-in-Ok-clause-ended g c = λ p e. c.in-Ok.ensures.ended p (c.loop.invariant.4 p e)

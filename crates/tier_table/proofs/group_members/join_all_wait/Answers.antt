use Rattle.std.proofs.Common.{arith, inr, ◌∙◌}
use Rattle.tier_table.proofs.GroupsLasting.{before_more, before_tree, split_then}
use Rattle.tier_table.proofs.GroupMembers.{joins_before, joins_tree}
use Rattle.tier_table.proofs.group_members.join_all_wait.Goals as goal

pub loop-preserved : goal.loop-preserved
loop-preserved g c = (
  tt,
  tt,
  inr (before_more (let a = c.join_all_once.ensures.one in omega arith) c.loop.invariant.2 c.in-Err.ensures.answer),
  split_then c.loop.invariant.3 c.join_all_once.ensures.door,
  λ p e. absurd (c.in-Err.ensures.ended p (c.loop.invariant.4 p e)),
)

pub returns-in-Ok-clause-answer : goal.returns-in-Ok-clause-answer
returns-in-Ok-clause-answer g c =
    joins_before 16 c.args.n c.args.group c.loop.group c.in-Ok.answer (let a = c.join_all_once.ensures.one in omega arith)
    c.loop.invariant.2 c.in-Ok.ensures.answer

pub returns-in-Ok-clause-tree : goal.returns-in-Ok-clause-tree
returns-in-Ok-clause-tree g c = joins_tree 16 c.args.n c.loop.group c.in-Ok.answer c.in-Ok.ensures.answer ∙ before_tree c.loop.invariant.2

pub returns-in-Ok-clause-ended : goal.returns-in-Ok-clause-ended
returns-in-Ok-clause-ended g c = λ p e. c.in-Ok.ensures.ended p (c.loop.invariant.4 p e)

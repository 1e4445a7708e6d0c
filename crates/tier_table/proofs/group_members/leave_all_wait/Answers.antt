use Rattle.std.proofs.Common.{arith, inr, ◌∙◌}
use Rattle.tier_table.proofs.GroupsLasting.{before_more, before_tree}
use Rattle.tier_table.proofs.GroupMembers.{leaves_before, leaves_tree}
use Rattle.tier_table.proofs.group_members.leave_all_wait.Goals as goal

pub loop-preserved : goal.loop-preserved
loop-preserved g c = (
  tt,
  tt,
  inr (before_more (let a = c.leave_all_once.ensures.one in omega arith) c.loop.invariant.2 c.in-Err.ensures.answer),
  λ p e. absurd (c.in-Err.ensures.ended p (c.loop.invariant.3 p e)),
)

pub returns-in-Ok-clause-answer : goal.returns-in-Ok-clause-answer
returns-in-Ok-clause-answer g c =
    leaves_before 16 c.args.group c.loop.group c.in-Ok.answer (let a = c.leave_all_once.ensures.one in omega arith) c.loop.invariant.2
    c.in-Ok.ensures.answer

pub returns-in-Ok-clause-tree : goal.returns-in-Ok-clause-tree
returns-in-Ok-clause-tree g c = leaves_tree 16 c.loop.group c.in-Ok.answer c.in-Ok.ensures.answer ∙ before_tree c.loop.invariant.2

pub returns-in-Ok-clause-ended : goal.returns-in-Ok-clause-ended
returns-in-Ok-clause-ended g c = λ p e. c.in-Ok.ensures.ended p (c.loop.invariant.3 p e)

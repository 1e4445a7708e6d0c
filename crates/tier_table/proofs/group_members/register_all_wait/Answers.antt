use Rattle.std.proofs.Common.{arith}
use Rattle.tier_table.proofs.GroupMembers.{others_at_last, registers_tree}
use Rattle.tier_table.proofs.group_members.register_all_wait.Goals as goal

pub returns-else-n-eq1-clause-answer : goal.returns-else-n-eq1-clause-answer
returns-else-n-eq1-clause-answer g c =
    others_at_last c.args.tier c.args.n 16 c.in-Joined.phase c.args.tiers.now c.in-Joined.crew
    (let a = c.if-n-eq1.false in let b = c.requires.some in omega arith) c.in-Joined.ensures.answer c.join_others.result
    c.join_others.ensures

pub returns-else-n-eq1-clause-tree : goal.returns-else-n-eq1-clause-tree
returns-else-n-eq1-clause-tree g c =
    registers_tree 16 c.args.tier c.args.n c.args.tiers.now c.join_others.result
    (others_at_last c.args.tier c.args.n 16 c.in-Joined.phase c.args.tiers.now c.in-Joined.crew
    (let a = c.if-n-eq1.false in let b = c.requires.some in omega arith) c.in-Joined.ensures.answer c.join_others.result
    c.join_others.ensures)

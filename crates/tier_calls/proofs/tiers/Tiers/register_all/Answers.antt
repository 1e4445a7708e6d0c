use Rattle.std.proofs.Common.{arith}
use Rattle.tier_calls.proofs.Registering.{others_all}
use Rattle.tier_calls.proofs.tiers.Tiers.register_all.Goals as goal

pub returns-else-n-eq1-clause-answer : goal.returns-else-n-eq1-clause-answer
returns-else-n-eq1-clause-answer c =
    others_all {n = c.args.n} {at = c.in-Joined.phase} (let a = c.if-n-eq1.false in let b = c.requires.some in omega arith)
    (record { answer = c.in-Joined.ensures.answer; made = c.in-Joined.ensures.made }) c.join_others.result c.join_others.ensures

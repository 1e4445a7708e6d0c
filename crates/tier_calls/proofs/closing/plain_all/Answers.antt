use Rattle.std.proofs.Common.{arith}
use Rattle.std.proofs.lemmas.Grind.{common_steps}
use Rattle.tier_calls.proofs.closing.plain_all.Goals as goal

pub loop-token-preserved : goal.loop-token-preserved
loop-token-preserved = grind (arith, common_steps)

pub push_reserved-requires : goal.push_reserved-requires
push_reserved-requires = grind (arith, common_steps)

use Rattle.std.proofs.Common.{arith}
use Rattle.std.proofs.lemmas.Grind.{common_steps}
use Rattle.tier_calls.proofs.closing.plain_groups.Goals as goal

pub loop-group-preserved : goal.loop-group-preserved
loop-group-preserved = grind (arith, common_steps)

pub push_reserved-requires : goal.push_reserved-requires
push_reserved-requires = grind (arith, common_steps)

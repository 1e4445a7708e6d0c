use Rattle.std.proofs.Common.{arith}
use Rattle.std.proofs.lemmas.Grind.{common_steps}
use Rattle.program_stretches.proofs.cut.set_bounds.Goals as goal

pub loop-place-preserved : goal.loop-place-preserved
loop-place-preserved = grind (arith, common_steps)

use Rattle.std.proofs.Common.{arith}
use Rattle.tier_shape.proofs.Going.{goes_up}
use Rattle.tier_shape.proofs.paths_go_up.Goals as goal

pub returns : goal.returns
returns c = λ parents tier shape within. goes_up tier parents tier shape within (omega arith)

use Rattle.program_stretches.proofs.Refusing.{refused}
use Rattle.program_stretches.proofs.laws.stretches_are_refused_in_order.Goals as goal

pub returns : goal.returns
returns g c = refused

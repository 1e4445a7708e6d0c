use Rattle.tier_laws.proofs.Rounding.{advances_begin_the_phase}
use Rattle.tier_laws.proofs.holds.advances_begin_the_phase.Goals as goal

pub returns : goal.returns
returns c = advances_begin_the_phase

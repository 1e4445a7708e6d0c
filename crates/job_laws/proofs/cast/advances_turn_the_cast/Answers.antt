use Rattle.job_laws.proofs.Casting.{advances_turn_the_cast}
use Rattle.job_laws.proofs.cast.advances_turn_the_cast.Goals as goal

pub returns : goal.returns
returns c = advances_turn_the_cast

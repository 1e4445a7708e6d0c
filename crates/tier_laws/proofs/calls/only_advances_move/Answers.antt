use Rattle.tier_laws.proofs.Stepping.{only_advances_move}
use Rattle.tier_laws.proofs.calls.only_advances_move.Goals as goal

pub returns : goal.returns
returns c = only_advances_move

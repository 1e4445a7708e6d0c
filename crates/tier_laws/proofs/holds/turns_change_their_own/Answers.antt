use Rattle.tier_laws.proofs.Framing.{turns_change_their_own}
use Rattle.tier_laws.proofs.holds.turns_change_their_own.Goals as goal

pub returns : goal.returns
returns c = turns_change_their_own

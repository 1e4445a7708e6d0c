use Rattle.tier_laws.proofs.Alone.{nobody_must_advance}
use Rattle.tier_laws.proofs.holds.nobody_must_advance.Goals as goal

pub returns : goal.returns
returns c = nobody_must_advance

use Rattle.tier_laws.proofs.Members.{joins_place_at_once}
use Rattle.tier_laws.proofs.calls.joins_place_at_once.Goals as goal

pub returns : goal.returns
returns c = joins_place_at_once

use Rattle.tier_laws.proofs.Once.{joins_place_where_asked}
use Rattle.tier_laws.proofs.answers.joins_place_where_asked.Goals as goal

pub returns : goal.returns
returns c = joins_place_where_asked

use Rattle.tier_laws.proofs.Members.{climbs_keep_members}
use Rattle.tier_laws.proofs.calls.climbs_keep_members.Goals as goal

pub returns : goal.returns
returns c = climbs_keep_members

use Rattle.tier_laws.proofs.Members.{advances_keep_members}
use Rattle.tier_laws.proofs.calls.advances_keep_members.Goals as goal

pub returns : goal.returns
returns c = advances_keep_members

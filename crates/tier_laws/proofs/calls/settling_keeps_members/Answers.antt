use Rattle.tier_laws.proofs.Members.{settling_keeps_members}
use Rattle.tier_laws.proofs.calls.settling_keeps_members.Goals as goal

pub returns : goal.returns
returns c = settling_keeps_members

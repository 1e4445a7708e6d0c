use Rattle.tier_laws.proofs.Members.{joins_begin_with_a_look}
use Rattle.tier_laws.proofs.calls.joins_begin_with_a_look.Goals as goal

pub returns : goal.returns
returns c = joins_begin_with_a_look

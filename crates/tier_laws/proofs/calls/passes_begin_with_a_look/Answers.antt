use Rattle.tier_laws.proofs.Members.{passes_begin_with_a_look}
use Rattle.tier_laws.proofs.calls.passes_begin_with_a_look.Goals as goal

pub returns : goal.returns
returns c = passes_begin_with_a_look

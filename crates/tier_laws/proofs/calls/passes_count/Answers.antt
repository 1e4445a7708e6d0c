use Rattle.tier_laws.proofs.Members.{passes_count}
use Rattle.tier_laws.proofs.calls.passes_count.Goals as goal

pub returns : goal.returns
returns c = passes_count

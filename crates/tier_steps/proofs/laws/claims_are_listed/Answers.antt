use Rattle.tier_steps.proofs.Path.{claims_are_listed}
use Rattle.tier_steps.proofs.laws.claims_are_listed.Goals as goal

pub returns : goal.returns
returns c = claims_are_listed

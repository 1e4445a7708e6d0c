use Rattle.tier_laws.proofs.Holding.{members_are_the_tokens}
use Rattle.tier_laws.proofs.holds.members_are_the_tokens.Goals as goal

pub returns : goal.returns
returns c = members_are_the_tokens

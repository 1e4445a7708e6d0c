use Rattle.tier_calls.proofs.Breaking.{forced_on}
use Rattle.tier_calls.proofs.tiers.Tiers.force_on.Goals as goal

pub returns-in-Ended-clause-made : goal.returns-in-Ended-clause-made
returns-in-Ended-clause-made c =
    forced_on c.force_once-forced.result c.force_once-forced.new.door.steps c.loop.invariant.4 c.force_once-forced.ensures.made

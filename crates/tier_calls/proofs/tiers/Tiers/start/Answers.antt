use Rattle.std.proofs.Common.{ap}
use Rattle.tier_core.specs.Machine.{is_going}
use Rattle.tier_calls.proofs.Tries.{ran_more}
use Rattle.tier_calls.proofs.tiers.Tiers.start.Goals as goal

pub returns-clause-ran : goal.returns-clause-ran
returns-clause-ran g c = ran_more c.pass_own.ensures (ap is_going c.in-Due.is) c.advance.ensures

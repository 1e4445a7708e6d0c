use Rattle.tier_calls.proofs.StayingHere.{refresh_needs, refresh_kept}
use Rattle.tier_calls.proofs.tiers.Tiers.refresh_here.Goals as goal

pub returns : goal.returns
returns c = refresh_kept c.attempt.result c.requires.crew c.requires.some c.requires.tier c.attempt.ensures

pub attempt-requires-clause-needs : goal.attempt-requires-clause-needs
attempt-requires-clause-needs c = refresh_needs c.args.self.now.key.shape c.requires.crew c.requires.some c.requires.tier c.requires.lags

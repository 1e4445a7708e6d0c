use Rattle.std.proofs.Common.{ap, ◌∙◌}
use Rattle.tier_rule.specs.Look.{glance}
use Rattle.tier_calls.proofs.StayingHere.{stay_kept}
use Rattle.tier_calls.proofs.tiers.Tiers.stay_here.Goals as goal

pub returns : goal.returns
returns c =
    stay_kept c.attempt.result c.plain_look-kind.result (c.plain_look-kind.ensures ∙ ap glance c.tier.ensures) c.requires.crew
    c.requires.some c.requires.tier c.attempt.ensures

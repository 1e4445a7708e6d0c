use Rattle.std.proofs.Common.{◌∙◌}
use Rattle.job_schedule.proofs.Deeds.{deed_delivered}
use Rattle.job_schedule.proofs.rounds.segment_for.Goals as goal

pub returns-clause-deed : goal.returns-clause-deed
returns-clause-deed c =
    deed_delivered c.args.round.now c.in_ok-delivery.delivery c.args.path.now c.has_ended-known.ensures.round c.requires.wanted.runs
    c.path-own.ensures.known
    (c.in_ok-delivery.ensures.job ∙ c.in_ok-order.ensures.job)
    (c.in_ok-delivery.ensures.step ∙ c.in_ok-order.ensures.step)
    (c.in_ok-delivery.ensures.path ∙ c.in_ok-order.ensures.path)

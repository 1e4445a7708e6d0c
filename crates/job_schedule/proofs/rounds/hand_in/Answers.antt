use Rattle.job_schedule.proofs.Deeds.{as_before}
use Rattle.job_schedule.proofs.rounds.hand_in.Goals as goal

pub returns-clause-taken : goal.returns-clause-taken
returns-clause-taken c = record {
  delivery = c.in_ok-delivery.delivery;
  own = c.in_ok-delivery.ensures.path;
  takes = c.in-Ok.ensures.taken;
  added = c.in-Ok.ensures.added;
}

pub returns-clause-round : goal.returns-clause-round
returns-clause-round c = as_before c.args.round.now c.accept_known.new.self c.in_ok-delivery.delivery c.in-Ok.ensures.added

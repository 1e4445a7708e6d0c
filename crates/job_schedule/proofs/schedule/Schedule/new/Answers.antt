use Rattle.std.proofs.Common.{◌≡◌, ◌∙◌, sym, subst}
use Rattle.step_core.specs.RoundValue.{RoundValue}
use Rattle.job_schedule.specs.Parts.{IsKept, world_of}
use Rattle.job_schedule.proofs.Kept.{initial_kept}
use Rattle.job_schedule.proofs.Initial.{opens}
use Rattle.job_schedule.proofs.schedule.Schedule.new.Goals as goal

pub returns-clause-world : goal.returns-clause-world
returns-clause-world c =
    opens c.args.job.now c.args.limit c.args.shape (world_of c.in_ok-schedule.schedule) (world_of c.start_live.new.self)
    (c.in_ok-schedule.ensures.world c.args.job.now c.in_ok-round.ensures) c.in_ok-start_live.ensures.world

pub returns-clause-kept : goal.returns-clause-kept
returns-clause-kept c =
    let same : c.start_live.new.self.round ≡ c.in_ok-round.round = c.in_ok-start_live.ensures.round ∙ c.in_ok-schedule.ensures.round in
    subst (λ (r : RoundValue). IsKept r (world_of c.start_live.new.self)) (sym same)
    (initial_kept c.args.job.now c.args.limit c.args.shape c.in_ok-round.round (world_of c.start_live.new.self) c.requires.some c.in_ok-round.ensures (returns-clause-world c))

use Rattle.std.proofs.Common.{◌∙◌, ◌-◌, ap, sym, arith}
use Rattle.job_schedule.specs.World.{gone}
use Rattle.job_schedule.proofs.Initial.{gone_one}
use Rattle.job_schedule.proofs.schedule.go_steps.Goals as goal

pub loop-left-preserved : goal.loop-left-preserved
loop-left-preserved c =
    ap (gone (c.loop-left.left - 1) c.args.token) c.step.ensures.after
    ∙ sym (gone_one c.loop-left.left c.args.token c.loop-left.core (omega (arith, c.loop-left-test.true)))
    ∙ c.loop-left.invariant

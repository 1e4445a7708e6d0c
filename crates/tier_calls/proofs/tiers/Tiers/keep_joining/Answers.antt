use Rattle.tier_calls.proofs.Greeting.{rounds_answer, spent_then, around_then}
use Rattle.tier_calls.proofs.tiers.Tiers.keep_joining.Goals as goal

pub returns-in_default : goal.returns-in_default
returns-in_default c =
    rounds_answer c.join_once.new.crew c.args.size c.join_once.result (λ after e. c.in_default.not-Busy after e) c.loop.invariant.0
    c.loop-test.true c.join_once.ensures

pub loop-preserved : goal.loop-preserved
loop-preserved c =
    let m = c.in-Busy.ensures in
    (spent_then c.loop.invariant.0 m.0, around_then c.loop.invariant.1 m.1, m.2)

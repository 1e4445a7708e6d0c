use Rattle.std.proofs.Common.{◌+◌, ◌≤◌, arith}
use Rattle.step_core.proofs.Stepped.{ended_on, more_on}
use Rattle.step_core.proofs.steps.JobSteps.advance.Goals as goal

pub returns-then-branch : goal.returns-then-branch
returns-then-branch c =
    let le : c.loop.counter + 1 ≤ c.args.count = omega (arith, c.loop-test.true) in
    ended_on (c.loop.counter + 1) c.args.count c.args.self.now c.step_and_discard.new.self
    (more_on c.loop.counter c.args.self.now c.loop.self c.step_and_discard.new.self c.loop.invariant c.in_ok-step_and_discard.ensures.later)
    (c.in_ok-step_and_discard.ensures.over c.if-branch.true) le

use Rattle.std.proofs.Common.{◌≡◌}
use Rattle.job_schedule.specs.World.{gone}
use Rattle.job_schedule.proofs.schedule.go_steps.Given as goal

abbrev pub invariant-loop-left : goal.invariant-loop-left
invariant-loop-left l = gone l.left l.token l.core ≡ gone l.fn.steps l.token l.fn.core

abbrev pub decreases-loop-left : goal.decreases-loop-left
decreases-loop-left l = l.left

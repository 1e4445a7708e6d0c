use Rattle.step_core.specs.JobRun.{IsLater}
use Rattle.step_core.proofs.steps.JobSteps.advance.Given as goal

abbrev pub invariant-loop : goal.invariant-loop
invariant-loop l = IsLater l.counter l.fn.self l.self

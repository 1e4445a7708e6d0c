use Rattle.std.proofs.Common.{◌≡◌, ◌++◌}
use Rattle.job_view.specs.Axes.{first_ticks, step_tick}
use Rattle.job_view.proofs.axes.push_first_steps.Given as goal

abbrev pub invariant-loop-n : goal.invariant-loop-n
invariant-loop-n l = l.out.items ≡ l.fn.out.items ++ first_ticks (step_tick l.fn.steps) l.n

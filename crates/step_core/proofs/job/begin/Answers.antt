use Rattle.std.proofs.Common.{arith, ap, length}
use Rattle.step_core.proofs.Starts.{starts_count, starts_paths}
use Rattle.step_core.proofs.job.begin.Goals as goal

pub returns-clause-few : goal.returns-clause-few
returns-clause-few c =
    let k = starts_count _ c.in_ok-tasks.tasks.items _ c.in_ok-tasks.ensures in
    let s = c.bodies.ensures.kept.few_starts in
    let e = ap length c.starts.ensures in
    omega (arith, k, s, e)

pub returns-clause-paths : goal.returns-clause-paths
returns-clause-paths c = starts_paths _ c.in_ok-tasks.tasks.items _ c.in_ok-tasks.ensures

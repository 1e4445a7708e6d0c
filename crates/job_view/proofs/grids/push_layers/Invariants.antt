use Rattle.std.proofs.Common.{◌≡◌, ◌++◌}
use Rattle.job_view.specs.Grids.{layers}
use Rattle.job_view.proofs.grids.push_layers.Given as goal

abbrev pub invariant-loop-n : goal.invariant-loop-n
invariant-loop-n l = l.out.items ≡ l.fn.out.items ++ layers l.fn.extent l.fn.across l.fn.values l.n

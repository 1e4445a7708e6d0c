use Rattle.std.proofs.Common.{◌≡◌, drop}
use Rattle.job_view.specs.Look.{named}
use Rattle.job_view.proofs.views.cells_named.Given as goal

abbrev pub invariant-loop-place : goal.invariant-loop-place
invariant-loop-place l = named l.name (drop l.place l.arrays) ≡ named l.name l.arrays

use Rattle.std.proofs.Common.{◌≡◌, drop}
use Rattle.std.specs.List.{list_all}
use Rattle.task_code.specs.Rules.{is_array}
use Rattle.task_code.proofs.job.are_arrays.Given as goal

abbrev pub invariant-loop-place : goal.invariant-loop-place
invariant-loop-place l = list_all is_array l.arrays ≡ list_all is_array (drop l.place l.arrays)

use Rattle.std.proofs.Common.{◌≡◌, map, length}
use Rattle.std.specs.Prelude.{string_bytes}
use Rattle.task_code.specs.Names as spec
use Rattle.task_code.proofs.names.are_names.Given as goal

abbrev pub invariant-loop-first : goal.invariant-loop-first
invariant-loop-first l = spec.are_names (map string_bytes l.names) ≡ spec.are_names (map string_bytes l.rest)

abbrev pub decreases-loop-first : goal.decreases-loop-first
decreases-loop-first l = length l.rest

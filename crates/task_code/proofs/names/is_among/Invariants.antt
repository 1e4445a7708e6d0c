use Rattle.std.proofs.Common.{◌≡◌, map, drop}
use Rattle.std.specs.Prelude.{string_bytes}
use Rattle.task_code.specs.Names as spec
use Rattle.task_code.proofs.names.is_among.Given as goal

abbrev pub invariant-loop-first : goal.invariant-loop-first
invariant-loop-first l = spec.is_among (map string_bytes l.names) l.name ≡ spec.is_among (map string_bytes (drop l.first-index l.names)) l.name

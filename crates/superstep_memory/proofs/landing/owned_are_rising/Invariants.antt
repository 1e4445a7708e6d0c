use Rattle.std.proofs.Common.{◌≡◌, ◌∷◌, drop}
use Rattle.superstep_memory.specs.Paths.{is_rising}
use Rattle.superstep_memory.specs.Logs.{logs, paths}
use Rattle.superstep_memory.proofs.landing.owned_are_rising.Given as goal

abbrev pub invariant-loop-next : goal.invariant-loop-next
invariant-loop-next l = is_rising (paths (logs l.fn.entries)) ≡ is_rising (l.last.0.items ∷ paths (logs (drop l.next-index l.rest)))

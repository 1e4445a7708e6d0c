use Rattle.std.proofs.Common.{◌≡◌, None}
use Rattle.std.specs.Prelude.{replicate}
use Rattle.job_schedule.proofs.hands.empty_hands.Given as goal

abbrev pub invariant-loop : goal.invariant-loop
invariant-loop l = l.hands.items ≡ replicate l.counter None

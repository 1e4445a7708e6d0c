use Rattle.std.proofs.Common.{◌≡◌}
use Rattle.tier_steps.specs.View.{ancestor}
use Rattle.tier_core.proofs.turn.far_above.Given as goal

abbrev pub invariant-loop : goal.invariant-loop
invariant-loop l = l.at ≡ ancestor l.shape l.tier l.counter

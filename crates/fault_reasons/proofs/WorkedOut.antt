-- Reasons worked out by hand.
use Rattle.std.proofs.Common.{refl}
use Rattle.std.specs.Fmt as fmt
use Rattle.fault_reasons.specs.Texts as texts
use Rattle.fault_reasons.specs.Walk as walk
use Rattle.fault_reasons.specs.Worked.{ReasonsAreWorkedOut}

pub reasons-are-worked-out : ReasonsAreWorkedOut
unfolding fmt.digits texts.step_head texts.adds texts.cell_said texts.sum_head walk.walked
reasons-are-worked-out = record {
  overflow = refl;
  twice = refl;
  divide = refl;
  last = refl;
  first = refl;
  branch = refl;
  put = refl;
  put_of = refl;
  step = refl;
  budget = refl;
  budget_reason = refl;
  depth = refl;
  spawns = refl;
  many = refl;
  stopped = refl;
  sum = refl;
  limit = refl;
  seven = refl;
}

-- A round without where it lies in memory.
use Rattle.std.specs.Prelude.{◌≡◌}
use Rattle.std.specs.Arc.{arc_value}
use Rattle.step_core.specs.declared.round.Round.TheInside.{Inside}
use Rattle.step_core.specs.RoundValue.{RoundValue, IsRound, whole}
use Rattle.step_core.specs.Slots.{missing_in}

abbrev pub round_of : Inside → RoundValue
round_of r = whole r.job.now r.limit r.step (arc_value r.start_arrays) r.live r.finished.items r.fault

abbrev pub IsRoundInside : Inside → Type 0
IsRoundInside r = IsRound (round_of r) × (r.missing ≡ missing_in r.live)

use Rattle.std.proofs.Common.{◌≡◌, ◌++◌, drop}
use Rattle.step_core.specs.Slots.{all_counts}
use Rattle.step_core.proofs.reading.records_of.Given as goal

abbrev pub invariant-loop-one : goal.invariant-loop-one
invariant-loop-one l = l.records.items ++ all_counts (drop l.one-index l.finished) ≡ all_counts l.fn.finished

use Rattle.std.proofs.Common.{◌≡◌, ◌++◌, drop}
use Rattle.step_core.specs.Slots.{all_prints}
use Rattle.step_core.proofs.reading.prints_of.Given as goal

abbrev pub invariant-loop-one : goal.invariant-loop-one
invariant-loop-one l = l.prints.items ++ all_prints (drop l.one-index l.finished) ≡ all_prints l.fn.finished

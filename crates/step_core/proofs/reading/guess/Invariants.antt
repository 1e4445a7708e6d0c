use Rattle.std.proofs.Common.{◌≤◌, ◌-◌}
use Rattle.step_core.proofs.reading.guess.Given as goal

abbrev pub invariant-loop-low : goal.invariant-loop-low
invariant-loop-low l = l.low ≤ l.high

abbrev pub decreases-loop-low : goal.decreases-loop-low
decreases-loop-low l = l.high - l.low

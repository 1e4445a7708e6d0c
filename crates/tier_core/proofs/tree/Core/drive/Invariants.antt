use Rattle.std.proofs.Common.{◌≡◌, ◌≤◌, ◌+◌, ◌++◌, length, drop}
use Rattle.tier_core.specs.Run.{answers, run, AreSteps}
use Rattle.tier_core.proofs.tree.Core.drive.Given as goal

-- the answers so far and those to what is left are those to all, and there is room for them
abbrev pub invariant-loop-step : goal.invariant-loop-step
invariant-loop-step l = record {
  reported : l.reported.items ++ answers (drop l.step-index l.steps) l.self ≡ answers l.steps l.fn.self;
  rest : run (drop l.step-index l.steps) l.self ≡ run l.steps l.fn.self;
  are : AreSteps (drop l.step-index l.steps);
  capacity : l.reported.len + length (drop l.step-index l.steps) ≤ l.reported.cap;
}

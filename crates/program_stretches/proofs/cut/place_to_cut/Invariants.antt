use Rattle.std.proofs.Common.{◌<◌, length}
use Rattle.program_stretches.proofs.cut.place_to_cut.Given as goal

abbrev pub invariant-loop-place : goal.invariant-loop-place
invariant-loop-place g l = l.best < length l.fn.tasks

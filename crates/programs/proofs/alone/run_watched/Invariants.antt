use Rattle.programs.specs.History.{OfState}
use Rattle.programs.proofs.Reached.{setup_for, IsWatched, steps_left}
use Rattle.programs.proofs.alone.run_watched.Given as goal

abbrev pub invariant-loop-steps : goal.invariant-loop-steps
invariant-loop-steps g l =
    IsWatched
    (setup_for (g.P.Program.frame l.program) (g.P.Program.may l.program) l.most (g.P.Program.meant l.program) l.fn.arrays l.fn.tasks.items l.limit)
    (g.P.Program.meant l.program) (OfState g.W.Watch.goes) l.steps

abbrev pub decreases-loop-steps : goal.decreases-loop-steps
decreases-loop-steps g l = steps_left l.steps

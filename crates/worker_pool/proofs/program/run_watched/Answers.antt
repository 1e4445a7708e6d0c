use Rattle.std.proofs.Common.{◌≡◌, ◌∙◌, ◌++◌, map, ap, sym, subst}
use Rattle.programs.specs.History.{HasRunTo}
use Rattle.program_stretches.specs.SuperstepStart.{SuperstepStartValue, setup_of}
use Rattle.program_stretches.specs.Parts.{reading_of}
use Rattle.program_stretches.proofs.RunsSoFar.{last_same}
use Rattle.stretch_queue.specs.Watched.{HasLeftWatched}
use Rattle.stretch_queue.proofs.Watching.{kept_watched}
use Rattle.worker_pool.proofs.program.run_watched.Goals as goal

pub returns-in-Ok-clause-ran : goal.returns-in-Ok-clause-ran
returns-in-Ok-clause-ran g c =
    let m = reading_of g.P.Program.frame g.P.Program.may g.P.Program.meant g.P.Task.OnPath.path_of in
    let left : HasLeftWatched g.W.Watch.stops g.W.Watch.goes m c.in-Ok.left.writer.log c.in-Ok.left.ran.report
    c.in-Ok.left.ran.tasks.items =
    kept_watched g.W.Watch.stops g.W.Watch.goes m _ c.in-Ok.left.writer c.in-Ok.left.given c.in-Ok.left.ran.report
    c.in-Ok.left.ran.tasks.items c.in-Ok.ensures.left in
    let before = c.compare.ensures.before in
    λ o first.
    let log = ap (λ w. w.log) (c.snapshot-first.ensures.snapshot) ∙ first in
    let same : left.first ≡ o =
    last_same m left.since before.since left.first o (sym left.begun ∙ before.is ∙ ap (λ l. before.since ++ l) log) in
    subst
    (λ (x : SuperstepStartValue g.row.P.Denot g.row.P-Task.Denot). HasRunTo g.W.Watch.stops g.W.Watch.goes (setup_of m x)
    c.in-Ok.left.ran.report (map (g.P.Program.meant x.program) c.in-Ok.left.ran.tasks.items))
    same left.run

use Rattle.std.proofs.Common.{◌≡◌, true, None, length, subst}
use Rattle.program_stretches.specs.Parts.{reading_of}
use Rattle.program_stretches.specs.StretchView.{stretch_of}
use Rattle.program_stretches.specs.SuperstepStart.{live_of}
use Rattle.program_stretches.specs.StretchesValue.{StretchValue}
use Rattle.program_stretches.proofs.EachDone.{part_did}
use Rattle.program_stretches.proofs.stretch.Stretch.has_faulted.Goals as goal

pub returns-clause-each : goal.returns-clause-each
returns-clause-each g c =
    let h = c.self.invariant in
    let m = reading_of g.P.Program.frame g.P.Program.may g.P.Program.meant g.P.Task.OnPath.path_of in
    let v = stretch_of c.self.inside in
    subst
    (λ (s : StretchValue g.row.P.Denot g.row.P-Task.Denot). s.part.done ≡ true → s.part.fault ≡ None → length s.part.tasks ≡ length s.part.deeds)
    c.self.view_is
    (λ done none. part_did (m v.program) (g.met.P.Program.keeps_paths v.program) v.arrays v.step (live_of h.start) h.rising v.part h.part done none)

use Rattle.std.proofs.Common.{◌≡◌, ◌∙◌, ap, subst}
use Rattle.programs.specs.InPlace.{living_with}
use Rattle.program_stretches.specs.Parts.{reading_of}
use Rattle.program_stretches.specs.SuperstepStart.{live_of}
use Rattle.program_stretches.specs.StretchesValue.{StretchValue}
use Rattle.program_stretches.specs.StretchView.{stretch_of}
use Rattle.program_stretches.proofs.EachDone.{part_stays}
use Rattle.program_stretches.proofs.stretch.Stretch.all_stay.Goals as goal

pub returns-clause-same : goal.returns-clause-same
returns-clause-same g c = λ t done none.
    let h = c.self.invariant in
    let m = reading_of g.P.Program.frame g.P.Program.may g.P.Program.meant g.P.Task.OnPath.path_of in
    let v = stretch_of c.self.inside in
    let stay = c.all_stay.ensures.0 t in
    subst (λ (s : StretchValue g.row.P.Denot g.row.P-Task.Denot). living_with s.part.tasks s.part.deeds ≡ s.part.tasks) c.self.view_is
    (part_stays (m v.program) (g.met.P.Program.keeps_paths v.program) v.arrays v.step (live_of h.start) h.rising v.part h.part
    (ap (λ (s : StretchValue g.row.P.Denot g.row.P-Task.Denot). s.part.done) c.self.view_is ∙ done)
    (ap (λ (s : StretchValue g.row.P.Denot g.row.P-Task.Denot). s.part.fault) c.self.view_is ∙ none) stay.0 stay.1)

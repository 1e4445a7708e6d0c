use Rattle.std.proofs.Common.{◌≡◌, ◌∙◌, ℕ, None, List, ap, map, subst}
use Rattle.std.specs.Prelude.{ℤ, OnOk}
use Rattle.program_stretches.specs.Parts.{HasRun, reading_of}
use Rattle.program_stretches.specs.StretchesValue.{StretchValue}
use Rattle.program_stretches.specs.SuperstepStart.{live_of}
use Rattle.program_stretches.proofs.Owning.{run_is_part}
use Rattle.program_stretches.proofs.EachDone.{run_keeps}
use Rattle.program_stretches.proofs.stretch.Stretch.run.Goals as goal

pub invariant_of-self : goal.invariant_of-self
invariant_of-self g c =
    let h = c.self.invariant in
    let m = reading_of g.P.Program.frame g.P.Program.may g.P.Program.meant g.P.Task.OnPath.path_of in
    let q = c.self.inside.program.now in
    record {
      start = h.start;
      older = h.older;
      is = h.is;
      count = h.count;
      program = h.program;
      arrays = h.arrays;
      is_ready = h.is_ready;
      rising = h.rising;
      part =
          run_is_part (m q) _ (live_of h.start) c.self.inside.step c.run_part.result c.self.inside.part c.run_part.new.part h.part
          (ap (λ (s : StretchValue g.row.P.Denot g.row.P-Task.Denot). s.part.done) c.self.view_is ∙ c.requires) c.run_part.ensures.place
          c.run_part.ensures.done
          (subst (λ (a : List (List ℕ × List ℤ)). OnOk c.run_part.result (HasRun (m q) a c.self.inside.step c.self.inside.part.tasks c.run_part.new.part)) c.deref.ensures c.run_part.ensures.ran)
          c.run_part.ensures.count c.run_part.ensures.lost c.run_part.ensures.unsettled;
    }

pub returns-clause-paths : goal.returns-clause-paths
returns-clause-paths g c =
    let h = c.self.invariant in
    let m = reading_of g.P.Program.frame g.P.Program.may g.P.Program.meant g.P.Task.OnPath.path_of in
    let q = c.self.inside.program.now in
    subst
    (λ (s : StretchValue g.row.P.Denot g.row.P-Task.Denot). OnOk c.run_part.result
    (c.run_part.new.part.fault ≡ None
    → map g.P.Task.OnPath.path_of c.run_part.new.part.tasks ≡ map g.P.Task.OnPath.path_of s.part.tasks))
    c.self.view_is
    (run_keeps (m q) (g.met.P.Program.keeps_paths q) _ c.self.inside.step (live_of h.start) h.rising c.run_part.result c.self.inside.part c.run_part.new.part h.part
    (ap (λ (s : StretchValue g.row.P.Denot g.row.P-Task.Denot). s.part.done) c.self.view_is ∙ c.requires)
    (subst (λ (a : List (List ℕ × List ℤ)). OnOk c.run_part.result (HasRun (m q) a c.self.inside.step c.self.inside.part.tasks c.run_part.new.part)) c.deref.ensures c.run_part.ensures.ran)
    c.run_part.ensures.count)

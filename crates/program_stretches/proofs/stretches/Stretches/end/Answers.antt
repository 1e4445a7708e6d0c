use Rattle.std.proofs.Common.{refl, inl, ap, sym, subst, ◌∙◌}
use Rattle.program_stretches.specs.Parts.{reading_of}
use Rattle.program_stretches.specs.StretchesValue.{StretchesValue, status_in}
use Rattle.program_stretches.specs.Closing.{EndsBy}
use Rattle.program_stretches.specs.StretchesView.{stretches_of}
use Rattle.program_stretches.proofs.RunsSoFar.{after_next}
use Rattle.program_stretches.proofs.stretches.Stretches.end.Goals as goal

pub invariant_of-self : goal.invariant_of-self
invariant_of-self g c =
    let m = reading_of g.P.Program.frame g.P.Program.may g.P.Program.meant g.P.Task.OnPath.path_of in
    let v = stretches_of c.self.inside in
    let h = c.self.invariant in
    let e = subst (λ (x : StretchesValue g.row.P.Denot g.row.P-Task.Denot). EndsBy m x c.args.blame) (sym c.self.view_is) c.requires.ends in
    let run = ap (λ (x : StretchesValue g.row.P.Denot g.row.P-Task.Denot). status_in x) c.self.view_is ∙ c.requires.running in
    record {
      run = record {
        live = e.live;
        after =
            after_next m v _ e.live e.live (g.met.P.Program.keeps_paths v.program) e.begun run e.count e.step refl refl refl refl refl
            e.begun.count e.begun.few;
        opened = inl (ap (λ (x : StretchesValue g.row.P.Denot g.row.P-Task.Denot). x.parts) c.self.view_is ∙ c.requires.none);
      };
      same = h.same;
      is_ready = h.is_ready;
      pieces = h.pieces;
      most = h.most;
      limit = h.limit;
    }

use Rattle.std.proofs.Common.{◌∷◌, length, map, refl, ap, sym, subst, ◌∙◌}
use Rattle.std.specs.Arc.{arc_value}
use Rattle.ghost_lists.specs.Agreed.{LogValue}
use Rattle.program_stretches.specs.Parts.{reading_of}
use Rattle.program_stretches.specs.SuperstepStart.{SuperstepStartValue, live_of}
use Rattle.program_stretches.specs.StretchesValue.{StretchesValue, IsAfter}
use Rattle.program_stretches.specs.Closing.{opened_with}
use Rattle.program_stretches.specs.StretchesView.{stretches_of}
use Rattle.program_stretches.proofs.RunsSoFar.{run_opened}
use Rattle.program_stretches.proofs.stretches.Stretches.reopen.Goals as goal

pub invariant_of-self : goal.invariant_of-self
invariant_of-self g c =
    let m = reading_of g.P.Program.frame g.P.Program.may g.P.Program.meant g.P.Task.OnPath.path_of in
    let v = stretches_of c.self.inside in
    let h = c.self.invariant in
    let o : SuperstepStartValue g.row.P.Denot g.row.P-Task.Denot =
    record {
      program = c.self.inside.program.now;
      most = c.self.inside.most;
      limit = c.self.inside.limit;
      arrays = arc_value c.in_ok-arrays.arrays;
      parts = c.args.parts.items;
    } in
    let noted = c.note.ensures.noted in
    let parts = ap (λ (x : SuperstepStartValue g.row.P.Denot g.row.P-Task.Denot). x.parts) (c.parts.view_is ∙ c.note.ensures.same) in
    let begun =
    subst (λ (x : StretchesValue g.row.P.Denot g.row.P-Task.Denot). IsAfter m x (map (m x.program).meant (live_of o))) (sym c.self.view_is)
    c.requires.after in
    let calm = ap (λ (x : StretchesValue g.row.P.Denot g.row.P-Task.Denot). x.fault) c.self.view_is ∙ c.requires.calm in
    let count =
    (λ i. length (c.self.view_is i).log) ∙ c.requires.count
    ∙ sym (ap (λ (x : StretchesValue g.row.P.Denot g.row.P-Task.Denot). x.step) c.self.view_is) in
    record {
      run = run_opened m v _ o begun calm count c.requires.fresh refl c.in_ok-arrays.ensures
          (λ i. record v { name = (noted i).name; log = (noted i).log; parts = parts i });
      same = h.same ∙ sym (ap (λ (w : LogValue (SuperstepStartValue g.row.P.Denot g.row.P-Task.Denot)). w.name) noted);
      is_ready = h.is_ready;
      pieces = h.pieces;
      most = h.most;
      limit = h.limit;
    }

pub returns-clause-opened : goal.returns-clause-opened
returns-clause-opened g c =
    let v = stretches_of c.self.inside in
    let noted = c.note.ensures.noted in
    let parts = ap (λ (x : SuperstepStartValue g.row.P.Denot g.row.P-Task.Denot). x.parts) (c.parts.view_is ∙ c.note.ensures.same) in
    (λ i. record v { name = (noted i).name; log = (noted i).log; parts = parts i })
    ∙ (λ i. record v { log = record { program = v.program; most = v.most; limit = v.limit; arrays = c.in_ok-arrays.ensures i; parts = c.args.parts.items } ∷ v.log; parts = c.args.parts.items })
    ∙ (λ i. opened_with (c.self.view_is i) c.args.parts.items)

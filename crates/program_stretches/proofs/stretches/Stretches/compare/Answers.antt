use Rattle.std.proofs.Common.{◌≡◌, ◌∙◌, List, ap, sym, subst}
use Rattle.ghost_lists.specs.Agreed.{LogValue, WasBefore}
use Rattle.program_stretches.specs.Parts.{reading_of}
use Rattle.program_stretches.specs.SuperstepStart.{SuperstepStartValue}
use Rattle.program_stretches.specs.StretchesValue.{StretchesValue, IsRunSoFar}
use Rattle.program_stretches.specs.StretchesView.{stretches_of}
use Rattle.program_stretches.proofs.stretches.Stretches.compare.Goals as goal

pub invariant_of-self : goal.invariant_of-self
invariant_of-self g c =
    let m = reading_of g.P.Program.frame g.P.Program.may g.P.Program.meant g.P.Task.OnPath.path_of in
    let v = stretches_of c.self.inside in
    let h = c.self.invariant in
    let same : stretches_of (record c.self.inside { writer = c.compare.new.self }) ≡ v =
    (λ i. record v { name = (c.compare.ensures.same i).name; log = (c.compare.ensures.same i).log }) in
    record {
      run = subst (IsRunSoFar m) (sym same) h.run;
      same = h.same ∙ sym (ap (λ (w : LogValue (SuperstepStartValue g.row.P.Denot g.row.P-Task.Denot)). w.name) c.compare.ensures.same);
      is_ready = h.is_ready;
      pieces = h.pieces;
      most = h.most;
      limit = h.limit;
    }

pub returns-clause-same : goal.returns-clause-same
returns-clause-same g c =
    let v = stretches_of c.self.inside in
    (λ i. record v { name = (c.compare.ensures.same i).name; log = (c.compare.ensures.same i).log }) ∙ c.self.view_is

pub returns-clause-before : goal.returns-clause-before
returns-clause-before g c =
    subst (λ (l : List (SuperstepStartValue g.row.P.Denot g.row.P-Task.Denot)). WasBefore c.args.earlier.log l)
    (ap (λ (x : StretchesValue g.row.P.Denot g.row.P-Task.Denot). x.log) c.self.view_is) c.compare.ensures.before

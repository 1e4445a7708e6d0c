use Rattle.std.proofs.Common.{ap, ◌∙◌}
use Rattle.program_stretches.specs.Parts.{reading_of}
use Rattle.program_stretches.specs.StretchesValue.{StretchesValue}
use Rattle.program_stretches.specs.StretchesView.{stretches_of}
use Rattle.program_stretches.proofs.RunsSoFar.{run_given}
use Rattle.program_stretches.proofs.stretches.Stretches.give.Goals as goal

pub invariant_of-self : goal.invariant_of-self
invariant_of-self g c =
    let m = reading_of g.P.Program.frame g.P.Program.may g.P.Program.meant g.P.Task.OnPath.path_of in
    let v = stretches_of c.self.inside in
    let h = c.self.invariant in
    let none = ap (λ (x : StretchesValue g.row.P.Denot g.row.P-Task.Denot). x.fault) c.self.view_is ∙ c.requires in
    let prints = ap (λ x. x.items) c.replace-prints.ensures.after ∙ c.new.ensures.items in
    let records = ap (λ x. x.items) c.replace-records.ensures.after ∙ c.new-2.ensures.items in
    record {
      run = run_given m v _ h.run none (λ i. record v { prints = prints i; records = records i; given = v.step });
      same = h.same;
      is_ready = h.is_ready;
      pieces = h.pieces;
      most = h.most;
      limit = h.limit;
    }

use Rattle.std.proofs.lemmas.Grind.{common_steps}
use Rattle.std.proofs.Common.{◌∙◌, true, ap, sym, subst, arith}
use Rattle.program_stretches.specs.declared.fault.Outcome.TheVariants.{Faulted}
use Rattle.program_stretches.specs.Parts.{reading_of, covers, fault_in}
use Rattle.program_stretches.specs.StretchesValue.{StretchesValue, status_in}
use Rattle.program_stretches.specs.StretchesView.{stretches_of}
use Rattle.program_stretches.specs.Closing.{IsClosed}
use Rattle.program_stretches.proofs.Closed.{closed_from}
use Rattle.program_stretches.proofs.Back.{are_back, run_without, fault_ends, fault_closes, all_have_run, all_did, all_can, all_found}
use Rattle.program_stretches.proofs.stretches.Stretches.close.Goals as goal

pub end-requires-clause-ends : goal.end-requires-clause-ends
end-requires-clause-ends g c =
    let m = reading_of g.P.Program.frame g.P.Program.may g.P.Program.meant g.P.Task.OnPath.path_of in
    let v = stretches_of c.self.inside in
    let b =
    are_back m v (g.met.P.Program.keeps_paths v.program) c.self.invariant.run
    (sym (c.cover.ensures ∙ ap (covers true v.count 0) c.deref.ensures.value) ∙ c.if-not-cover.false)
    (ap (λ (x : StretchesValue g.row.P.Denot g.row.P-Task.Denot). status_in x) c.self.view_is ∙ c.requires.running) in
    let parts = ap (λ x. x.items) c.replace-parts.ensures.value in
    let one = sym (c.find_fault.ensures ∙ ap fault_in c.deref-2.ensures.value) ∙ c.in-Some.is in
    fault_ends b parts c.replace-parts.new.dest.items one

pub returns-in-Some-clause-closed : goal.returns-in-Some-clause-closed
returns-in-Some-clause-closed g c =
    let m = reading_of g.P.Program.frame g.P.Program.may g.P.Program.meant g.P.Task.OnPath.path_of in
    let v = stretches_of c.self.inside in
    let b =
    are_back m v (g.met.P.Program.keeps_paths v.program) c.self.invariant.run
    (sym (c.cover.ensures ∙ ap (covers true v.count 0) c.deref.ensures.value) ∙ c.if-not-cover.false)
    (ap (λ (x : StretchesValue g.row.P.Denot g.row.P-Task.Denot). status_in x) c.self.view_is ∙ c.requires.running) in
    let parts = ap (λ x. x.items) c.replace-parts.ensures.value in
    let one = sym (c.find_fault.ensures ∙ ap fault_in c.deref-2.ensures.value) ∙ c.in-Some.is in
    subst (λ (x : StretchesValue g.row.P.Denot g.row.P-Task.Denot). IsClosed m x c.end.new.self Faulted) c.self.view_is
    (fault_closes b parts c.replace-parts.new.dest.items one c.end.new.self c.end.ensures)

pub invariant_of-self : goal.invariant_of-self
invariant_of-self g c =
    let m = reading_of g.P.Program.frame g.P.Program.may g.P.Program.meant g.P.Task.OnPath.path_of in
    let v = stretches_of c.self.inside in
    let b =
    are_back m v (g.met.P.Program.keeps_paths v.program) c.self.invariant.run
    (sym (c.cover.ensures ∙ ap (covers true v.count 0) c.deref.ensures.value) ∙ c.if-not-cover.false)
    (ap (λ (x : StretchesValue g.row.P.Denot g.row.P-Task.Denot). status_in x) c.self.view_is ∙ c.requires.running) in
    record {
      run = run_without b c.replace-parts.new.dest.items (ap (λ x. x.items) c.replace-parts.ensures.after ∙ c.new.ensures.items);
      same = c.self.invariant.same;
      is_ready = c.self.invariant.is_ready;
      pieces = c.self.invariant.pieces;
      most = c.self.invariant.most;
      limit = c.self.invariant.limit;
    }

pub invariant_of-self-in_default : goal.invariant_of-self-in_default
invariant_of-self-in_default g c =
    let m = reading_of g.P.Program.frame g.P.Program.may g.P.Program.meant g.P.Task.OnPath.path_of in
    let v = stretches_of c.self.inside in
    let b =
    are_back m v (g.met.P.Program.keeps_paths v.program) c.self.invariant.run
    (sym (c.cover.ensures ∙ ap (covers true v.count 0) c.deref.ensures.value) ∙ c.if-not-cover.false)
    (ap (λ (x : StretchesValue g.row.P.Denot g.row.P-Task.Denot). status_in x) c.self.view_is ∙ c.requires.running) in
    record {
      run = run_without b c.replace-parts.new.dest.items (ap (λ x. x.items) c.replace-parts.ensures.after ∙ c.new.ensures.items);
      same = c.self.invariant.same;
      is_ready = c.self.invariant.is_ready;
      pieces = c.self.invariant.pieces;
      most = c.self.invariant.most;
      limit = c.self.invariant.limit;
    }

pub take_superstep-requires-clause-run : goal.take_superstep-requires-clause-run
take_superstep-requires-clause-run g c =
    let m = reading_of g.P.Program.frame g.P.Program.may g.P.Program.meant g.P.Task.OnPath.path_of in
    let v = stretches_of c.self.inside in
    let b =
    are_back m v (g.met.P.Program.keeps_paths v.program) c.self.invariant.run
    (sym (c.cover.ensures ∙ ap (covers true v.count 0) c.deref.ensures.value) ∙ c.if-not-cover.false)
    (ap (λ (x : StretchesValue g.row.P.Denot g.row.P-Task.Denot). status_in x) c.self.view_is ∙ c.requires.running) in
    let parts = ap (λ x. x.items) c.replace-parts.ensures.value in
    let none = sym (c.find_fault.ensures ∙ ap fault_in c.deref-2.ensures.value) ∙ c.in_default.is in
    all_have_run b parts none c.replace-parts.new.dest.items

pub returns-in-Ok-clause-closed : goal.returns-in-Ok-clause-closed
returns-in-Ok-clause-closed g c =
    let m = reading_of g.P.Program.frame g.P.Program.may g.P.Program.meant g.P.Task.OnPath.path_of in
    let v = stretches_of c.self.inside in
    subst (λ (x : StretchesValue g.row.P.Denot g.row.P-Task.Denot). IsClosed m x c.take_superstep.new.self c.in-Ok.outcome) c.self.view_is
    (closed_from m v c.replace-parts.new.dest.items c.take_superstep.new.self c.in-Ok.outcome c.in-Ok.ensures.closed)

pub take_superstep-requires-clause-each : goal.take_superstep-requires-clause-each
take_superstep-requires-clause-each g c =
    let m = reading_of g.P.Program.frame g.P.Program.may g.P.Program.meant g.P.Task.OnPath.path_of in
    let v = stretches_of c.self.inside in
    let b =
    are_back m v (g.met.P.Program.keeps_paths v.program) c.self.invariant.run
    (sym (c.cover.ensures ∙ ap (covers true v.count 0) c.deref.ensures.value) ∙ c.if-not-cover.false)
    (ap (λ (x : StretchesValue g.row.P.Denot g.row.P-Task.Denot). status_in x) c.self.view_is ∙ c.requires.running) in
    let parts = ap (λ x. x.items) c.replace-parts.ensures.value in
    let none = sym (c.find_fault.ensures ∙ ap fault_in c.deref-2.ensures.value) ∙ c.in_default.is in
    all_did b parts none

pub take_superstep-requires-clause-can : goal.take_superstep-requires-clause-can
take_superstep-requires-clause-can g c =
    let m = reading_of g.P.Program.frame g.P.Program.may g.P.Program.meant g.P.Task.OnPath.path_of in
    let v = stretches_of c.self.inside in
    let b =
    are_back m v (g.met.P.Program.keeps_paths v.program) c.self.invariant.run
    (sym (c.cover.ensures ∙ ap (covers true v.count 0) c.deref.ensures.value) ∙ c.if-not-cover.false)
    (ap (λ (x : StretchesValue g.row.P.Denot g.row.P-Task.Denot). status_in x) c.self.view_is ∙ c.requires.running) in
    let parts = ap (λ x. x.items) c.replace-parts.ensures.value in
    let none = sym (c.find_fault.ensures ∙ ap fault_in c.deref-2.ensures.value) ∙ c.in_default.is in
    all_can b parts none

pub take_superstep-requires-clause-makers : goal.take_superstep-requires-clause-makers
take_superstep-requires-clause-makers g c =
    let m = reading_of g.P.Program.frame g.P.Program.may g.P.Program.meant g.P.Task.OnPath.path_of in
    let v = stretches_of c.self.inside in
    let b =
    are_back m v (g.met.P.Program.keeps_paths v.program) c.self.invariant.run
    (sym (c.cover.ensures ∙ ap (covers true v.count 0) c.deref.ensures.value) ∙ c.if-not-cover.false)
    (ap (λ (x : StretchesValue g.row.P.Denot g.row.P-Task.Denot). status_in x) c.self.view_is ∙ c.requires.running) in
    let parts = ap (λ x. x.items) c.replace-parts.ensures.value in
    let none = sym (c.find_fault.ensures ∙ ap fault_in c.deref-2.ensures.value) ∙ c.in_default.is in
    all_found b parts none

pub returns-clause-refused : goal.returns-clause-refused
returns-clause-refused = grind (arith, common_steps)

pub returns-clause-same : goal.returns-clause-same
returns-clause-same = grind (arith, common_steps)

pub returns-clause-unlogged : goal.returns-clause-unlogged
returns-clause-unlogged = grind (arith, common_steps)

pub returns-in-Ok-clause-same : goal.returns-in-Ok-clause-same
returns-in-Ok-clause-same = grind (arith, common_steps)

use Rattle.std.proofs.lemmas.Grind.{common_steps}
use Rattle.std.proofs.Common.{◌≡◌, ◌∙◌, None, length, ap, sym, subst, arith}
use Rattle.std.proofs.lemmas.List.{length-map}
use Rattle.phase_records.specs.Status.{Limit}
use Rattle.program_stretches.specs.Parts.{reading_of}
use Rattle.program_stretches.specs.StretchesValue.{status_in, IsRunSoFar}
use Rattle.program_stretches.specs.Closing.{HasLeftTo}
use Rattle.program_stretches.proofs.Closed.{has_stopped, still_live, left_when, nothing_if}
use Rattle.program_stretches.proofs.stretches.Stretches.stop.Goals as goal

pub returns-clause-left : goal.returns-clause-left
returns-clause-left g c =
    let m = reading_of g.P.Program.frame g.P.Program.may g.P.Program.meant g.P.Task.OnPath.path_of in
    let v = c.args.self in
    let h = subst (IsRunSoFar m) c.self.view_is c.self.invariant.run in
    let run : status_in v ≡ None = nothing_if (status_in v) (sym c.has_ended.ensures ∙ c.if-has_ended.false) in
    left_when c.leave.result _ _ _ c.leave.ensures.left c.leave.ensures.some
    (λ l f there. (
      f.named,
      subst (λ log. HasLeftTo m (λ o. v.step) log l.given l.ran.report l.ran.tasks.items) (sym f.logged)
          (subst (λ n. HasLeftTo m (λ o. v.step) v.log n l.ran.report l.ran.tasks.items) (sym f.gave)
          (has_stopped m v h run there (g.met.P.Program.keeps_paths v.program) l.ran.tasks.items f.tasks l.ran.report
          (f.report
          ∙ (λ i. record { prints = v.prints; records = v.records; arrays = v.arrays; status = Limit ((c.self.view_is i).step) })))),
    ))

pub returns-clause-count : goal.returns-clause-count
returns-clause-count g c =
    let m = reading_of g.P.Program.frame g.P.Program.may g.P.Program.meant g.P.Task.OnPath.path_of in
    let v = c.args.self in
    let h = subst (IsRunSoFar m) c.self.view_is c.self.invariant.run in
    let run : status_in v ≡ None = nothing_if (status_in v) (sym c.has_ended.ensures ∙ c.if-has_ended.false) in
    left_when c.leave.result _ _ _ c.leave.ensures.left c.leave.ensures.some
    (λ l f there.
    sym (length-map l.ran.tasks.items (m v.program).meant) ∙ ap length (sym (still_live m v h run there l.ran.tasks.items f.tasks))
    ∙ sym h.after.count)

pub returns-clause-some : goal.returns-clause-some
returns-clause-some = grind (arith, common_steps)

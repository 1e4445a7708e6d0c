use Rattle.std.proofs.Common.{Result, Ok, Err, sym, subst}
use Rattle.std.specs.Prelude.{OnOk}
use Rattle.programs.specs.Steps.{IsRunning}
use Rattle.step_core.specs.JobRun.{JobRunValue, HasStepped, IsAfter}
use Rattle.step_core.proofs.Stepped.{has_stepped, stepped_of}
use Rattle.step_core.proofs.steps.JobSteps.step.Goals as goal

on_ok : {X E A B : Type 0} (r : Result X E) → (A → B) → OnOk r A → OnOk r B
on_ok (Ok x) go a = go a
on_ok (Err e) go a = tt

pub returns-clause-next : goal.returns-clause-next
returns-clause-next c =
    on_ok c.step.result (λ h n ps rs a. h n ps rs (subst (λ (r : JobRunValue). IsAfter n ps rs r) (sym c.self.view_is) a))
    (has_stepped c.self.inside.job.now c.self.inside.steps c.step.new.self c.step.result c.self.invariant c.step.ensures.over c.step.ensures.stepped)

pub returns-clause-stepped : goal.returns-clause-stepped
returns-clause-stepped c =
    subst
    (λ (r : JobRunValue). IsRunning r.run
    → OnOk c.step.result (HasStepped r (record { job = c.self.inside.job.now; run = c.step.new.self })))
    c.self.view_is
    (stepped_of c.self.inside.job.now c.self.inside.steps c.step.new.self c.step.result c.step.ensures.stepped)

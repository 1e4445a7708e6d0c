use Rattle.std.proofs.Common.{◌≡◌, Result, Err, rules, ap, ◌∙◌, sym}
use Rattle.trace_text.specs.declared.fault.TraceFault.{TraceFault}
use Rattle.trace_text.specs.Trace.{asked_of}
use Rattle.trace_text.proofs.TracedRuns.{traced}
use Rattle.trace_text.proofs.run.run_trace.Goals as goal

pub returns-clause-traces : goal.returns-clause-traces
returns-clause-traces g c =
    traced _ _ _ _ c.in_ok-text.text.items _ c.in_ok-text.ensures.text
    (ap asked_of (sym c.deref.ensures.value) ∙ c.in_ok-trace.ensures.asked)
    c.run_asked.ensures.writes

pub returns-in_err-text-clause-traces : goal.returns-in_err-text-clause-traces
returns-in_err-text-clause-traces g c =
    let is : ◌≡◌ {A = Result (Unit {0}) TraceFault} c.from_residual.result (Err c.in_err-text.field-0.0) = search rules in
    rw is (c.in_err-text.ensures.text _)

pub returns-in_err-text-clause-write_failures : goal.returns-in_err-text-clause-write_failures
returns-in_err-text-clause-write_failures g c =
    let is : ◌≡◌ {A = Result (Unit {0}) TraceFault} c.from_residual.result (Err c.in_err-text.field-0.0) = search rules in
    rw is (c.in_err-text.ensures.write_failures _)

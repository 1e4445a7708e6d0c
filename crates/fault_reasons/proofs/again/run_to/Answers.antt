use Rattle.std.proofs.Common.{◌∙◌, sym}
use Rattle.fault_reasons.proofs.Reached.{begins_if, never_if}
use Rattle.fault_reasons.proofs.again.run_to.Goals as goal

pub returns-then-is_at_limit : goal.returns-then-is_at_limit
returns-then-is_at_limit c =
    begins_if c.args.job.now c.args.step c.in_ok-run.run' c.advance.new.self c.in_ok-run.ensures.begun c.in_ok-run.ensures.job
    c.in_ok-advance.ensures
    (sym c.is_at_limit.ensures ∙ c.if-is_at_limit.true)

pub returns : goal.returns
returns c =
    never_if c.args.job.now c.args.step c.in_ok-run.run' c.advance.new.self c.in_ok-run.ensures.begun c.in_ok-run.ensures.job
    c.in_ok-advance.ensures
    (sym c.is_at_limit.ensures ∙ c.if-is_at_limit.false)

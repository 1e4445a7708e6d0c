use Rattle.std.proofs.Common.{ℕ, ◌++◌, sym, ap, ◌∙◌, add-one}
use Rattle.job_view.specs.Axes.{first_ticks, step_tick}
use Rattle.job_view.proofs.Behind.{onto}
use Rattle.job_view.proofs.axes.push_first_steps.Goals as goal

pub loop-n-preserved : goal.loop-n-preserved
loop-n-preserved c =
    onto c.args.out.now.items c.loop-n.out.items _ (first_ticks (step_tick c.args.steps) c.loop-n.n) (step_tick c.args.steps c.loop-n.n)
    c.loop-n.invariant c.in_ok-push_step_tick.ensures
    ∙ ap (λ (k : ℕ). c.args.out.now.items ++ first_ticks (step_tick c.args.steps) k) (sym (add-one c.loop-n.n))

use Rattle.std.proofs.Common.{ℕ, ◌+◌, ◌++◌, sym, ap, ◌∙◌, add-one}
use Rattle.job_view.specs.Grids.{layer, layers}
use Rattle.job_view.proofs.Behind.{onto}
use Rattle.job_view.proofs.grids.push_layers.Goals as goal

pub loop-n-preserved : goal.loop-n-preserved
loop-n-preserved c =
    onto c.args.out.now.items c.loop-n.out.items _ (layers c.args.extent c.args.across c.args.values.now c.loop-n.n)
    (layer c.args.extent c.args.across c.args.values.now (c.loop-n.n + 1))
    c.loop-n.invariant (rw c.from.ensures at c.in_ok-push_layer.ensures)
    ∙ ap (λ (k : ℕ). c.args.out.now.items ++ layers c.args.extent c.args.across c.args.values.now k) (sym (add-one c.loop-n.n))

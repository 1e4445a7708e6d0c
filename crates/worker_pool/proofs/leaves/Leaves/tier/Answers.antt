use Rattle.std.proofs.Common.{ℕ, List, ap, ◌∙◌}
use Rattle.tier_shape.specs.Preferred.{leaf_at}
use Rattle.tier_shape.proofs.Numbered.{numbered_within}
use Rattle.worker_pool.proofs.leaves.Leaves.tier.Goals as goal

pub returns-clause-within : goal.returns-clause-within
returns-clause-within g c =
    let leaves = c.args.self.now in
    numbered_within g.J.Running.tree.key.shape leaves.tiers.items c.args.number c.leaf_at.result leaves.all.all leaves.all.some
    (c.leaf_at.ensures ∙ ap (λ (ls : List ℕ). leaf_at ls c.args.number) (c.deref.ensures.value ∙ leaves.all.all))

use Rattle.std.proofs.Common.{ℕ, List, ap, subst, ◌∙◌, ◌<◌, length}
use Rattle.tier_calls.specs.Holding.{Named}
use Rattle.tier_shape.specs.Preferred.{leaf_at}
use Rattle.tier_shape.proofs.Numbered.{numbered_within}
use Rattle.phasers.proofs.shared.SharedTree.leaf.Goals as goal

pub returns-clause-within : goal.returns-clause-within
returns-clause-within g c =
    let kept = c.self.invariant in
    let inside = c.self.inside in
    subst (λ (n : Named). c.leaf_at.result < length n.key.shape) c.self.view_is
    (numbered_within inside.tiers.key.shape inside.leaves.items c.args.number c.leaf_at.result kept.1 kept.2
    (c.leaf_at.ensures ∙ ap (λ (ls : List ℕ). leaf_at ls c.args.number) (c.deref.ensures.value ∙ kept.1)))

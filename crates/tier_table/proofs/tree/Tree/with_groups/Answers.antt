use Rattle.std.proofs.Common.{◌∙◌, ap, sym}
use Rattle.tier_shape.specs.Leaves.{leaves_of}
use Rattle.tier_table.proofs.AtLeaves.{leaves_are_tiers}
use Rattle.tier_table.proofs.tree.Tree.with_groups.Goals as goal

pub register_leaves-requires-clause-tiers : goal.register_leaves-requires-clause-tiers
register_leaves-requires-clause-tiers g c =
    let shape = ap (λ t. t.tree.key.shape) c.tree.view_is ∙ c.in_ok-tree.ensures.same_shape in
    leaves_are_tiers c.tree.inside.tiers.key.shape c.deref.result.now
    (c.deref.ensures.value ∙ (c.in_ok-leaves.ensures.exact ∙ ap leaves_of (sym shape)))

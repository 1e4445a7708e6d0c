use Rattle.std.proofs.Common.{rules, ap, sym, ◌∙◌}
use Rattle.tier_shape.proofs.Kept.{keeps_next, drops_next}
use Rattle.tier_shape.proofs.Numbered.{some_leaf, few_leaves}
use Rattle.tier_shape.specs.Leaves.{is_leaf_of}
use Rattle.tier_shape.proofs.Shape.leaves.Goals as goal
use Rattle.tier_shape.proofs.Shape.leaves.Goals.{then-is_leaf+in_ok-push, else-is_leaf}

pub loop-tier-preserved : goal.loop-tier-preserved
loop-tier-preserved c =
    elim c.if-is_leaf.branch [
      | then-is_leaf+in_ok-push w ↦
          ap (λ v. v.items) w.leaves-is ∙ w.in_ok-push.ensures.items
          ∙ keeps_next (is_leaf_of c.args.self.now) c.loop-tier.leaves.items c.loop-tier.tier
          (sym c.is_leaf.ensures.test ∙ w.if-is_leaf.true) c.loop-tier.invariant
      | else-is_leaf w ↦
          ap (λ v. v.items) w.leaves-is
          ∙ drops_next (is_leaf_of c.args.self.now) c.loop-tier.leaves.items c.loop-tier.tier
          (sym c.is_leaf.ensures.test ∙ w.if-is_leaf.false) c.loop-tier.invariant
    ]

pub returns-clause-some : goal.returns-clause-some
returns-clause-some c = some_leaf c.args.self.now c.loop-tier.leaves.items c.count-tier-end.ensures.tiers (search rules)

pub returns-clause-few : goal.returns-clause-few
returns-clause-few c = few_leaves c.args.self.now c.loop-tier.leaves.items c.count-tier-end.ensures.tiers (search rules)

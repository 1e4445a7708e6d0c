use Rattle.tier_shape.proofs.Childless.{test_from_iff}
use Rattle.tier_shape.proofs.Shape.is_leaf.Goals as goal

pub returns-clause-test : goal.returns-clause-test
returns-clause-test c =
    test_from_iff c.has_no_child.result c.args.self.now c.args.tier (rw (← c.self.view_is, ← c.deref.ensures.value) c.has_no_child.ensures)

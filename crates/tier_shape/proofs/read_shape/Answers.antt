use Rattle.std.proofs.Common.{refl}
use Rattle.tier_shape.specs.Widths.{tree_of}
use Rattle.tier_shape.proofs.TreeShape.{made_of, says_shape}
use Rattle.tier_shape.proofs.read_shape.Goals as goal

pub invariant_of-result : goal.invariant_of-result
invariant_of-result c =
    says_shape c.args.text.now c.in-Ok.parents.items
    (made_of c.args.text.now c.in_ok-widths.widths.items c.deref.result.now c.deref-2.result.now c.in-Ok.parents.items
    c.in_ok-widths.ensures c.deref.ensures c.deref-2.ensures (c.is_small.ensures.0 c.if-not-is_small.false) c.in-Ok.ensures)

pub returns-in-Ok : goal.returns-in-Ok
returns-in-Ok c =
    let says = made_of c.args.text.now c.in_ok-widths.widths.items c.deref.result.now c.deref-2.result.now c.in-Ok.parents.items
    c.in_ok-widths.ensures c.deref.ensures c.deref-2.ensures (c.is_small.ensures.0 c.if-not-is_small.false) c.in-Ok.ensures in
    (says, says_shape c.args.text.now c.in-Ok.parents.items says)

pub returns : goal.returns
returns c = (
  tree_of c.in_ok-widths.widths.items,
  made_of c.args.text.now c.in_ok-widths.widths.items c.deref.result.now c.in_ok-widths.widths.items (tree_of c.in_ok-widths.widths.items)
      c.in_ok-widths.ensures c.deref.ensures refl (c.is_small.ensures.0 c.if-not-is_small.false) refl,
)

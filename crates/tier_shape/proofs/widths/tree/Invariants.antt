use Rattle.std.proofs.Common.{◌≡◌}
use Rattle.tier_shape.specs.Widths.{level_size, level_start, levels_of}
use Rattle.tier_shape.proofs.widths.tree.Given as goal

abbrev pub invariant-loop-width : goal.invariant-loop-width
invariant-loop-width l = record {
  items : l.parents.items ≡ levels_of l.widths l.width-index;
  first : l.first ≡ level_start l.widths l.width-index;
  size : l.size ≡ level_size l.widths l.width-index;
}

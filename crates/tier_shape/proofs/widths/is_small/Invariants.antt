use Rattle.std.proofs.Common.{◌≡◌, ◌≤◌, suc}
use Rattle.tier_shape.specs.Widths.{level_size, level_start}
use Rattle.tier_shape.proofs.widths.is_small.Given as goal

abbrev pub invariant-loop-width : goal.invariant-loop-width
invariant-loop-width l = record {
  size : l.size ≡ level_size l.widths l.width-index;
  count : l.count ≡ level_start l.widths (suc l.width-index);
  few : l.count ≤ 64;
}

use Rattle.std.proofs.Common.{add-one, arith, refl, get_or, ◌*◌, ◌+◌}
use Rattle.tier_shape.proofs.Levels.{count_next, room_for, level_pushed}
use Rattle.tier_shape.proofs.widths.tree.Goals as goal

pub overflow_mul-children : goal.overflow_mul-children
overflow_mul-children c =
    let capacity =
    room_for c.args.widths.now c.loop-width.width-index c.loop-width.first (get_or c.args.widths.now c.loop-width.width-index 0)
    c.loop-width.size (omega arith) c.requires.few refl c.loop-width.invariant.first c.loop-width.invariant.size in
    omega arith

pub push_level-requires-clause-capacity : goal.push_level-requires-clause-capacity
push_level-requires-clause-capacity c =
    let capacity =
    room_for c.args.widths.now c.loop-width.width-index c.loop-width.first (get_or c.args.widths.now c.loop-width.width-index 0)
    c.loop-width.size (omega arith) c.requires.few refl c.loop-width.invariant.first c.loop-width.invariant.size in
    omega arith

pub overflow_add-first : goal.overflow_add-first
overflow_add-first c =
    let capacity =
    room_for c.args.widths.now c.loop-width.width-index c.loop-width.first (get_or c.args.widths.now c.loop-width.width-index 0)
    c.loop-width.size (omega arith) c.requires.few refl c.loop-width.invariant.first c.loop-width.invariant.size in
    omega arith

pub loop-width-preserved : goal.loop-width-preserved
loop-width-preserved c =
    let next =
    count_next c.args.widths.now c.loop-width.width-index (get_or c.args.widths.now c.loop-width.width-index 0) c.loop-width.size
    (c.loop-width.first + c.loop-width.size) (omega arith) refl c.loop-width.invariant.size (omega arith) in
    rw add-one (record {
      items =
          level_pushed c.args.widths.now c.loop-width.width-index c.loop-width.first (get_or c.args.widths.now c.loop-width.width-index 0)
          (c.loop-width.size * get_or c.args.widths.now c.loop-width.width-index 0) c.loop-width.parents.items
          c.push_level.new.parents.items
          c.loop-width.invariant.items c.loop-width.invariant.first refl next.0 c.in_ok-push_level.ensures;
      first = omega arith;
      size = next.0;
    })

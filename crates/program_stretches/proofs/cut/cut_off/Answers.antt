use Rattle.std.proofs.Common.{◌≡◌, ◌++◌, ◌∷◌, ◌∙◌, ◌+◌, ◌≤◌, List, [], length, Option, Some, ap, arith}
use Rattle.std.proofs.lemmas.List.{length-take-le}
use Rattle.program_stretches.specs.PartValue.{PartValue}
use Rattle.program_stretches.proofs.Cutting.{fresh_cut, none_lost}
use Rattle.program_stretches.proofs.cut.cut_off.Goals as goal

pub loop-alloc-preserved : goal.loop-alloc-preserved
loop-alloc-preserved g c =
    let at = c.place_to_cut-at.result in
    let made : c.push_reserved.new.self.items ≡ c.loop-alloc.parts.items ++ Some c.with_tasks.result ∷ [] =
    c.push_reserved.ensures.items
    ∙ ap (λ (ps : List (Option (PartValue g.row.T.Denot))). ps ++ Some c.with_tasks.result ∷ []) c.reserve.ensures.items in
    let there = ap length c.deref.ensures.value in
    let below : at ≤ length c.loop-alloc.rest.items = omega (arith, c.place_to_cut-at.ensures, there) in
    let short = ap length c.in-Ok-split_off.ensures.items ∙ length-take-le at c.loop-alloc.rest.items below in
    record {
      capacity = omega (arith, c.push_reserved.ensures.len, c.push_reserved.ensures.capacity, c.in-Ok.ensures.len, c.in-Ok.ensures.ok);
      end = omega (arith, short, below, c.loop-alloc.invariant.end);
      fresh =
          fresh_cut c.args.from at c.loop-alloc.rest.items c.split_off.new.self.items c.in-Ok-split_off.behind.items
          c.loop-alloc.parts.items c.push_reserved.new.self.items c.with_tasks.result
          c.loop-alloc.invariant.fresh c.with_tasks.ensures made c.in-Ok-split_off.ensures.items c.in-Ok-split_off.ensures.tail below;
      tasks =
          none_lost (c.args.from + at) at _ c.loop-alloc.rest.items c.split_off.new.self.items c.in-Ok-split_off.behind.items
          c.loop-alloc.parts.items c.push_reserved.new.self.items c.with_tasks.result
          c.with_tasks.ensures made c.in-Ok-split_off.ensures.items c.in-Ok-split_off.ensures.tail c.loop-alloc.invariant.tasks;
    }

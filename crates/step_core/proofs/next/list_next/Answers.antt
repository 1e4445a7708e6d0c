use Rattle.std.proofs.Common.{◌≡◌, ◌∙◌, ap, arith, length}
use Rattle.std.proofs.lemmas.List.{length-reverse}
use Rattle.superstep_memory.specs.PathOrder.{in_path_order}
use Rattle.step_core.specs.SlotParts.{path_in, living_by}
use Rattle.superstep_memory.proofs.InOrder.{count_in_order}
use Rattle.step_core.proofs.next.list_next.Goals as goal

pub set_undone-requires-clause-capacity : goal.set_undone-requires-clause-capacity
set_undone-requires-clause-capacity c =
    let next = in_path_order path_in (living_by c.args.done.now.items) in
    let l : length c.collect_living.new.living.items ≡ length (living_by c.args.done.now.items) =
    ap length c.collect_living.ensures.living ∙ length-reverse next ∙ count_in_order path_in (living_by c.args.done.now.items) in
    omega (
      arith,
      l,
      c.deref.ensures.len,
      c.reverse.ensures.len,
      c.collect_living.new.living.ok.0,
      c.collect_living.ensures.capacity,
      c.requires.places,
    )

use Rattle.std.proofs.Common.{◌∙◌, sym}
use Rattle.std.proofs.lemmas.Slice.Eq.{bytes_eq-Decides}
use Rattle.step_core.proofs.Places.{slot_left, rest_left, rest_below, rest_count, is_place, live_left}
use Rattle.step_core.proofs.reading.scan.Goals as goal

pub returns-then-is_of : goal.returns-then-is_of
returns-then-is_of c =
    is_place c.args.slots.now c.args.path.now c.loop-slot.place c.in-Some.slot
    (rest_below _ _ _ _ _ c.in-Some.ensures c.loop-slot.invariant.count)
    (slot_left c.args.slots.now c.loop-slot.rest c.in-Some.after c.loop-slot.place c.in-Some.slot c.loop-slot.invariant.rest c.in-Some.ensures)
    ((bytes_eq-Decides c.in-Some.slot.task.path c.args.path.now).0 (sym c.is_of.ensures ∙ c.if-is_of.true))

pub loop-slot-preserved : goal.loop-slot-preserved
loop-slot-preserved c = record {
  rest =
      rest_left c.args.slots.now c.loop-slot.rest c.in-Some.after c.loop-slot.place c.in-Some.slot
      c.loop-slot.invariant.rest c.in-Some.ensures;
  live =
      c.loop-slot.invariant.live
      ∙ live_left c.loop-slot.rest c.in-Some.after c.args.path.now c.in-Some.slot c.in-Some.ensures
      (sym c.is_of.ensures ∙ c.if-is_of.false);
  count = rest_count _ _ _ _ _ c.in-Some.ensures c.loop-slot.invariant.count;
}

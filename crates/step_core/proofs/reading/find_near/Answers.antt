use Rattle.std.proofs.Common.{◌∙◌, sym}
use Rattle.std.proofs.lemmas.Slice.Eq.{bytes_eq-Decides}
use Rattle.step_core.proofs.Places.{there_below, is_place}
use Rattle.step_core.proofs.reading.find_near.Goals as goal

pub returns-then-is_of : goal.returns-then-is_of
returns-then-is_of c =
    is_place c.args.slots.now c.args.path.now c.args.near c.in-Some.slot (there_below _ _ _ c.in-Some.ensures) c.in-Some.ensures
    ((bytes_eq-Decides c.in-Some.slot.task.path c.args.path.now).0 (sym c.is_of.ensures ∙ c.if-is_of.true))

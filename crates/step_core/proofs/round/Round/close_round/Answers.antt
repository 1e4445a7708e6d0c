use Rattle.std.proofs.Common.{sym, subst, arith}
use Rattle.std.specs.Arc.{arc_value}
use Rattle.task_lang.specs.Views.{plans}
use Rattle.step_core.specs.SlotParts.{AllSmall}
use Rattle.step_core.proofs.Closed.{looked_through, ends_faulted, ends_by_many, all_small}
use Rattle.step_core.proofs.round.Round.close_round.Goals as goal

pub end-requires : goal.end-requires
end-requires c =
    let at =
    looked_through c.self.invariant.0 c.self.view_is c.requires.running c.slots-slots.ensures c.missing_path.ensures c.in_default.is
    c.find_fault.ensures in
    record { round = (ends_faulted at c.in-Some-find_fault.is).0 }

pub returns-in-Some-find_fault-clause-closed : goal.returns-in-Some-find_fault-clause-closed
returns-in-Some-find_fault-clause-closed c =
    let at =
    looked_through c.self.invariant.0 c.self.view_is c.requires.running c.slots-slots.ensures c.missing_path.ensures c.in_default.is
    c.find_fault.ensures in
    (ends_faulted at c.in-Some-find_fault.is).1 _ c.end.ensures.ended

pub end-requires-then-count-gt4096 : goal.end-requires-then-count-gt4096
end-requires-then-count-gt4096 c =
    let at =
    looked_through c.self.invariant.0 c.self.view_is c.requires.running c.slots-slots.ensures c.missing_path.ensures c.in_default.is
    c.find_fault.ensures in
    record { round = (ends_by_many at c.in_default-find_fault.is c.count_living-count.ensures (omega arith) c.too_many.ensures).0.0 }

pub returns-then-count-gt4096-clause-closed : goal.returns-then-count-gt4096-clause-closed
returns-then-count-gt4096-clause-closed c =
    let at =
    looked_through c.self.invariant.0 c.self.view_is c.requires.running c.slots-slots.ensures c.missing_path.ensures c.in_default.is
    c.find_fault.ensures in
    (ends_by_many at c.in_default-find_fault.is c.count_living-count.ensures (omega arith) c.too_many.ensures).0.1 _
    c.end-then-count-gt4096.ensures.ended

pub returns-then-count-gt4096-clause-outcome : goal.returns-then-count-gt4096-clause-outcome
returns-then-count-gt4096-clause-outcome c =
    let at =
    looked_through c.self.invariant.0 c.self.view_is c.requires.running c.slots-slots.ensures c.missing_path.ensures c.in_default.is
    c.find_fault.ensures in
    (ends_by_many at c.in_default-find_fault.is c.count_living-count.ensures (omega arith) c.too_many.ensures).1

pub count_living-count-requires-clause-small : goal.count_living-count-requires-clause-small
count_living-count-requires-clause-small c =
    subst AllSmall (sym c.slots-slots.ensures)
    (all_small (plans c.self.inside.job.now.bodies) (arc_value c.self.inside.start_arrays) c.self.inside.step c.self.inside.live c.self.invariant.0.fits)

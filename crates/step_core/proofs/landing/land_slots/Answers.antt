use Rattle.std.proofs.Common.{◌∙◌, sym, ap, []}
use Rattle.superstep_memory.specs.Landing.{landed, over_in}
use Rattle.step_core.proofs.Deeds.{log_reported, none_over, one_over, over_path, none_over_sets}
use Rattle.step_core.proofs.landing.land_slots.Goals as goal

pub returns-then-are_all_sets-clause-fault : goal.returns-then-are_all_sets-clause-fault
returns-then-are_all_sets-clause-fault c =
    λ ps. none_over_sets ps c.args.slots.now c.args.arrays.now (sym c.are_all_sets.ensures ∙ c.if-are_all_sets.true)

pub returns-then-are_all_sets-clause-lands : goal.returns-then-are_all_sets-clause-lands
returns-then-are_all_sets-clause-lands c =
    λ e ps. c.write_all.ensures ∙ ap (λ qs. landed qs c.args.arrays.now) (sym (log_reported ps c.args.slots.now))

pub returns-in-None-clause-fault : goal.returns-in-None-clause-fault
returns-in-None-clause-fault c = λ ps.
    none_over ps c.args.slots.now c.args.arrays.now
    (sym c.in-None.is ∙ c.in_ok-land.ensures.place ∙ ap (over_in c.args.arrays.now [] 0) c.in_ok-puts.ensures)

pub returns-in-None-clause-lands : goal.returns-in-None-clause-lands
returns-in-None-clause-lands c = λ e ps.
    c.in_ok-land.ensures.lands c.in-None.is
    ∙ ap (λ qs. landed qs c.args.arrays.now) (c.in_ok-puts.ensures ∙ sym (log_reported ps c.args.slots.now))

pub returns-clause-fault : goal.returns-clause-fault
returns-clause-fault c = λ ps.
    c.blame_at.ensures
    ∙ one_over ps c.args.slots.now c.args.arrays.now c.in-Some.place
    (sym c.in-Some.is ∙ c.in_ok-land.ensures.place ∙ ap (over_in c.args.arrays.now [] 0) c.in_ok-puts.ensures)

pub returns-clause-lands : goal.returns-clause-lands
returns-clause-lands c = λ e.
    absurd (over_path c.args.slots.now c.args.arrays.now c.in-Some.place
    (sym c.in-Some.is ∙ c.in_ok-land.ensures.place ∙ ap (over_in c.args.arrays.now [] 0) c.in_ok-puts.ensures)
    (sym c.blame_at.ensures ∙ e))

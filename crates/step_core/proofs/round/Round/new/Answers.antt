use Rattle.std.proofs.Common.{◌∙◌, ap, map, List, arith}
use Rattle.std.specs.Arc.{arc_value}
use Rattle.task_lang.specs.Views.{plans}
use Rattle.step_core.specs.SlotValue.{SlotValue}
use Rattle.step_core.specs.Slots.{slots_of, fresh, missing_in}
use Rattle.step_core.proofs.Closed.{opened_so, fresh_mapped}
use Rattle.step_core.proofs.Rounds.{all_missing}
use Rattle.step_core.proofs.round.Round.new.Goals as goal

pub invariant_of-result : goal.invariant_of-result
invariant_of-result c =
    let ps = plans c.bodies.result.now in (
      (opened_so c.args.job.now c.args.limit (arc_value c.in-Ok.start_arrays) c.in_ok-live.live c.new-in-Ok.result.items
          (c.in-Ok.ensures.ok ∙ c.in_ok-arrays.ensures ∙ c.arrays.ensures) c.new-in-Ok.ensures.items
          c.bodies.result.now c.bodies.ensures.bodies c.starts.result.now c.starts.ensures
          (ap (λ (ss : List SlotValue). slots_of ps ss) c.in_ok-live.ensures ∙ fresh_mapped ps c.in_ok-tasks.tasks.items
          ∙ ap (map fresh) c.in_ok-tasks.ensures)
          c.bodies.ensures.kept.few_starts).0,
      (let l = ap missing_in c.in_ok-live.ensures ∙ all_missing c.in_ok-tasks.tasks.items in
          omega (arith, c.len-missing.ensures, c.in_ok-tasks.tasks.ok.0, l)),
    )

pub returns-in-Ok : goal.returns-in-Ok
returns-in-Ok c =
    let ps = plans c.bodies.result.now in
    (opened_so c.args.job.now c.args.limit (arc_value c.in-Ok.start_arrays) c.in_ok-live.live c.new-in-Ok.result.items
    (c.in-Ok.ensures.ok ∙ c.in_ok-arrays.ensures ∙ c.arrays.ensures) c.new-in-Ok.ensures.items
    c.bodies.result.now c.bodies.ensures.bodies c.starts.result.now c.starts.ensures
    (ap (λ (ss : List SlotValue). slots_of ps ss) c.in_ok-live.ensures ∙ fresh_mapped ps c.in_ok-tasks.tasks.items
    ∙ ap (map fresh) c.in_ok-tasks.ensures)
    c.bodies.ensures.kept.few_starts).1

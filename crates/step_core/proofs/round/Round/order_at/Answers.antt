use Rattle.std.proofs.Common.{◌≡◌, ◌∙◌, ◌<◌, Some, slice_get, sym, ap, length, subst, arith}
use Rattle.std.specs.Arc.{arc_value}
use Rattle.std.specs.Option.{option_map}
use Rattle.step_core.specs.SlotParts.{IsPlaceOf}
use Rattle.step_core.specs.Taking.{task_at}
use Rattle.step_core.specs.OrderValue.{OrderValue}
use Rattle.step_core.specs.RoundValue.{RoundValue, status_in}
use Rattle.step_core.proofs.Places.{is_place}
use Rattle.step_core.proofs.Rounds.{is_order, some_there, task_there}
use Rattle.step_core.proofs.Beside.{task_found, tasks_count}
use Rattle.step_core.proofs.round.Round.order_at.Goals as goal

pub new-requires-clause-order : goal.new-requires-clause-order
new-requires-clause-order c =
    let below : c.args.place < length c.self.inside.live =
    subst (λ (r : RoundValue). c.args.place < length r.slots) (sym c.self.view_is) c.requires.place in
    let there = some_there c.self.inside.live c.args.place below in
    let found = task_found c.self.inside.live (arc_value c.in_ok-tasks.tasks).items c.args.place there.0 c.in_ok-tasks.ensures there.1 in
    is_order _ c.self.invariant.0 (ap status_in c.self.view_is ∙ c.requires.running) c.args.place there.0 _ _
    there.1 found c.in_ok-arrays.ensures

pub new-requires-clause-place : goal.new-requires-clause-place
new-requires-clause-place c =
    let below : c.args.place < length c.self.inside.live =
    subst (λ (r : RoundValue). c.args.place < length r.slots) (sym c.self.view_is) c.requires.place in
    let l = tasks_count c.self.inside.live (arc_value c.in_ok-tasks.tasks).items c.in_ok-tasks.ensures in
    omega (arith, l, below)

pub returns-clause-path : goal.returns-clause-path
returns-clause-path c =
    let below : c.args.place < length c.self.inside.live =
    subst (λ (r : RoundValue). c.args.place < length r.slots) (sym c.self.view_is) c.requires.place in
    let there = some_there c.self.inside.live c.args.place below in
    let found = task_found c.self.inside.live (arc_value c.in_ok-tasks.tasks).items c.args.place there.0 c.in_ok-tasks.ensures there.1 in
    subst (λ (r : RoundValue). IsPlaceOf r.slots c.new.result.task.path c.args.place) c.self.view_is
    (is_place _ _ c.args.place there.0 below there.1
    (sym (ap (λ (o : OrderValue). o.task.path) c.new.ensures ∙ (λ i. (found i).path))))

pub returns-clause-task : goal.returns-clause-task
returns-clause-task c =
    let below : c.args.place < length c.self.inside.live =
    subst (λ (r : RoundValue). c.args.place < length r.slots) (sym c.self.view_is) c.requires.place in
    let there = some_there c.self.inside.live c.args.place below in
    let found = task_found c.self.inside.live (arc_value c.in_ok-tasks.tasks).items c.args.place there.0 c.in_ok-tasks.ensures there.1 in
    subst (λ (r : RoundValue). option_map task_at (slice_get r.slots c.args.place) ≡ Some c.new.result.task) c.self.view_is
    (task_there _ c.args.place there.0 _ there.1
    (ap (λ (o : OrderValue). o.task) c.new.ensures ∙ found))

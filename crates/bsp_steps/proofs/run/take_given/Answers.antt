use Rattle.std.proofs.Common.{◌≡◌, ◌∙◌, length, sym, ap, subst, arith}
use Rattle.programs.specs.Order.{AreOrdered}
use Rattle.programs.specs.Steps.{IsRunning}
use Rattle.task_bodies.specs.Bodies.{member_frame}
use Rattle.task_bodies.proofs.Framed.{same_of}
use Rattle.bsp_steps.specs.Given.{placed_from}
use Rattle.bsp_steps.specs.Runs.{RunValue, placed}
use Rattle.bsp_steps.proofs.Placed.{Tasks, placed_count, placed_ordered, placed_runs}
use Rattle.bsp_steps.proofs.Took.{Stepped}
use Rattle.bsp_steps.proofs.run.take_given.Goals as goal

pub swap_tasks-requires : goal.swap_tasks-requires
swap_tasks-requires c =
    let count : length c.copy_placed.new.copies.items ≡ length c.tasks.result.now =
    ap length c.in_ok-copy_placed.ensures ∙ placed_count 0 c.tasks.result.now in
    record { few = omega (arith, count, c.tasks.ensures.few) }

pub step-requires-clause-ordered : goal.step-requires-clause-ordered
step-requires-clause-ordered c =
    let is : c.swap_tasks.new.self.tasks ≡ placed_from 0 c.args.steps.now.tasks =
    ap (λ (v : RunValue). v.tasks) c.swap_tasks.ensures.given ∙ c.in_ok-copy_placed.ensures ∙ ap (placed_from 0) c.tasks.ensures.live in
    subst (λ (ts : Tasks). AreOrdered member_frame ts) (sym (same_of c.swap_tasks.new.self.tasks ∙ is))
    (placed_ordered c.args.steps.now.tasks c.requires.ordered)

pub returns-in-Ok-clause-stepped : goal.returns-in-Ok-clause-stepped
returns-in-Ok-clause-stepped c =
    let live : c.copy_placed.new.copies.items ≡ placed_from 0 c.args.steps.now.tasks =
    c.in_ok-copy_placed.ensures ∙ ap (placed_from 0) c.tasks.ensures.live in
    let is : c.swap_tasks.new.self ≡ placed c.args.steps.now =
    c.swap_tasks.ensures.given ∙ ap (λ (ts : Tasks). record c.args.steps.now { tasks = ts }) live in
    let runs : IsRunning c.swap_tasks.new.self =
    subst (λ (q : RunValue). IsRunning q) (sym is) (placed_runs c.args.steps.now c.requires.running) in
    subst (λ (q : RunValue). Stepped c.args.deeds.now q c.step.new.self) is (c.in-Ok.ensures.stepped runs)

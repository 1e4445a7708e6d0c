use Rattle.std.proofs.Common.{◌+◌, ◌-◌, ◌++◌, ◌∷◌, ◌∙◌, [], List, sym, ap, arith, append_assoc}
use Rattle.task_bodies.specs.Bodies.{numbered}
use Rattle.bsp_steps.specs.Given.{TaskValue, spawned_at, all_spawned}
use Rattle.bsp_steps.proofs.Numbered.{new_task, next_child}
use Rattle.bsp_steps.proofs.task.push_spawned.Goals as goal

pub loop-number-preserved : goal.loop-number-preserved
loop-number-preserved c =
    let n = c.loop-number.number in
    let ts : List TaskValue = c.loop-number.tasks.items in
    let path = c.args.path.now.items in
    let more : List TaskValue = numbered path (c.args.begun + (n + 1)) (all_spawned c.args.place (n + 1) (c.args.count - (n + 1))) in
    record {
      all =
          ap (λ (us : List TaskValue). us ++ more) c.in_ok-push.ensures.items
          ∙ (λ i. (ts ++ new_task (c.child_of.ensures i) (spawned_at c.args.place n) ∷ []) ++ more)
          ∙ append_assoc ts (new_task (path ++ (c.args.begun + n) ∷ []) (spawned_at c.args.place n) ∷ []) more
          ∙ ap (λ (us : List TaskValue). ts ++ us) (sym (next_child path c.args.begun c.args.place n c.args.count c.loop-number-test.true))
          ∙ c.loop-number.invariant.all;
      within = omega (arith, c.loop-number-test.true);
    }

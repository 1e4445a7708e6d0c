use Rattle.std.proofs.Common.{◌≡◌, ◌+◌, ◌-◌, ◌++◌, ◌∷◌, ◌∙◌, [], List, ℕ, sym, ap, arith, append_assoc}
use Rattle.task_bodies.specs.Bodies.{numbered}
use Rattle.bsp_steps.specs.Given.{TaskValue, stayed, start_origins}
use Rattle.bsp_steps.proofs.Numbered.{new_task, next_begun}
use Rattle.bsp_steps.proofs.task.start_tasks.Goals as goal

pub loop-place-preserved : goal.loop-place-preserved
loop-place-preserved c =
    let n = c.loop-place.place in
    let ts : List TaskValue = c.loop-place.tasks.items in
    let more : List TaskValue = numbered [] (n + 1) (start_origins (n + 1) (c.args.count - (n + 1))) in
    let path : c.child_of.result.items ≡ n ∷ [] = c.child_of.ensures ∙ ap (λ (ns : List ℕ). ns ++ n ∷ []) c.new-none.ensures.items in
    record {
      all =
          ap (λ (us : List TaskValue). us ++ more) c.in_ok-push.ensures.items
          ∙ (λ i. (ts ++ new_task (path i) (stayed n) ∷ []) ++ more)
          ∙ append_assoc ts (new_task (n ∷ []) (stayed n) ∷ []) more
          ∙ ap (λ (us : List TaskValue). ts ++ us) (sym (next_begun n c.args.count c.loop-place-test.true))
          ∙ c.loop-place.invariant.all;
      within = omega (arith, c.loop-place-test.true);
    }

use Rattle.std.proofs.Common.{◌∙◌, ◌∷◌, [], arith}
use Rattle.step_core.specs.SlotParts.{path_in}
use Rattle.superstep_memory.proofs.InOrder.{put_next, length_cut}
use Rattle.step_core.proofs.next.put_tasks.Goals as goal

pub loop-task-preserved : goal.loop-task-preserved
loop-task-preserved c = record {
  items =
      put_next path_in c.loop-task.rest.items c.pop.new.self.items c.in-Some.task c.loop-task.living.items c.put_task.new.living.items _
      c.in-Some.ensures.items c.put_task.ensures.items c.loop-task.invariant.items;
  more =
      let l = length_cut c.loop-task.rest.items c.pop.new.self.items (c.in-Some.task ∷ []) c.in-Some.ensures.items in
      omega (arith, l, c.put_task.ensures.one_more, c.loop-task.invariant.more);
  capacity = c.put_task.ensures.capacity ∙ c.loop-task.invariant.capacity;
}

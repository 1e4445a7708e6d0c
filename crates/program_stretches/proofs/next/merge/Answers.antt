use Rattle.std.proofs.lemmas.Grind.{common_steps}
use Rattle.std.proofs.Common.{List, subst, reverse, arith}
use Rattle.program_stretches.specs.Next.{IsStrayNext, PassesBy}
use Rattle.program_stretches.proofs.Placing.{stray_moved, task_moved}
use Rattle.program_stretches.proofs.next.merge.Goals as goal

pub loop-tasks-preserved-then-is_stray_next : goal.loop-tasks-preserved-then-is_stray_next
loop-tasks-preserved-then-is_stray_next g c =
    let q = g.T.OnPath.path_of in
    let v = c.loop-tasks.invariant in
    let next = subst (λ (ts : List g.row.T.Denot). IsStrayNext q (reverse ts) (reverse c.loop-tasks.strays.items)) c.deref.ensures.value
    (subst (λ (ts : List g.row.T.Denot). IsStrayNext q (reverse c.deref.result.now) (reverse ts)) c.deref-in-loop-tasks.ensures.value (c.is_stray_next.ensures.stray c.if-is_stray_next.true)) in
    record {
      merges =
          stray_moved q (reverse c.args.tasks.now.items) (reverse c.args.strays.now.items) c.loop-tasks.all.items
          c.move_last.new.others.items c.loop-tasks.tasks.items c.loop-tasks.strays.items
          c.move_last.new.tasks.items v.merges next c.move_last.ensures.moved;
      capacity = omega (arith, v.capacity, c.move_last.ensures.count, c.move_last.ensures.capacity);
    }

pub loop-tasks-preserved : goal.loop-tasks-preserved
loop-tasks-preserved g c =
    let q = g.T.OnPath.path_of in
    let v = c.loop-tasks.invariant in
    let next = subst (λ (ts : List g.row.T.Denot). PassesBy q (reverse ts) (reverse c.loop-tasks.strays.items)) c.deref.ensures.value
    (subst (λ (ts : List g.row.T.Denot). PassesBy q (reverse c.deref.result.now) (reverse ts)) c.deref-in-loop-tasks.ensures.value (c.is_stray_next.ensures.task c.if-is_stray_next.false)) in
    record {
      merges =
          task_moved q (reverse c.args.tasks.now.items) (reverse c.args.strays.now.items) c.loop-tasks.all.items
          c.move_last-else-is_stray_next.new.others.items c.loop-tasks.tasks.items
          c.move_last-else-is_stray_next.new.tasks.items (reverse c.loop-tasks.strays.items) v.merges next
          c.move_last-else-is_stray_next.ensures.moved;
      capacity = omega (arith, v.capacity, c.move_last-else-is_stray_next.ensures.count, c.move_last-else-is_stray_next.ensures.capacity);
    }

pub move_last-requires-clause-some : goal.move_last-requires-clause-some
move_last-requires-clause-some = grind (arith, common_steps)

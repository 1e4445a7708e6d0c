use Rattle.std.proofs.lemmas.Grind.{common_steps}
use Rattle.std.proofs.Common.{◌∙◌, List, subst, reverse, arith}
use Rattle.std.specs.Option.{option_map}
use Rattle.program_stretches.specs.Next.{HasMovedLast, IsFirstBefore}
use Rattle.program_stretches.proofs.Placing.{front_same, end_within}
use Rattle.program_stretches.proofs.next.keep_early.Goals as goal

pub loop-tasks-preserved : goal.loop-tasks-preserved
loop-tasks-preserved g c =
    let q = g.T.OnPath.path_of in
    let low = option_map (λ p. p.items) c.args.low.now in
    let moved =
    subst (λ (ts : List g.row.T.Denot). HasMovedLast c.loop-tasks.strays.items c.move_last.new.tasks.items ts c.move_last.new.others.items)
    c.in_ok-reserve.ensures.items c.move_last.ensures.moved in
    let first =
    subst (λ (ts : List g.row.T.Denot). IsFirstBefore q low (reverse ts)) c.deref.ensures.value
    (c.is_first_below.ensures.below c.loop-tasks-test.true) in
    record {
      same =
          front_same q c.loop-tasks.strays.items c.move_last.new.tasks.items c.loop-tasks.tasks.items c.move_last.new.others.items moved
          ∙ c.loop-tasks.invariant.same;
      end =
          end_within q low c.loop-tasks.strays.items c.move_last.new.tasks.items c.loop-tasks.tasks.items c.move_last.new.others.items moved
          first;
    }

pub move_last-requires-clause-some : goal.move_last-requires-clause-some
move_last-requires-clause-some = grind (arith, common_steps)

use Rattle.std.proofs.lemmas.Grind.{common_steps}
use Rattle.std.proofs.Common.{List, subst, reverse, arith}
use Rattle.program_stretches.specs.Next.{PassesBy}
use Rattle.program_stretches.proofs.Placing.{passes}
use Rattle.program_stretches.proofs.next.receive.Goals as goal

pub returns-then-not-is_stray_next : goal.returns-then-not-is_stray_next
returns-then-not-is_stray_next g c =
    let q = g.T.OnPath.path_of in
    let next = subst (λ (ts : List g.row.T.Denot). PassesBy q (reverse ts) (reverse c.args.strays.now.items)) c.deref.ensures.value
    (subst (λ (ts : List g.row.T.Denot). PassesBy q (reverse c.deref.result.now) (reverse ts)) c.deref-2.ensures.value (c.is_stray_next.ensures.task c.if-not-is_stray_next.true)) in
    passes q c.args.tasks.now.items (reverse c.args.strays.now.items) c.requires.tasks c.requires.strays next

pub returns : goal.returns
returns = grind (arith, common_steps)

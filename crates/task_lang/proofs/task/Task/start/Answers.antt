use Rattle.std.proofs.Common.{arith}
use Rattle.std.proofs.lemmas.Int.{ints}
use Rattle.task_lang.specs.Views.{plans}
use Rattle.task_lang.proofs.Begins.{task-begins}
use Rattle.task_lang.proofs.task.Task.start.Goals as goal

pub returns : goal.returns
returns c =
    task-begins (plans c.args.bodies.now) c.args.path.items c.args.body c.args.arg _ c.in_ok-locals.locals.items c.local_count-count.result
    (omega (arith, ints)) c.local_count-count.ensures (c.in_ok-locals.ensures.items_if_clones_equal (λ y same. same))

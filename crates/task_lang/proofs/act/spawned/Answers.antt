use Rattle.std.proofs.Common.{w64, FitsSigned, rules, ◌∙◌}
use Rattle.std.proofs.lemmas.Int.{to_z-of_z}
use Rattle.std.proofs.lemmas.Result.{IfOk-weaker}
use Rattle.task_lang.specs.Meaning.{started}
use Rattle.task_lang.specs.Views.{plans}
use Rattle.task_lang.proofs.act.spawned.Goals as goal

pub returns : goal.returns
returns c =
    let fits : FitsSigned w64 c.args.arg = search rules in
    let back = to_z-of_z w64 c.args.arg fits in
    IfOk-weaker c.start.result _ _
    (λ t h. h ∙ (λ i. started (plans c.args.scene.now.bodies.now) (c.child_of-path.ensures i) c.args.body (back i))) c.start.ensures

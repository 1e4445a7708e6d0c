use Rattle.std.proofs.lemmas.Grind.{common_steps}
use Rattle.std.proofs.Common.{◌≡◌, ◌∙◌, sym, ap, ℤ, Result, Ok, rules, w64, FitsSigned, to_z, of_z, arith}
use Rattle.std.proofs.lemmas.Int.{to_z-of_z}
use Rattle.std.proofs.lemmas.Result.{IfOk-weaker}
use Rattle.task_lang.specs.declared.fault.Fault.{Fault}
use Rattle.task_lang.specs.Meaning as spec
use Rattle.task_lang.specs.Views.{setting, doing, plans}
use Rattle.task_lang.proofs.act.act.Goals as goal

pub returns-in-Ok-value_of : goal.returns-in-Ok-value_of
returns-in-Ok-value_of c =
    let s = setting c.args.scene.now in
    let d = doing (plans c.args.scene.now.bodies.now) c.args.locals.now c.args.work.now in
    let fits : FitsSigned w64 c.in-Ok-value_of.value = search rules in
    let v : Ok (to_z w64 (of_z w64 c.in-Ok-value_of.value)) ≡ spec.value_of s d.locals c.in-Spawn.expr =
    ap Ok (to_z-of_z w64 c.in-Ok-value_of.value fits) ∙ sym c.in-Ok-value_of.is ∙ c.value_of-in-Spawn.ensures in
    IfOk-weaker c.spawn.result _ _ (λ t h. h
    ∙ ap (λ (r : Result ℤ Fault). spec.with_ok r (spec.spawn s d c.in-Spawn.body)) v
    ∙ ap (spec.act s d) (sym c.in-Spawn.is)) (c.spawn.ensures c.args.locals.now)

pub returns-in_ok-push-in-Ok : goal.returns-in_ok-push-in-Ok
returns-in_ok-push-in-Ok = grind (arith, common_steps)

use Rattle.std.proofs.Common.{sym, subst}
use Rattle.std.proofs.lemmas.Result.{IfOk-weaker}
use Rattle.task_code.specs.declared.code.Line.{Line}
use Rattle.task_code.specs.Open as spec
use Rattle.task_code.proofs.builder.Builder.line.Goals as goal

pub returns-in-Else : goal.returns-in-Else
returns-in-Else c =
    IfOk-weaker c.otherwise.result _ _
    (λ fits reported fs b h. subst (λ (x : Line). spec.IsStep fits (spec.step_of x fs b) c.otherwise.new.self) (sym c.in-Else.is) (reported fs b c.in-Else.field-0 h))
    c.otherwise.ensures

use Rattle.std.proofs.Common.{ap, sym, ◌∙◌, Some}
use Rattle.task_code.proofs.Building.{close-if, close-else, close-while, not-open}
use Rattle.task_code.proofs.builder.close.Goals as goal

pub returns-in_ok-push-in-If : goal.returns-in_ok-push-in-If
returns-in_ok-push-in-If c =
    λ f fs b is at. c.in_ok-push-in-If.ensures.items
    ∙ close-if f fs b c.args.code.now.items c.args.place c.len-here.result _ c.in-If.test is at (c.len-here.ensures ∙ c.args.code.now.ok.0)
    (sym c.in-Some.ensures.line ∙ ap Some c.in-If.is)

pub returns-in_ok-push-in-Else : goal.returns-in_ok-push-in-Else
returns-in_ok-push-in-Else c =
    λ f fs b is at. c.in_ok-push-in-Else.ensures.items
    ∙ close-else f fs b c.args.code.now.items c.args.place c.len-here.result _ is at (c.len-here.ensures ∙ c.args.code.now.ok.0)
    (sym c.in-Some.ensures.line ∙ ap Some c.in-Else.is)

pub returns-in_ok-push-in-While : goal.returns-in_ok-push-in-While
returns-in_ok-push-in-While c =
    λ f fs b is at. c.in_ok-push-in-While.ensures.items
    ∙ close-while f fs b c.args.code.now.items c.args.place c.len-here.result _ c.in-While.test is at
    (c.len-here.ensures ∙ c.args.code.now.ok.0) (sym c.in-Some.ensures.line ∙ ap Some c.in-While.is)

pub returns-in_default-line : goal.returns-in_default-line
returns-in_default-line c =
    λ f fs b is at. absurd
    (not-open f fs b c.args.code.now.items c.args.place c.in-Some.line is at (sym c.in-Some.ensures.line)
    (λ e n. c.in_default-line.not-If e n) (λ n. c.in_default-line.not-Else n) (λ e n. c.in_default-line.not-While e n))

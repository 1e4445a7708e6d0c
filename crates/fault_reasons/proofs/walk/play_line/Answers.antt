use Rattle.std.proofs.Common.{Some, arith, ap, ◌∙◌}
use Rattle.task_code.proofs.Jumps.{if-within, while-within, back-within, else-within, end-within, some-within}
use Rattle.fault_reasons.proofs.walk.play_line.Goals as goal

pub overflow_add-place-in-If-2 : goal.overflow_add-place-in-If-2
overflow_add-place-in-If-2 c = omega (arith, if-within _ _ _ _ c.requires.matched (c.requires.at ∙ ap Some c.in-If.is))

pub overflow_add-place-in-While : goal.overflow_add-place-in-While
overflow_add-place-in-While c = omega (arith, while-within _ _ _ _ c.requires.matched (c.requires.at ∙ ap Some c.in-While.is))

pub overflow_add-place-in-While-2 : goal.overflow_add-place-in-While-2
overflow_add-place-in-While-2 c = omega (arith, while-within _ _ _ _ c.requires.matched (c.requires.at ∙ ap Some c.in-While.is))

pub overflow_add-place-in-While-3 : goal.overflow_add-place-in-While-3
overflow_add-place-in-While-3 c = omega (arith, while-within _ _ _ _ c.requires.matched (c.requires.at ∙ ap Some c.in-While.is))

pub overflow_add-place-in-EndWhile : goal.overflow_add-place-in-EndWhile
overflow_add-place-in-EndWhile c = omega (arith, end-within _ _ _ _ c.requires.matched (c.requires.at ∙ ap Some c.in-EndWhile.is))

pub overflow_sub-place : goal.overflow_sub-place
overflow_sub-place c = omega (arith, back-within _ _ _ _ c.requires.matched (c.requires.at ∙ ap Some c.in-EndWhile.is))

pub overflow_add-place : goal.overflow_add-place
overflow_add-place c = omega (arith, if-within _ _ _ _ c.requires.matched (c.requires.at ∙ ap Some c.in-If.is))

pub overflow_add-place-in-If : goal.overflow_add-place-in-If
overflow_add-place-in-If c = omega (arith, if-within _ _ _ _ c.requires.matched (c.requires.at ∙ ap Some c.in-If.is))

pub overflow_add-result : goal.overflow_add-result
overflow_add-result c = omega (arith, some-within c.args.code.now c.args.place c.args.line.now c.requires.at)

pub overflow_add-result-in-Syncs : goal.overflow_add-result-in-Syncs
overflow_add-result-in-Syncs c = omega (arith, some-within c.args.code.now c.args.place c.args.line.now c.requires.at)

pub overflow_add-result-in-Else : goal.overflow_add-result-in-Else
overflow_add-result-in-Else c = omega (arith, else-within _ _ _ c.requires.matched (c.requires.at ∙ ap Some c.in-Else.is))

pub overflow_add-result-in-Else-2 : goal.overflow_add-result-in-Else-2
overflow_add-result-in-Else-2 c = omega (arith, else-within _ _ _ c.requires.matched (c.requires.at ∙ ap Some c.in-Else.is))

pub overflow_add-result-in-EndIf : goal.overflow_add-result-in-EndIf
overflow_add-result-in-EndIf c = omega (arith, some-within c.args.code.now c.args.place c.args.line.now c.requires.at)

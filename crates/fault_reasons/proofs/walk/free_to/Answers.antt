use Rattle.std.proofs.Common.{Some, arith, ap, sym, ◌∙◌}
use Rattle.task_code.proofs.Jumps.{else-within}
use Rattle.fault_reasons.proofs.walk.free_to.Goals as goal

pub overflow_add-result-in-Else : goal.overflow_add-result-in-Else
overflow_add-result-in-Else c = omega (arith, else-within _ _ _ c.requires.matched (sym c.in_ok-line.ensures.line ∙ ap Some c.in-Else.is))

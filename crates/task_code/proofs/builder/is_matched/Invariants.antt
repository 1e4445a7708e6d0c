use Rattle.task_code.proofs.Building.{Progress}
use Rattle.task_code.proofs.builder.is_matched.Given as goal

abbrev pub invariant-loop-line : goal.invariant-loop-line
invariant-loop-line l = Progress l.code l.line-index l.builder

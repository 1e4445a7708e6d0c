use Rattle.std.proofs.Common.{length}
use Rattle.std.specs.Prelude.{◌↔◌}
use Rattle.std.specs.List.{AllByRecursion}
use Rattle.task_code.specs.Rules.{IsOfFirst}
use Rattle.task_code.proofs.job.are_of_first.Given as goal

abbrev pub invariant-loop-first : goal.invariant-loop-first
invariant-loop-first l = AllByRecursion IsOfFirst l.bodies ↔ AllByRecursion IsOfFirst l.rest

abbrev pub decreases-loop-first : goal.decreases-loop-first
decreases-loop-first l = length l.rest

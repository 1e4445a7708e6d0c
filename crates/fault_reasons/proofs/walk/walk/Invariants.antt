use Rattle.std.proofs.Common.{◌≡◌}
use Rattle.task_lang.specs.Views.{setting}
use Rattle.fault_reasons.specs.Walk.{walked}
use Rattle.fault_reasons.proofs.walk.walk.Given as goal

abbrev pub invariant-loop-left : goal.invariant-loop-left
invariant-loop-left l = walked (setting l.scene) l.code l.left l.place l.doing ≡ walked (setting l.scene) l.code 100000 l.first l.fn.doing

abbrev pub decreases-loop-left : goal.decreases-loop-left
decreases-loop-left l = l.left

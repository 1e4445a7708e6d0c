use Rattle.std.proofs.Common.{arith}
use Rattle.std.proofs.lemmas.Grind.{common_steps}
use Rattle.std.proofs.lemmas.Bool.{false≢true}
use Rattle.task_code.proofs.Depths.{too-deep}
use Rattle.task_code.proofs.limits.are_shallow.Goals as goal

pub returns-then-open_lines-gt-MOST_OPEN : goal.returns-then-open_lines-gt-MOST_OPEN
returns-then-open_lines-gt-MOST_OPEN c = (
  λ t. absurd (false≢true t),
  λ h. absurd
      (too-deep c.loop-line.open_lines _ c.in-Some.line.now c.in-Some.after.now _ c.in-Some.ensures.cases.0 c.opened-open_lines.ensures
      c.if-open_lines-gt-MOST_OPEN.true (c.loop-line.invariant.same.0 h)),
)

pub returns : goal.returns
returns = grind (arith, common_steps)

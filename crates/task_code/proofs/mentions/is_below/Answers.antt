use Rattle.std.proofs.lemmas.Grind.{common_steps}
use Rattle.std.proofs.Common.{Bool, ◌&&◌, ap, sym, ◌∙◌, subst, arith}
use Rattle.std.specs.Prelude.{IsTrue}
use Rattle.task_code.proofs.AskedAlong.{line_fits}
use Rattle.task_code.proofs.Mentioned.{line_below}
use Rattle.task_code.proofs.mentions.is_below.Goals as goal

pub returns-then-set-clause-below : goal.returns-then-set-clause-below
returns-then-set-clause-below c =
    ap (λ (b : Bool). b && c.are_below_operands-operands.result) (sym c.if-set.true)
    ∙ line_below c.args.count c.args.line.now c.operands_of.result c.sets_below-set.result c.are_below_operands-operands.result
    c.operands_of.ensures c.sets_below-set.ensures c.are_below_operands-operands.ensures.below

pub returns-then-set-clause-fits : goal.returns-then-set-clause-fits
returns-then-set-clause-fits c =
    subst IsTrue (line_fits c.args.line.now c.operands_of.result c.operands_of.ensures) c.are_below_operands-operands.ensures.fits

pub returns-else-set-clause-fits : goal.returns-else-set-clause-fits
returns-else-set-clause-fits c =
    subst IsTrue (line_fits c.args.line.now c.operands_of.result c.operands_of.ensures) c.are_below_operands-operands.ensures.fits

pub returns-else-set-clause-below : goal.returns-else-set-clause-below
returns-else-set-clause-below = grind (arith, common_steps)

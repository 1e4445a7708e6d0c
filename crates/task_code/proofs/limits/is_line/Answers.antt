use Rattle.std.proofs.Common.{◌∙◌, sym}
use Rattle.task_code.proofs.AskedAlong.{line_is}
use Rattle.task_code.proofs.limits.is_line.Goals as goal

pub returns-then-has_body : goal.returns-then-has_body
returns-then-has_body c =
    c.are_operands.ensures ∙ line_is c.args.arrays c.args.bodies c.args.line.now c.operands_of.result c.operands_of.ensures
    (sym c.has_body.ensures ∙ c.if-has_body.true)

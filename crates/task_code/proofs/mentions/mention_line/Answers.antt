use Rattle.std.proofs.Common.{◌≡◌, sym, ◌∙◌}
use Rattle.std.specs.Prelude.{Some}
use Rattle.task_code.specs.Mentions.{mentioned, set_in}
use Rattle.task_code.proofs.Mentioned.{line_mentioned}
use Rattle.task_code.proofs.mentions.mention_line.Goals as goal

pub returns : goal.returns
returns c =
    let m : mentioned c.args.known (set_in c.args.line.now) ≡ Some c.in_ok-with_set.with_set =
    sym c.mention_set.ensures ∙ c.in_ok-with_set.was in
    c.mention_operands.ensures
    ∙ line_mentioned c.args.known c.in_ok-with_set.with_set c.args.line.now c.operands_of.result c.operands_of.ensures m

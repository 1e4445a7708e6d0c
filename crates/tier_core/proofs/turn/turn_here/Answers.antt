use Rattle.std.proofs.Common.{sym, ◌∙◌, ap}
use Rattle.tier_core.specs.Turn.{turn_by}
use Rattle.tier_core.proofs.turn.turn_here.Goals as goal

-- the second step of a poll needs no shape
pub returns-in-Refreshing : goal.returns-in-Refreshing
returns-in-Refreshing c =
    c.refresh.ensures c.args.shape.now c.args.ends
    ∙ sym (ap (λ x. turn_by c.args.shape.now c.args.ends c.args.word x c.args.view) c.in-Refreshing.is)

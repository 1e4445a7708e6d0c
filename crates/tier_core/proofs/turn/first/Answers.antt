use Rattle.std.proofs.Common.{sym, ◌∙◌, ap}
use Rattle.tier_core.specs.Turn.{first_turn}
use Rattle.tier_core.proofs.turn.first.Goals as goal

-- the first step of a join looks at the root alone
pub returns-in-Join : goal.returns-in-Join
returns-in-Join c =
    c.look_around.ensures c.args.own c.args.view ∙ sym (ap (λ x. first_turn x c.args.root c.args.own c.args.view) c.in-Join.is)

use Rattle.std.proofs.Common.{subst}
use Rattle.tier_steps.specs.declared.view.View.{View}
use Rattle.tier_calls.specs.Goes.{After}
use Rattle.tier_calls.proofs.Running.{looks_on}
use Rattle.tier_calls.proofs.tiers.Tiers.look_on.Goals as goal

pub returns : goal.returns
returns c =
    looks_on c.args.self.now 0 c.args.at.now c.looked.new.at c.look_next.new.token c.requires.at c.requires.going c.look_next.ensures
    c.looked.ensures.token
    (subst (λ (v : View). After c.args.self.now.key.shape c.args.at.now.progress v c.looked.new.at) c.view-before.ensures c.looked.ensures.next)

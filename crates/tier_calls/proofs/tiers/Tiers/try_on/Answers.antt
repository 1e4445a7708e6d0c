use Rattle.std.proofs.Common.{ap, sym, subst, refl}
use Rattle.tier_steps.specs.declared.view.View.{View}
use Rattle.tier_steps.specs.Step.{Needs}
use Rattle.tier_core.specs.declared.call.Turn.{Turn}
use Rattle.tier_rule.specs.Reach.{PlanSays}
use Rattle.tier_calls.specs.Holding.{Won, Lost}
use Rattle.tier_calls.specs.Goes.{After}
use Rattle.tier_calls.proofs.Running.{try_needs, try_says, won_on, lost_on, same_turn}
use Rattle.tier_calls.proofs.tiers.Tiers.try_on.Goals as goal

pub attempt-requires-clause-needs : goal.attempt-requires-clause-needs
attempt-requires-clause-needs c =
    let r =
    same_turn c.args.ends c.args.at.now.progress c.shape.ensures.value c.word.ensures.word c.view.ensures c.turn_here-turn.ensures in
    subst (λ (z : Turn). Needs c.args.self.now.key.shape z.kind c.args.at.now.token.tier c.args.at.now.token.word c.args.at.now.token.view)
    (sym r)
    (try_needs c.args.self.now c.args.ends c.args.at.now c.requires.at c.requires.stands c.requires.ends)

pub attempt-requires-clause-plan : goal.attempt-requires-clause-plan
attempt-requires-clause-plan c =
    let r =
    same_turn c.args.ends c.args.at.now.progress c.shape.ensures.value c.word.ensures.word c.view.ensures c.turn_here-turn.ensures in
    subst (λ (z : Turn). PlanSays c.args.self.now.key z.kind c.args.at.now.token.word) (sym r)
    (try_says c.args.self.now c.args.ends c.args.at.now c.requires.at c.requires.stands c.requires.ends)

pub returns-then-attempt : goal.returns-then-attempt
returns-then-attempt c =
    let r =
    same_turn c.args.ends c.args.at.now.progress c.shape.ensures.value c.word.ensures.word c.view.ensures c.turn_here-turn.ensures in
    won_on c.args.self.now c.args.ends c.args.at.now c.requires.at c.requires.stands c.requires.ends _ c.attempt.new.token
    (subst (λ (z : Turn). Won z.kind c.args.at.now.token c.attempt.new.token) r c.if-attempt.ensures) refl (ap (λ (z : Turn). z.next) r)
    (ap (λ (z : Turn). z.answer) r)

pub returns-else-attempt : goal.returns-else-attempt
returns-else-attempt c =
    let r =
    same_turn c.args.ends c.args.at.now.progress c.shape.ensures.value c.word.ensures.word c.view.ensures c.turn_here-turn.ensures in
    lost_on c.args.self.now c.args.ends c.args.at.now c.requires.at c.requires.stands c.requires.ends c.looked.new.at c.attempt.new.token
    (subst (λ (z : Turn). Lost z.kind c.args.at.now.token c.attempt.new.token) r c.if-attempt.ensures) c.looked.ensures.token
    (subst (λ (v : View). After c.args.self.now.key.shape c.args.at.now.progress v c.looked.new.at) c.view-before.ensures c.looked.ensures.next)

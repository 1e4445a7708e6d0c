use Rattle.std.proofs.lemmas.Grind.{common_steps}
use Rattle.std.proofs.Common.{sym, ap, subst, ◌∙◌, arith}
use Rattle.tier_steps.specs.declared.view.View.{View}
use Rattle.tier_calls.specs.Holding.{IsCrew}
use Rattle.tier_calls.specs.declared.going.Going.{Going}
use Rattle.tier_calls.specs.Goes.{Ran}
use Rattle.tier_calls.proofs.Seating.{took_by}
use Rattle.tier_calls.proofs.Settling.{unseen, not_ended, first_arrived, began_at, may_settle, arrives}
use Rattle.tier_calls.proofs.Leading.{led_waited}
use Rattle.tier_calls.proofs.tiers.Tiers.pass.Goals as goal

pub returns-then-view-clause-ended : goal.returns-then-view-clause-ended
returns-then-view-clause-ended g c =
    λ p e. unseen (took_by c.crew.view_is c.look.ensures) (not_ended c.word.view_is c.word-word.ensures.word c.if-word.false) p e

pub answer_settled-requires : goal.answer_settled-requires
answer_settled-requires g c =
    may_settle c.args.self.now c.args.own c.args.tries c.args.crew c.look.new.token c.going.result c.requires.own
    (subst IsCrew c.crew.view_is c.crew.invariant) (took_by c.crew.view_is c.look.ensures)
    (not_ended c.word.view_is c.word-word.ensures.word c.if-word.false)
    (λ e. c.if-view.false (ap (λ (v : View). v.arrived) c.view-view.ensures ∙ (e ∙ sym (ap (λ (v : View). v.size) c.view-view.ensures))))
    (subst (λ (g : Going). Ran c.args.self.now c.args.tries (began_at c.args.own c.look.new.token) g) (sym c.going.ensures) c.go_straight.ensures)

pub returns-clause-answer : goal.returns-clause-answer
returns-clause-answer g c =
    arrives c.args.self.now c.args.own c.args.tries c.args.crew c.look.new.token c.going.result c.requires.own
    (subst IsCrew c.crew.view_is c.crew.invariant) (took_by c.crew.view_is c.look.ensures)
    (not_ended c.word.view_is c.word-word.ensures.word c.if-word.false)
    (λ e. c.if-view.false (ap (λ (v : View). v.arrived) c.view-view.ensures ∙ (e ∙ sym (ap (λ (v : View). v.size) c.view-view.ensures))))
    (subst (λ (g : Going). Ran c.args.self.now c.args.tries (began_at c.args.own c.look.new.token) g) (sym c.going.ensures) c.go_straight.ensures)
    c.answer_settled.result c.answer_settled.ensures

pub returns-clause-ended : goal.returns-clause-ended
returns-clause-ended g c =
    λ p e. unseen (took_by c.crew.view_is c.look.ensures) (not_ended c.word.view_is c.word-word.ensures.word c.if-word.false) p e

pub returns-then-view-clause-answer : goal.returns-then-view-clause-answer
returns-then-view-clause-answer g c =
    first_arrived c.args.own c.args.tries (subst IsCrew c.crew.view_is c.crew.invariant) (took_by c.crew.view_is c.look.ensures)
    (not_ended c.word.view_is c.word-word.ensures.word c.if-word.false)
    (sym (ap (λ (v : View). v.arrived) c.view-view.ensures) ∙ (c.if-view.true ∙ ap (λ (v : View). v.size) c.view-view.ensures))
    (ap (λ (v : View). v.phase) c.view-view.ensures)

pub returns-clause-waited : goal.returns-clause-waited
returns-clause-waited g c =
    led_waited c.args.self.now c.args.own c.args.tries c.args.crew c.look.new.token c.going.result c.requires.own
    (subst IsCrew c.crew.view_is c.crew.invariant) (took_by c.crew.view_is c.look.ensures)
    (not_ended c.word.view_is c.word-word.ensures.word c.if-word.false)
    (λ e. c.if-view.false (ap (λ (v : View). v.arrived) c.view-view.ensures ∙ (e ∙ sym (ap (λ (v : View). v.size) c.view-view.ensures))))
    (subst (λ (g : Going). Ran c.args.self.now c.args.tries (began_at c.args.own c.look.new.token) g) (sym c.going.ensures) c.go_straight.ensures)
    c.answer_settled.result c.answer_settled.ensures

pub returns-then-word-clause-answer : goal.returns-then-word-clause-answer
returns-then-word-clause-answer = grind (arith, common_steps)

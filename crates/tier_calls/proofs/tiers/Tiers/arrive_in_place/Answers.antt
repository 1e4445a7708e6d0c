use Rattle.std.proofs.lemmas.Grind.{common_steps}
use Rattle.std.proofs.Common.{ap, sym, subst, ◌∙◌, arith}
use Rattle.tier_steps.specs.declared.view.View.{View}
use Rattle.tier_calls.specs.Holding.{IsCrew}
use Rattle.tier_calls.specs.Calls.{under}
use Rattle.tier_calls.proofs.Seating.{took_by}
use Rattle.tier_calls.proofs.Settling.{unseen, not_ended}
use Rattle.tier_calls.proofs.Staying.{first_stays, may_come, still_crew, stays}
use Rattle.tier_calls.proofs.Leading.{led_in_place}
use Rattle.tier_calls.proofs.tiers.Tiers.arrive_in_place.Goals as goal

pub returns-then-view-clause-answer : goal.returns-then-view-clause-answer
returns-then-view-clause-answer g c =
    first_stays (subst IsCrew c.crew.view_is c.crew.invariant) (took_by c.crew.view_is c.look_at_root.ensures)
    (not_ended c.word.view_is c.word-word.ensures.word c.if-word.false)
    (sym (ap (λ (v : View). v.arrived) c.view-view.ensures) ∙ (c.if-view.true ∙ ap (λ (v : View). v.size) c.view-view.ensures))
    (ap (λ (v : View). v.phase) c.view-view.ensures)

pub returns-then-view-clause-ended : goal.returns-then-view-clause-ended
returns-then-view-clause-ended g c =
    λ p e. unseen (took_by c.crew.view_is c.look_at_root.ensures) (not_ended c.word.view_is c.word-word.ensures.word c.if-word.false) p e

pub answer_over-requires : goal.answer_over-requires
answer_over-requires g c =
    may_come c.args.self.now c.args.crew.now c.look_at_root.new.token (under c.go_to_end.new.token c.go_to_end.new.course) c.requires.own
    (subst IsCrew c.crew.view_is c.crew.invariant) (took_by c.crew.view_is c.look_at_root.ensures)
    (not_ended c.word.view_is c.word-word.ensures.word c.if-word.false)
    (λ e. c.if-view.false (ap (λ (v : View). v.arrived) c.view-view.ensures ∙ (e ∙ sym (ap (λ (v : View). v.size) c.view-view.ensures))))
    c.go_to_end.ensures

pub returns-clause-answer : goal.returns-clause-answer
returns-clause-answer g c =
    stays c.args.self.now c.args.crew.now c.look_at_root.new.token (under c.go_to_end.new.token c.go_to_end.new.course) c.requires.own
    (subst IsCrew c.crew.view_is c.crew.invariant) (took_by c.crew.view_is c.look_at_root.ensures)
    (not_ended c.word.view_is c.word-word.ensures.word c.if-word.false)
    (λ e. c.if-view.false (ap (λ (v : View). v.arrived) c.view-view.ensures ∙ (e ∙ sym (ap (λ (v : View). v.size) c.view-view.ensures))))
    c.go_to_end.ensures
    c.answer_over.result c.answer_over.ensures

pub returns-clause-ended : goal.returns-clause-ended
returns-clause-ended g c =
    λ p e. unseen (took_by c.crew.view_is c.look_at_root.ensures) (not_ended c.word.view_is c.word-word.ensures.word c.if-word.false) p e

pub invariant_of-crew-2 : goal.invariant_of-crew-2
invariant_of-crew-2 g c =
    still_crew c.args.self.now c.args.crew.now c.look_at_root.new.token (under c.go_to_end.new.token c.go_to_end.new.course) c.requires.own
    (subst IsCrew c.crew.view_is c.crew.invariant) (took_by c.crew.view_is c.look_at_root.ensures)
    (not_ended c.word.view_is c.word-word.ensures.word c.if-word.false)
    (λ e. c.if-view.false (ap (λ (v : View). v.arrived) c.view-view.ensures ∙ (e ∙ sym (ap (λ (v : View). v.size) c.view-view.ensures))))
    c.go_to_end.ensures

pub returns-clause-waited : goal.returns-clause-waited
returns-clause-waited g c =
    led_in_place c.args.self.now c.args.crew.now c.look_at_root.new.token (under c.go_to_end.new.token c.go_to_end.new.course)
    c.requires.own (subst IsCrew c.crew.view_is c.crew.invariant) (took_by c.crew.view_is c.look_at_root.ensures)
    (not_ended c.word.view_is c.word-word.ensures.word c.if-word.false)
    (λ e. c.if-view.false (ap (λ (v : View). v.arrived) c.view-view.ensures ∙ (e ∙ sym (ap (λ (v : View). v.size) c.view-view.ensures))))
    c.go_to_end.ensures
    c.answer_over.result c.answer_over.ensures

pub go_to_end-requires-clause-at : goal.go_to_end-requires-clause-at
go_to_end-requires-clause-at = grind (arith, common_steps)

pub returns-then-word-clause-answer : goal.returns-then-word-clause-answer
returns-then-word-clause-answer = grind (arith, common_steps)

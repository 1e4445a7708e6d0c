use Rattle.std.proofs.Common.{subst, sym}
use Rattle.tier_steps.specs.declared.view.Passage.TheVariants.{Arrival}
use Rattle.tier_calls.specs.declared.going.Going.{Going}
use Rattle.tier_calls.specs.Calls.{IsErrand}
use Rattle.tier_calls.specs.Goes.{Ran}
use Rattle.tier_calls.proofs.Settling.{may_end, resumes}
use Rattle.tier_calls.proofs.Leading.{led_on_waited}
use Rattle.tier_calls.proofs.tiers.Tiers.pass_on.Goals as goal

pub go_owing-requires-clause-owing : goal.go_owing-requires-clause-owing
go_owing-requires-clause-owing g c = c.errand.invariant.owes

pub answer_resumed-requires : goal.answer_resumed-requires
answer_resumed-requires g c =
    may_end c.args.self.now Arrival c.args.tries c.args.errand c.going.result c.requires.own
    (subst IsErrand c.errand.view_is c.errand.invariant)
    (subst (λ (e : Going). Ran c.args.self.now c.args.tries e c.going.result) c.errand.view_is
    (subst (λ (g : Going). Ran c.args.self.now c.args.tries c.errand.inside.going g) (sym c.going.ensures) c.go_owing.ensures))

pub returns-clause-answer : goal.returns-clause-answer
returns-clause-answer g c =
    resumes c.args.self.now Arrival c.args.tries c.args.errand c.going.result c.requires.own
    (subst IsErrand c.errand.view_is c.errand.invariant)
    (subst (λ (e : Going). Ran c.args.self.now c.args.tries e c.going.result) c.errand.view_is
    (subst (λ (g : Going). Ran c.args.self.now c.args.tries c.errand.inside.going g) (sym c.going.ensures) c.go_owing.ensures))
    c.answer_resumed.result c.answer_resumed.ensures

pub returns-clause-waited : goal.returns-clause-waited
returns-clause-waited g c =
    led_on_waited c.args.self.now Arrival c.args.tries c.args.errand c.going.result c.requires.own
    (subst IsErrand c.errand.view_is c.errand.invariant)
    (subst (λ (e : Going). Ran c.args.self.now c.args.tries e c.going.result) c.errand.view_is
    (subst (λ (g : Going). Ran c.args.self.now c.args.tries c.errand.inside.going g) (sym c.going.ensures) c.go_owing.ensures))
    c.answer_resumed.result c.answer_resumed.ensures

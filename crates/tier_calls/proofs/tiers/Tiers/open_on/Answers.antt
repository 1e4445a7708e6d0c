use Rattle.std.proofs.Common.{subst}
use Rattle.tier_calls.specs.declared.going.Going.{Going}
use Rattle.tier_calls.specs.Openings.{IsOpening}
use Rattle.tier_calls.specs.Goes.{Ran}
use Rattle.tier_calls.proofs.Ending.{opening_ends}
use Rattle.tier_calls.proofs.Coming.{open_may_answer, never_busy, opens}
use Rattle.tier_calls.proofs.Entering.{ran_enters, opened_enters, opening_joins}
use Rattle.tier_calls.proofs.tiers.Tiers.open_on.Goals as goal

pub answer_join-requires : goal.answer_join-requires
answer_join-requires c =
    open_may_answer c.args.self.now c.args.tries c.args.opening c.go_joining.result c.requires.own
    (subst IsOpening c.opening.view_is c.opening.invariant)
    (subst (λ (o : Going). Ran c.args.self.now c.args.tries o c.go_joining.result) c.opening.view_is c.go_joining.ensures)

pub answer_opening-requires : goal.answer_opening-requires
answer_opening-requires c =
    never_busy c.args.self.now c.args.tries c.args.opening c.go_joining.result c.requires.own
    (subst IsOpening c.opening.view_is c.opening.invariant)
    (subst (λ (o : Going). Ran c.args.self.now c.args.tries o c.go_joining.result) c.opening.view_is c.go_joining.ensures)
    c.answer_join.result c.answer_join.ensures

pub returns-clause-answer : goal.returns-clause-answer
returns-clause-answer c =
    opens c.args.self.now c.args.tries c.args.opening c.go_joining.result c.requires.own
    (subst IsOpening c.opening.view_is c.opening.invariant)
    (subst (λ (o : Going). Ran c.args.self.now c.args.tries o c.go_joining.result) c.opening.view_is c.go_joining.ensures)
    c.answer_join.result c.answer_opening.result c.answer_join.ensures
    c.answer_opening.ensures

pub returns-clause-ended : goal.returns-clause-ended
returns-clause-ended c = λ p e none.
    opening_ends c.args.self.now c.args.tries c.args.opening c.go_joining.result c.requires.own
    (subst IsOpening c.opening.view_is c.opening.invariant)
    (subst (λ (o : Going). Ran c.args.self.now c.args.tries o c.go_joining.result) c.opening.view_is c.go_joining.ensures) p e none
    c.answer_join.result c.answer_opening.result c.answer_join.ensures
    c.answer_opening.ensures

pub returns-clause-made : goal.returns-clause-made
returns-clause-made c =
    opened_enters c.args.opening.token.steps c.go_joining.result c.answer_join.result c.answer_opening.result c.answer_join.ensures
    c.answer_opening.ensures
    (ran_enters {o = c.args.opening} (opening_joins c.args.opening (subst IsOpening c.opening.view_is c.opening.invariant))
    (subst (λ (o : Going). Ran c.args.self.now c.args.tries o c.go_joining.result) c.opening.view_is c.go_joining.ensures))

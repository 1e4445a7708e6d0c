use Rattle.std.proofs.lemmas.Grind.{common_steps}
use Rattle.std.proofs.Common.{subst, arith}
use Rattle.tier_calls.specs.Holding.{IsDoor}
use Rattle.tier_calls.proofs.Seating.{took_by}
use Rattle.tier_calls.proofs.Settling.{unseen, not_ended}
use Rattle.tier_calls.proofs.Coming.{join_may_answer, registers, enters}
use Rattle.tier_calls.proofs.Entering.{looked_first_enters}
use Rattle.tier_calls.proofs.tiers.Tiers.join.Goals as goal

pub answer_join-requires : goal.answer_join-requires
answer_join-requires c =
    join_may_answer c.args.self.now c.args.tier c.args.size c.args.tries c.args.door c.look.new.token c.go_joining.result c.requires.own
    (subst IsDoor c.door.view_is c.door.invariant)
    (took_by c.door.view_is c.look.ensures) (not_ended c.word.view_is c.word-word.ensures.word c.if-word.false) c.requires.size.0
    c.go_joining.ensures

pub returns-clause-answer : goal.returns-clause-answer
returns-clause-answer c =
    registers c.args.self.now c.args.tier c.args.size c.args.tries c.args.door c.look.new.token c.go_joining.result c.requires.own
    (subst IsDoor c.door.view_is c.door.invariant)
    (took_by c.door.view_is c.look.ensures) (not_ended c.word.view_is c.word-word.ensures.word c.if-word.false) c.requires.size.0
    c.go_joining.ensures c.answer_join.result c.answer_join.ensures

pub returns-clause-ended : goal.returns-clause-ended
returns-clause-ended c =
    λ p e. unseen (took_by c.door.view_is c.look.ensures) (not_ended c.word.view_is c.word-word.ensures.word c.if-word.false) p e

pub returns-then-word-clause-made : goal.returns-then-word-clause-made
returns-then-word-clause-made c = looked_first_enters (took_by c.door.view_is c.look.ensures)

pub returns-clause-made : goal.returns-clause-made
returns-clause-made c =
    enters c.args.self.now c.args.tier c.args.size c.args.tries c.args.door c.look.new.token c.go_joining.result c.requires.own
    (subst IsDoor c.door.view_is c.door.invariant)
    (took_by c.door.view_is c.look.ensures) (not_ended c.word.view_is c.word-word.ensures.word c.if-word.false) c.requires.size.0
    c.go_joining.ensures c.answer_join.result c.answer_join.ensures

pub go_joining-requires-clause-at : goal.go_joining-requires-clause-at
go_joining-requires-clause-at = grind (arith, common_steps)

pub returns-then-word-clause-answer : goal.returns-then-word-clause-answer
returns-then-word-clause-answer = grind (arith, common_steps)

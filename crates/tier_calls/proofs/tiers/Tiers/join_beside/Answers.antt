use Rattle.std.proofs.Common.{rules, refl, subst, ap, ◌∙◌}
use Rattle.phaser_word.specs.Fields.{Fields}
use Rattle.tier_calls.specs.Holding.{IsDoor}
use Rattle.tier_calls.proofs.Seating.{took_by}
use Rattle.tier_calls.proofs.Settling.{unseen, not_ended, first_made}
use Rattle.tier_calls.proofs.Entering.{looked_first_enters}
use Rattle.tier_calls.proofs.Greeting.{still_fresh, ended_word, stays_some, beside_ended, beside_then, looked_then}
use Rattle.tier_calls.proofs.tiers.Tiers.join_beside.Goals as goal

pub keep_joining-requires-clause-fresh : goal.keep_joining-requires-clause-fresh
keep_joining-requires-clause-fresh c =
    still_fresh c.look_together-token.ensures.second (not_ended c.word.view_is c.word-word.ensures.word c.if-word.false)

pub keep_joining-requires-clause-some : goal.keep_joining-requires-clause-some
keep_joining-requires-clause-some c =
    stays_some {c = c.args.crew.now} {c' = c.look_together-token.new.one} c.requires.some
    (took_by c.crew.view_is c.look_together-token.ensures.first)

pub returns-clause-ended : goal.returns-clause-ended
returns-clause-ended c =
    λ p e. unseen (took_by c.door.view_is c.look_together-token.ensures.second)
    (not_ended c.word.view_is c.word-word.ensures.word c.if-word.false) p e

pub returns-clause-crew_ended : goal.returns-clause-crew_ended
returns-clause-crew_ended c =
    λ p e. unseen (took_by c.crew.view_is c.look_together-token.ensures.first)
    (ap (λ (w : Fields). w.ended) c.look_together-token.ensures.same ∙ (not_ended c.word.view_is c.word-word.ensures.word c.if-word.false))
    p e

pub returns-then-word-clause-answer : goal.returns-then-word-clause-answer
returns-then-word-clause-answer c =
    let p =
    beside_ended c.args.tries c.requires.some (took_by c.crew.view_is c.look_together-token.ensures.first)
    (took_by c.door.view_is c.look_together-token.ensures.second) (ended_word c.word.view_is c.word-word.ensures.word c.if-word.true)
    refl in
    (p.0, (p.1.0, p.1.1, search rules))

pub returns-then-word-clause-made : goal.returns-then-word-clause-made
returns-then-word-clause-made c = (
  looked_first_enters (took_by c.door.view_is c.look_together-token.ensures.second),
  first_made (took_by c.crew.view_is c.look_together-token.ensures.first),
)

pub returns-clause-answer : goal.returns-clause-answer
returns-clause-answer c =
    beside_then c.keep_joining.new.crew c.args.size c.args.tries c.requires.some
    (took_by c.crew.view_is c.look_together-token.ensures.first) (took_by c.door.view_is c.look_together-token.ensures.second)
    c.keep_joining.result (subst IsDoor c.door.view_is c.door.invariant) c.keep_joining.ensures

pub returns-clause-made : goal.returns-clause-made
returns-clause-made c =
    looked_then c.keep_joining.new.crew c.args.size c.args.tries c.requires.some
    (took_by c.crew.view_is c.look_together-token.ensures.first) (took_by c.door.view_is c.look_together-token.ensures.second)
    c.keep_joining.result c.keep_joining.ensures

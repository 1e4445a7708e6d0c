use Rattle.std.proofs.lemmas.Grind.{common_steps}
use Rattle.std.proofs.Common.{rules, arith}
use Rattle.tier_calls.proofs.Seating.{took_by}
use Rattle.tier_calls.proofs.Settling.{first_fresh, not_ended}
use Rattle.tier_calls.proofs.tiers.Tiers.watch.Goals as goal

pub returns-clause-answer : goal.returns-clause-answer
returns-clause-answer c = (
  search rules,
  first_fresh (took_by c.door.view_is c.look_at_root.ensures) (not_ended c.word.view_is c.word-word.ensures.word c.if-word.false),
)

pub returns-then-word-clause-answer : goal.returns-then-word-clause-answer
returns-then-word-clause-answer = grind (arith, common_steps)

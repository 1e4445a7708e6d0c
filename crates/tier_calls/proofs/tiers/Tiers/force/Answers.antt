use Rattle.std.proofs.lemmas.Grind.{common_steps}
use Rattle.std.proofs.Common.{ap, sym, ◌∙◌, arith}
use Rattle.tier_calls.specs.Holding.{Holding}
use Rattle.tier_calls.proofs.Seating.{took_by}
use Rattle.tier_calls.proofs.Settling.{unseen, unseen_at, seen_none, first_fresh, not_ended, not_true}
use Rattle.tier_calls.proofs.Breaking.{looked_glance, looked_forced, forced_on}
use Rattle.tier_calls.proofs.tiers.Tiers.force.Goals as goal

pub returns-then-not-before-clause-ended : goal.returns-then-not-before-clause-ended
returns-then-not-before-clause-ended c = λ p e.
    unseen_at c.word-before.ensures.beside c.tier.ensures c.if-tier-eq0.true
    (not_ended c.before-2.view_is c.word-before.ensures.word (not_true _ c.if-not-before.true)) p
    (ap (λ (h : Holding). h.view.end_seen) c.door.view_is ∙ e)

pub returns-clause-ended : goal.returns-clause-ended
returns-clause-ended c =
    λ p e. unseen (took_by c.door.view_is c.look_at_root.ensures) (not_ended c.word.view_is c.word-word.ensures.word c.if-word.false) p e

pub force_on-requires-clause-unseen : goal.force_on-requires-clause-unseen
force_on-requires-clause-unseen c =
    seen_none c.word-before.ensures.beside (sym c.tier.ensures ∙ c.if-tier-eq0.true)
    (not_ended c.before-2.view_is c.word-before.ensures.word (not_true _ c.if-not-before.true))

pub force_on-requires-2-clause-unseen : goal.force_on-requires-2-clause-unseen
force_on-requires-2-clause-unseen c =
    (first_fresh c.look_at_root.ensures (not_ended c.word.view_is c.word-word.ensures.word c.if-word.false)).unseen

pub returns-then-word-clause-made : goal.returns-then-word-clause-made
returns-then-word-clause-made c = looked_forced (took_by c.door.view_is c.look_at_root.ensures)

pub returns-clause-made : goal.returns-clause-made
returns-clause-made c =
    forced_on c.force_on-2.result c.force_on-2.new.door.steps (looked_glance (took_by c.door.view_is c.look_at_root.ensures))
    c.force_on-2.ensures.made

pub returns-then-word-clause-answer : goal.returns-then-word-clause-answer
returns-then-word-clause-answer = grind (arith, common_steps)

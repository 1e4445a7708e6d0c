use Rattle.std.proofs.Common.{subst}
use Rattle.tier_calls.specs.Holding.{Holding}
use Rattle.tier_calls.specs.Made.{MadeOnly, is_glance}
use Rattle.tier_calls.specs.Forces.{HasForced}
use Rattle.tier_calls.proofs.Settling.{not_ended}
use Rattle.tier_calls.proofs.Breaking.{tried_force, lost_force}
use Rattle.tier_calls.proofs.tiers.Tiers.force_once.Goals as goal

pub returns-then-word-clause-made : goal.returns-then-word-clause-made
returns-then-word-clause-made c =
    subst (λ (h : Holding). HasForced h.steps c.attempt.new.token.steps) c.door.view_is (tried_force c.attempt.result _ _ c.attempt.ensures)

pub returns-clause-made : goal.returns-clause-made
returns-clause-made c =
    subst (λ (h : Holding). MadeOnly is_glance h.steps c.attempt.new.token.steps) c.door.view_is
    (lost_force c.attempt.result _ _ c.attempt.ensures (not_ended c.word.view_is c.word-word.ensures.word c.if-word.false))

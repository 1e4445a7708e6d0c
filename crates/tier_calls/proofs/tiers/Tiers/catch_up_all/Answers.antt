use Rattle.std.proofs.Common.{refl, sym, ap, ◌∙◌, arith}
use Rattle.tier_core.specs.Turn.{lags}
use Rattle.tier_calls.specs.Groups.{GroupHeld}
use Rattle.tier_calls.proofs.ArrivingAll.{keeps_none, keeps_soon, keeps_then, looked_yet}
use Rattle.tier_calls.proofs.CatchingUp.{all_caught_up_by_look}
use Rattle.tier_calls.proofs.tiers.Tiers.catch_up_all.Goals as goal

pub returns-then-tier-eq0-clause-kept : goal.returns-then-tier-eq0-clause-kept
returns-then-tier-eq0-clause-kept c = keeps_soon 0 1 (omega arith) (keeps_none c.args.group.now)

pub returns-then-is_behind-clause-kept : goal.returns-then-is_behind-clause-kept
returns-then-is_behind-clause-kept c =
    keeps_soon 1 1 (omega arith)
    (keeps_then 0 1 1 refl (looked_yet c.look_all-word.ensures c.tier-tier.ensures c.requires.unarrived) c.refresh_first.ensures.kept)

pub returns-else-is_behind-clause-kept : goal.returns-else-is_behind-clause-kept
returns-else-is_behind-clause-kept c =
    keeps_soon 0 1 (omega arith) (looked_yet c.look_all-word.ensures c.tier-tier.ensures c.requires.unarrived)

pub returns-then-tier-eq0-clause-caught_up : goal.returns-then-tier-eq0-clause-caught_up
returns-then-tier-eq0-clause-caught_up c = λ at_root. at_root (sym c.tier-tier.ensures ∙ c.if-tier-eq0.true)

pub returns-then-is_behind-clause-caught_up : goal.returns-then-is_behind-clause-caught_up
returns-then-is_behind-clause-caught_up c = λ at_root. c.refresh_first.ensures.caught_up

pub returns-else-is_behind-clause-caught_up : goal.returns-else-is_behind-clause-caught_up
returns-else-is_behind-clause-caught_up c = λ at_root.
    all_caught_up_by_look c.look_all-word.ensures c.tier-tier.ensures c.if-tier-eq0.false c.requires.unarrived
    (ap (λ (z : GroupHeld). lags c.look_all-word.result z.view) (sym c.group.view_is) ∙ (sym c.is_behind.ensures ∙ c.if-is_behind.false))

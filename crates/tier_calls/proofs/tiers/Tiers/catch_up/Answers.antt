use Rattle.std.proofs.Common.{◌<◌, ℕ, ap, sym, ◌∙◌, subst, length}
use Rattle.phaser_word.specs.Fields.{Fields}
use Rattle.tier_core.specs.Turn.{lags}
use Rattle.tier_steps.specs.declared.view.View.{View}
use Rattle.tier_calls.proofs.Waits.{seat_within, glanced_view, refreshed_view, may_refresh, look_made_one, refresh_made, refresh_opened, caught_up_at_root, caught_up_by_look}
use Rattle.tier_calls.proofs.tiers.Tiers.catch_up.Goals as goal

pub look-requires-clause-tier : goal.look-requires-clause-tier
look-requires-clause-tier c =
    subst (λ (t : ℕ). t < length c.args.self.now.key.shape) (sym (ap (λ (v : View). v.tier) c.view-view.ensures))
    (seat_within c.requires.own c.requires.crew c.requires.known)

pub attempt-requires-clause-needs : goal.attempt-requires-clause-needs
attempt-requires-clause-needs c =
    may_refresh c.args.self.now.key.shape c.args.token.now c.look.new.token c.look.ensures.tier
    (glanced_view c.if-view-eq0.false c.look.ensures) c.view-view.ensures c.word.ensures.word c.requires.crew.rests c.requires.some
    (sym c.is_behind.ensures ∙ c.if-is_behind.true)

pub returns-then-is_behind-clause-view : goal.returns-then-is_behind-clause-view
returns-then-is_behind-clause-view c =
    refreshed_view c.attempt.result c.look.new.token c.attempt.new.token (λ e. c.if-view-eq0.false (sym c.look.ensures.tier ∙ e))
    c.attempt.ensures
    ∙ glanced_view c.if-view-eq0.false c.look.ensures

pub returns-else-is_behind-clause-view : goal.returns-else-is_behind-clause-view
returns-else-is_behind-clause-view c = glanced_view c.if-view-eq0.false c.look.ensures

pub returns-then-is_behind-clause-made : goal.returns-then-is_behind-clause-made
returns-then-is_behind-clause-made c = refresh_made c.attempt.result c.attempt.new.token c.look.ensures c.attempt.ensures

pub returns-else-is_behind-clause-made : goal.returns-else-is_behind-clause-made
returns-else-is_behind-clause-made c = look_made_one c.look.ensures

pub returns-then-is_behind-clause-opened : goal.returns-then-is_behind-clause-opened
returns-then-is_behind-clause-opened c = refresh_opened c.attempt.result c.attempt.new.token c.look.ensures c.attempt.ensures

pub returns-then-view-eq0-clause-caught_up : goal.returns-then-view-eq0-clause-caught_up
returns-then-view-eq0-clause-caught_up c =
    caught_up_at_root {h = c.args.token.now} c.requires.known c.requires.some c.requires.root.0
    (sym (ap (λ (v : View). v.tier) c.view-view.ensures) ∙ c.if-view-eq0.true)

pub returns-else-is_behind-clause-caught_up : goal.returns-else-is_behind-clause-caught_up
returns-else-is_behind-clause-caught_up c =
    caught_up_by_look (sym (ap (λ (v : View). v.tier) c.view-view.ensures)) c.if-view-eq0.false c.requires.crew.rests c.requires.some
    c.look.ensures
    (ap (λ (w : Fields). lags w c.look.new.token.view) (sym c.word.ensures.word)
    ∙ (ap (λ (v : View). lags c.word.result v) (glanced_view c.if-view-eq0.false c.look.ensures ∙ sym c.view-view.ensures)
    ∙ (sym c.is_behind.ensures ∙ c.if-is_behind.false)))

use Rattle.std.proofs.Common.{ℕ, refl, sym, ap, subst, ◌∙◌, arith}
use Rattle.phaser_word.specs.Fields.{Fields}
use Rattle.tier_steps.specs.Step.{CanPass}
use Rattle.tier_core.specs.Turn.{lags}
use Rattle.tier_calls.specs.Groups.{GroupHeld}
use Rattle.tier_calls.proofs.NewTokens.{are_blank, are_many}
use Rattle.tier_calls.proofs.ArrivingAll.{looked_yet, none_now, ready, keeps_then, last_count, end_shown_all, keeps_soon, yet}
use Rattle.tier_calls.proofs.ExchangeTries.{lost_pass, eager_now, has_parties}
use Rattle.tier_calls.proofs.JoiningTries.{joined_from, finds_full}
use Rattle.tier_calls.proofs.tiers.Tiers.try_join_once.Goals as goal

pub returns-then-word-clause-went : goal.returns-then-word-clause-went
returns-then-word-clause-went c =
    let e = ap (λ (w : Fields). w.ended) (sym c.word.view_is) ∙ c.if-word.true in (
      keeps_soon 0 1 (omega arith) (looked_yet c.look_all-word.ensures c.tier-tier.ensures c.requires.unarrived),
      e,
      end_shown_all c.look_all-word.ensures e,
    )

pub returns-then-is_behind-clause-went : goal.returns-then-is_behind-clause-went
returns-then-is_behind-clause-went c =
    keeps_then 0 1 1 refl (looked_yet c.look_all-word.ensures c.tier-tier.ensures c.requires.unarrived) c.refresh_first.ensures.kept

pub returns-then-n-word-clause-went : goal.returns-then-n-word-clause-went
returns-then-n-word-clause-went c =
    let k = looked_yet c.look_all-word.ensures c.tier-tier.ensures c.requires.unarrived in
    let d = ap (λ (z : Fields). z.parties) c.word-2.view_is in (
      0,
      (omega arith),
      k,
      finds_full c.args.n c.look_all-word.ensures c.tier-tier.ensures k d
          (let a = c.if-n-word.true in let e = c.word-2.invariant.parties in omega arith),
    )

pub exchange_joins-requires-clause-blank : goal.exchange_joins-requires-clause-blank
exchange_joins-requires-clause-blank c = are_blank c.new_tokens-new_tokens.ensures.new

pub exchange_joins-requires-clause-may : goal.exchange_joins-requires-clause-may
exchange_joins-requires-clause-may c =
    ready c.look_all-word.ensures c.tier-tier.ensures c.requires.unarrived
    (ap (λ (w : Fields). w.ended) (sym c.word.view_is) ∙ c.if-word.false)
    (ap (λ (z : GroupHeld). lags c.look_all-word.result z.view) (sym c.group.view_is) ∙ (sym c.is_behind.ensures ∙ c.if-is_behind.false))

pub exchange_joins-requires-clause-eager : goal.exchange_joins-requires-clause-eager
exchange_joins-requires-clause-eager c =
    eager_now c.look_all-word.ensures c.tier-tier.ensures c.requires.unarrived c.requires.eager
    (ap (λ (w : Fields). w.ended) (sym c.word.view_is) ∙ c.if-word.false)

pub exchange_joins-requires-clause-some : goal.exchange_joins-requires-clause-some
exchange_joins-requires-clause-some c =
    let k = looked_yet c.look_all-word.ensures c.tier-tier.ensures c.requires.unarrived in
    has_parties c.look_all-word.ensures (c.tier-tier.ensures ∙ sym k.view.same.tier)
    (ready c.look_all-word.ensures c.tier-tier.ensures c.requires.unarrived
    (ap (λ (w : Fields). w.ended) (sym c.word.view_is) ∙ c.if-word.false)
    (ap (λ (z : GroupHeld). lags c.look_all-word.result z.view) (sym c.group.view_is)
    ∙ (sym c.is_behind.ensures ∙ c.if-is_behind.false)))

pub exchange_joins-requires-clause-enough : goal.exchange_joins-requires-clause-enough
exchange_joins-requires-clause-enough c =
    let can =
    ready c.look_all-word.ensures c.tier-tier.ensures c.requires.unarrived
    (ap (λ (w : Fields). w.ended) (sym c.word.view_is) ∙ c.if-word.false)
    (ap (λ (z : GroupHeld). lags c.look_all-word.result z.view) (sym c.group.view_is) ∙ (sym c.is_behind.ensures ∙ c.if-is_behind.false)) in
    let k = looked_yet c.look_all-word.ensures c.tier-tier.ensures c.requires.unarrived in
    last_count c.look_all-word.ensures
    (subst (λ (n : ℕ). CanPass n c.look_all-word.result c.look_all-word.new.group.view) (k.view.same.tier ∙ sym c.tier-tier.ensures) can)

pub exchange_joins-requires-clause-capacity : goal.exchange_joins-requires-clause-capacity
exchange_joins-requires-clause-capacity c =
    let a = are_many c.new_tokens-new_tokens.ensures.new in
    let b = c.if-n-word.false in
    let d = ap (λ (z : Fields). z.parties) c.word-2.view_is in
    let e = c.word-2.invariant.parties in
    omega arith

pub returns-in-Joined-clause-went : goal.returns-in-Joined-clause-went
returns-in-Joined-clause-went c =
    let e = c.in-Joined.ensures in
    let eager =
    eager_now c.look_all-word.ensures c.tier-tier.ensures c.requires.unarrived c.requires.eager
    (ap (λ (w : Fields). w.ended) (sym c.word.view_is) ∙ c.if-word.false) in
    joined_from c.look_all-word.result c.args.n (looked_yet c.look_all-word.ensures c.tier-tier.ensures c.requires.unarrived) eager
    c.requires.own.1 c.new_tokens-new_tokens.ensures.new
    (let b = c.if-n-word.false in
    let d = ap (λ (z : Fields). z.parties) c.word-2.view_is in
    let e = c.word-2.invariant.parties in
    omega arith)
    e.0 e.1 e.2

pub returns-in-Lost-clause-went : goal.returns-in-Lost-clause-went
returns-in-Lost-clause-went c =
    let k = looked_yet c.look_all-word.ensures c.tier-tier.ensures c.requires.unarrived in
    let e = c.in-Lost.ensures in
    keeps_then 0 1 1 refl k
    (lost_pass _ c.look_all-word.ensures.group.some (yet c.look_all-word.new.group.view c.look_all-word.ensures.group.view (none_now k c.requires.unarrived)) e.1 e.2 e.3)

use Rattle.std.proofs.Common.{Option, ◌+◌, ◌<◌, refl, sym, ap, subst, ◌∙◌, arith}
use Rattle.phaser_word.specs.Fields.{Fields}
use Rattle.tier_core.specs.Turn.{lags}
use Rattle.tier_calls.specs.Groups.{GroupHeld}
use Rattle.tier_calls.specs.KeptWith.{TriesWithKept}
use Rattle.tier_calls.specs.declared.arriving_with.TriedWith.TheVariants as tried
use Rattle.tier_calls.proofs.ArrivingAll.{looked_yet, none_now, behind, keeps_then, end_shown_all, keeps_soon}
use Rattle.tier_calls.proofs.Keeping.{unkept_ended, unkept_behind, looks_unkept, finds_keeps, finds_begins, finds_may, finds_enough}
use Rattle.tier_calls.proofs.ExchangeTries.{kept_many}
use Rattle.tier_calls.proofs.JoiningTries.{finds_full}
use Rattle.tier_calls.proofs.KeepingWith.{unkept_full, begins_fit, finds_eager, finds_some, finds_passes}
use Rattle.tier_calls.proofs.tiers.Tiers.try_with_once.Goals as goal

pub returns-then-word-clause-went : goal.returns-then-word-clause-went
returns-then-word-clause-went c =
    let e = ap (λ (w : Fields). w.ended) (sym c.word.view_is) ∙ c.if-word.true in
    let n = unkept_ended c.args.kept (begins_fit c.args.joining c.args.kept c.requires.kept c.find-word.ensures) c.find-word.ensures e in
    let l = looks_unkept c.find-word.ensures n in
    subst
    (λ (k : Option Fields). TriesWithKept k 1 c.args.joining c.args.leaving c.args.group (tried.Ended c.find-word.new.group c.find-word.result))
    (sym n) (keeps_soon 0 1 (omega arith) (looked_yet l c.tier-tier.ensures c.requires.unarrived), e, end_shown_all l e)

pub refresh_first-requires-clause-may : goal.refresh_first-requires-clause-may
refresh_first-requires-clause-may c =
    let e =
    ap (λ (z : GroupHeld). lags c.find-word.result z.view) (sym c.group.view_is) ∙ (sym c.is_behind.ensures ∙ c.if-is_behind.true) in
    let n = unkept_behind c.args.kept (begins_fit c.args.joining c.args.kept c.requires.kept c.find-word.ensures) c.find-word.ensures e in
    behind (looks_unkept c.find-word.ensures n) c.tier-tier.ensures c.requires.unarrived e

pub refresh_first-requires-clause-unarrived : goal.refresh_first-requires-clause-unarrived
refresh_first-requires-clause-unarrived c =
    none_now (finds_keeps c.args.kept c.find-word.ensures c.tier-tier.ensures c.requires.unarrived) c.requires.unarrived

pub returns-then-is_behind-clause-went : goal.returns-then-is_behind-clause-went
returns-then-is_behind-clause-went c =
    let e =
    ap (λ (z : GroupHeld). lags c.find-word.result z.view) (sym c.group.view_is) ∙ (sym c.is_behind.ensures ∙ c.if-is_behind.true) in
    let n = unkept_behind c.args.kept (begins_fit c.args.joining c.args.kept c.requires.kept c.find-word.ensures) c.find-word.ensures e in
    subst (λ (k : Option Fields). TriesWithKept k 1 c.args.joining c.args.leaving c.args.group (tried.Yet c.refresh_first.new.group))
    (sym n)
    (keeps_then 0 1 1 refl (looked_yet (looks_unkept c.find-word.ensures n) c.tier-tier.ensures c.requires.unarrived) c.refresh_first.ensures.kept)

pub pass_from-requires-clause-begins : goal.pass_from-requires-clause-begins
pass_from-requires-clause-begins c =
    finds_begins c.args.kept (begins_fit c.args.joining c.args.kept c.requires.kept c.find-word.ensures) c.find-word.ensures
    c.tier-tier.ensures c.requires.unarrived (ap (λ (w : Fields). w.ended) (sym c.word.view_is) ∙ c.if-word.false)

pub pass_from-requires-clause-may : goal.pass_from-requires-clause-may
pass_from-requires-clause-may c =
    finds_may c.args.kept (begins_fit c.args.joining c.args.kept c.requires.kept c.find-word.ensures) c.find-word.ensures
    c.tier-tier.ensures c.requires.unarrived (ap (λ (w : Fields). w.ended) (sym c.word.view_is) ∙ c.if-word.false)
    (ap (λ (z : GroupHeld). lags c.find-word.result z.view) (sym c.group.view_is) ∙ (sym c.is_behind.ensures ∙ c.if-is_behind.false))

pub pass_from-requires-clause-enough : goal.pass_from-requires-clause-enough
pass_from-requires-clause-enough c =
    let can =
    finds_may c.args.kept (begins_fit c.args.joining c.args.kept c.requires.kept c.find-word.ensures) c.find-word.ensures
    c.tier-tier.ensures c.requires.unarrived (ap (λ (w : Fields). w.ended) (sym c.word.view_is) ∙ c.if-word.false)
    (ap (λ (z : GroupHeld). lags c.find-word.result z.view) (sym c.group.view_is) ∙ (sym c.is_behind.ensures ∙ c.if-is_behind.false)) in
    finds_enough c.args.kept (begins_fit c.args.joining c.args.kept c.requires.kept c.find-word.ensures) c.find-word.ensures
    c.tier-tier.ensures c.requires.unarrived can

pub returns-then-joining-word-clause-went : goal.returns-then-joining-word-clause-went
returns-then-joining-word-clause-went c =
    let d = ap (λ (z : Fields). z.parties) c.word-2.view_is in
    let full : 65535 < c.word-2.inside.parties + c.args.joining =
    (let a = c.if-joining-word.true in let e = c.word-2.invariant.parties in omega arith) in
    let n = unkept_full c.args.joining c.args.kept c.requires.kept c.find-word.ensures (omega arith) in
    let l = looks_unkept c.find-word.ensures n in
    let k = looked_yet l c.tier-tier.ensures c.requires.unarrived in
    subst
    (λ (k : Option Fields). TriesWithKept k 1 c.args.joining c.args.leaving c.args.group (tried.Full c.find-word.new.group c.word-2.inside.parties))
    (sym n) (0, (omega arith), k, finds_full c.args.joining l c.tier-tier.ensures k d full)

pub pass_from-requires-clause-own : goal.pass_from-requires-clause-own
pass_from-requires-clause-own c =
    (c.requires.own.0, (finds_keeps c.args.kept c.find-word.ensures c.tier-tier.ensures c.requires.unarrived).tree ∙ c.requires.own.1)

pub pass_from-requires-clause-eager : goal.pass_from-requires-clause-eager
pass_from-requires-clause-eager c =
    finds_eager c.args.joining c.args.kept c.requires.kept c.find-word.ensures c.tier-tier.ensures c.requires.unarrived c.requires.eager
    (ap (λ (w : Fields). w.ended) (sym c.word.view_is) ∙ c.if-word.false)

pub pass_from-requires-clause-place : goal.pass_from-requires-clause-place
pass_from-requires-clause-place c = let k = finds_keeps c.args.kept c.find-word.ensures c.tier-tier.ensures c.requires.unarrived in
    let a = k.view.same.tier in
    let b = c.requires.place in
    omega arith

pub pass_from-requires-clause-some : goal.pass_from-requires-clause-some
pass_from-requires-clause-some c =
    let can =
    finds_may c.args.kept (begins_fit c.args.joining c.args.kept c.requires.kept c.find-word.ensures) c.find-word.ensures
    c.tier-tier.ensures c.requires.unarrived (ap (λ (w : Fields). w.ended) (sym c.word.view_is) ∙ c.if-word.false)
    (ap (λ (z : GroupHeld). lags c.find-word.result z.view) (sym c.group.view_is) ∙ (sym c.is_behind.ensures ∙ c.if-is_behind.false)) in
    finds_some c.args.joining c.args.kept c.requires.kept c.find-word.ensures c.tier-tier.ensures c.requires.unarrived can

pub pass_from-requires-clause-capacity : goal.pass_from-requires-clause-capacity
pass_from-requires-clause-capacity c = let a = c.if-joining-word.false in
    let b = ap (λ (z : Fields). z.parties) c.word-2.view_is in
    let e = c.word-2.invariant.parties in
    omega arith

pub pass_from-requires-clause-few : goal.pass_from-requires-clause-few
pass_from-requires-clause-few c =
    let still = kept_many (finds_keeps c.args.kept c.find-word.ensures c.tier-tier.ensures c.requires.unarrived) in
    let a = c.requires.few in
    omega arith

pub pass_from-requires-clause-come : goal.pass_from-requires-clause-come
pass_from-requires-clause-come c =
    let still = kept_many (finds_keeps c.args.kept c.find-word.ensures c.tier-tier.ensures c.requires.unarrived) in
    let a = c.requires.come in
    omega arith

pub returns-clause-went : goal.returns-clause-went
returns-clause-went c =
    finds_passes c.args.joining c.args.leaving c.args.kept (begins_fit c.args.joining c.args.kept c.requires.kept c.find-word.ensures)
    c.find-word.ensures c.tier-tier.ensures c.requires.unarrived c.pass_from.result c.pass_from.ensures.went

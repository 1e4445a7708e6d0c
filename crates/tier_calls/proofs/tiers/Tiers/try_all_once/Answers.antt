use Rattle.std.proofs.Common.{Option, refl, sym, ap, subst, ◌∙◌, arith}
use Rattle.phaser_word.specs.Fields.{Fields}
use Rattle.tier_core.specs.Turn.{lags}
use Rattle.tier_calls.specs.Groups.{GroupHeld}
use Rattle.tier_calls.specs.KeptTries.{TriesKept}
use Rattle.tier_calls.specs.declared.groups.TriedAll.TheVariants as tried
use Rattle.tier_calls.proofs.ArrivingAll.{looked_yet, none_now, behind, keeps_then, end_shown_all, keeps_soon}
use Rattle.tier_calls.proofs.Keeping.{unkept_ended, unkept_behind, looks_unkept, finds_keeps, finds_begins, finds_may, finds_enough, finds_tries}
use Rattle.tier_calls.proofs.tiers.Tiers.try_all_once.Goals as goal

pub returns-then-word : goal.returns-then-word
returns-then-word c =
    let e = ap (λ (w : Fields). w.ended) (sym c.word.view_is) ∙ c.if-word.true in
    let n = unkept_ended c.args.kept c.requires.kept c.find-word.ensures e in
    let l = looks_unkept c.find-word.ensures n in
    subst (λ (k : Option Fields). TriesKept k 1 c.args.group (tried.Ended c.find-word.new.group c.find-word.result)) (sym n)
    (keeps_soon 0 1 (omega arith) (looked_yet l c.tier-tier.ensures c.requires.unarrived), e, end_shown_all l e)

pub refresh_first-requires-clause-may : goal.refresh_first-requires-clause-may
refresh_first-requires-clause-may c =
    let e =
    ap (λ (z : GroupHeld). lags c.find-word.result z.view) (sym c.group.view_is) ∙ (sym c.is_behind.ensures ∙ c.if-is_behind.true) in
    let n = unkept_behind c.args.kept c.requires.kept c.find-word.ensures e in
    behind (looks_unkept c.find-word.ensures n) c.tier-tier.ensures c.requires.unarrived e

pub refresh_first-requires-clause-unarrived : goal.refresh_first-requires-clause-unarrived
refresh_first-requires-clause-unarrived c =
    none_now (finds_keeps c.args.kept c.find-word.ensures c.tier-tier.ensures c.requires.unarrived) c.requires.unarrived

pub returns-then-is_behind : goal.returns-then-is_behind
returns-then-is_behind c =
    let e =
    ap (λ (z : GroupHeld). lags c.find-word.result z.view) (sym c.group.view_is) ∙ (sym c.is_behind.ensures ∙ c.if-is_behind.true) in
    let n = unkept_behind c.args.kept c.requires.kept c.find-word.ensures e in
    subst (λ (k : Option Fields). TriesKept k 1 c.args.group (tried.Yet c.refresh_first.new.group)) (sym n)
    (keeps_then 0 1 1 refl (looked_yet (looks_unkept c.find-word.ensures n) c.tier-tier.ensures c.requires.unarrived) c.refresh_first.ensures.kept)

pub arrive_from-requires-clause-begins : goal.arrive_from-requires-clause-begins
arrive_from-requires-clause-begins c =
    finds_begins c.args.kept c.requires.kept c.find-word.ensures c.tier-tier.ensures c.requires.unarrived
    (ap (λ (w : Fields). w.ended) (sym c.word.view_is) ∙ c.if-word.false)

pub arrive_from-requires-clause-may : goal.arrive_from-requires-clause-may
arrive_from-requires-clause-may c =
    finds_may c.args.kept c.requires.kept c.find-word.ensures c.tier-tier.ensures c.requires.unarrived
    (ap (λ (w : Fields). w.ended) (sym c.word.view_is) ∙ c.if-word.false)
    (ap (λ (z : GroupHeld). lags c.find-word.result z.view) (sym c.group.view_is) ∙ (sym c.is_behind.ensures ∙ c.if-is_behind.false))

pub arrive_from-requires-clause-unarrived : goal.arrive_from-requires-clause-unarrived
arrive_from-requires-clause-unarrived c =
    none_now (finds_keeps c.args.kept c.find-word.ensures c.tier-tier.ensures c.requires.unarrived) c.requires.unarrived

pub arrive_from-requires-clause-enough : goal.arrive_from-requires-clause-enough
arrive_from-requires-clause-enough c =
    let can =
    finds_may c.args.kept c.requires.kept c.find-word.ensures c.tier-tier.ensures c.requires.unarrived
    (ap (λ (w : Fields). w.ended) (sym c.word.view_is) ∙ c.if-word.false)
    (ap (λ (z : GroupHeld). lags c.find-word.result z.view) (sym c.group.view_is) ∙ (sym c.is_behind.ensures ∙ c.if-is_behind.false)) in
    finds_enough c.args.kept c.requires.kept c.find-word.ensures c.tier-tier.ensures c.requires.unarrived can

pub returns : goal.returns
returns c =
    finds_tries c.args.kept c.requires.kept c.find-word.ensures c.tier-tier.ensures c.requires.unarrived c.arrive_from.result
    c.arrive_from.ensures

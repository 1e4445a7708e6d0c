use Rattle.std.proofs.Common.{Option, refl, sym, ap, subst, ◌∙◌, arith}
use Rattle.phaser_word.specs.Fields.{Fields, IsLegal}
use Rattle.tier_core.specs.Turn.{lags}
use Rattle.tier_calls.specs.Groups.{GroupHeld}
use Rattle.tier_calls.specs.KeptTries.{TriesLeavingKept}
use Rattle.tier_calls.specs.declared.leaving_all.TriedLeaving.TheVariants as tried
use Rattle.tier_calls.proofs.ArrivingAll.{looked_yet, none_now, behind, keeps_then, end_shown_all, keeps_soon}
use Rattle.tier_calls.proofs.Keeping.{unkept_ended, unkept_behind, looks_unkept, finds_keeps, finds_begins, finds_may, finds_enough}
use Rattle.tier_calls.proofs.KeepingLeaving.{finds_parties, finds_left, finds_owing, finds_lost}
use Rattle.tier_calls.proofs.tiers.Tiers.try_leaving_once.Goals as goal

pub returns-then-word : goal.returns-then-word
returns-then-word c =
    let e = ap (λ (w : Fields). w.ended) (sym c.word.view_is) ∙ c.if-word.true in
    let n = unkept_ended c.args.kept c.requires.kept c.find-word.ensures e in
    let l = looks_unkept c.find-word.ensures n in
    subst (λ (k : Option Fields). TriesLeavingKept k 1 c.args.group (tried.Ended c.find-word.new.group c.find-word.result)) (sym n)
    (keeps_soon 0 1 (omega arith) (looked_yet l c.tier-tier.ensures c.requires.unarrived), e, end_shown_all l e)

pub refresh_first-requires-clause-may : goal.refresh_first-requires-clause-may
refresh_first-requires-clause-may c =
    let e =
    ap (λ (z : GroupHeld). lags c.find-word.result z.view) (sym c.group.view_is) ∙ (sym c.is_behind.ensures ∙ c.if-is_behind.true) in
    let n = unkept_behind c.args.kept c.requires.kept c.find-word.ensures e in
    behind (looks_unkept c.find-word.ensures n) c.tier-tier.ensures c.requires.unarrived e

pub refresh_first-requires-clause-unarrived : goal.refresh_first-requires-clause-unarrived
refresh_first-requires-clause-unarrived c =
    none_now (finds_keeps c.args.kept c.find-word.ensures c.tier-tier.ensures c.requires.unarrived) c.requires.unarrived

pub returns-then-is_behind : goal.returns-then-is_behind
returns-then-is_behind c =
    let e =
    ap (λ (z : GroupHeld). lags c.find-word.result z.view) (sym c.group.view_is) ∙ (sym c.is_behind.ensures ∙ c.if-is_behind.true) in
    let n = unkept_behind c.args.kept c.requires.kept c.find-word.ensures e in
    subst (λ (k : Option Fields). TriesLeavingKept k 1 c.args.group (tried.Yet c.refresh_first.new.group)) (sym n)
    (keeps_then 0 1 1 refl (looked_yet (looks_unkept c.find-word.ensures n) c.tier-tier.ensures c.requires.unarrived) c.refresh_first.ensures.kept)

pub leave_together-requires-clause-begins : goal.leave_together-requires-clause-begins
leave_together-requires-clause-begins c =
    finds_begins c.args.kept c.requires.kept c.find-word.ensures c.tier-tier.ensures c.requires.unarrived
    (ap (λ (w : Fields). w.ended) (sym c.word.view_is) ∙ c.if-word.false)

pub leave_together-requires-clause-may : goal.leave_together-requires-clause-may
leave_together-requires-clause-may c =
    finds_may c.args.kept c.requires.kept c.find-word.ensures c.tier-tier.ensures c.requires.unarrived
    (ap (λ (w : Fields). w.ended) (sym c.word.view_is) ∙ c.if-word.false)
    (ap (λ (z : GroupHeld). lags c.find-word.result z.view) (sym c.group.view_is) ∙ (sym c.is_behind.ensures ∙ c.if-is_behind.false))

pub leave_together-requires-clause-enough : goal.leave_together-requires-clause-enough
leave_together-requires-clause-enough c =
    let can =
    finds_may c.args.kept c.requires.kept c.find-word.ensures c.tier-tier.ensures c.requires.unarrived
    (ap (λ (w : Fields). w.ended) (sym c.word.view_is) ∙ c.if-word.false)
    (ap (λ (z : GroupHeld). lags c.find-word.result z.view) (sym c.group.view_is) ∙ (sym c.is_behind.ensures ∙ c.if-is_behind.false)) in
    finds_enough c.args.kept c.requires.kept c.find-word.ensures c.tier-tier.ensures c.requires.unarrived can

pub leave_together-requires-clause-legal : goal.leave_together-requires-clause-legal
leave_together-requires-clause-legal c = subst IsLegal c.word.view_is c.word.invariant

pub leave_together-requires-clause-some : goal.leave_together-requires-clause-some
leave_together-requires-clause-some c =
    let can =
    finds_may c.args.kept c.requires.kept c.find-word.ensures c.tier-tier.ensures c.requires.unarrived
    (ap (λ (w : Fields). w.ended) (sym c.word.view_is) ∙ c.if-word.false)
    (ap (λ (z : GroupHeld). lags c.find-word.result z.view) (sym c.group.view_is) ∙ (sym c.is_behind.ensures ∙ c.if-is_behind.false)) in
    finds_parties c.args.kept c.requires.kept c.find-word.ensures c.tier-tier.ensures c.requires.unarrived can

pub returns-in-Left : goal.returns-in-Left
returns-in-Left c =
    finds_left c.args.kept c.requires.kept c.find-word.ensures c.tier-tier.ensures c.requires.unarrived c.in-Left.door c.in-Left.ensures

pub returns-in-Owing : goal.returns-in-Owing
returns-in-Owing c =
    finds_owing c.args.kept c.requires.kept c.find-word.ensures c.tier-tier.ensures c.requires.unarrived c.in-Owing.errand
    c.in-Owing.ensures

pub returns-in-Lost : goal.returns-in-Lost
returns-in-Lost c =
    finds_lost c.args.kept c.requires.kept c.find-word.ensures c.tier-tier.ensures c.requires.unarrived c.in-Lost.group _ c.in-Lost.ensures

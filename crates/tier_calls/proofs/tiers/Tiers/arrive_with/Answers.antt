use Rattle.std.proofs.Common.{rules, ◌<◌, length, sym, ap, subst, ◌∙◌, ◌+◌, ◌≤◌, arith}
use Rattle.std.proofs.lemmas.Int.{to_z-of_z}
use mir.Syntax.{w32}
use mir.Val.{SFits}
use Rattle.phaser_word.specs.Fields.{Fields}
use Rattle.phaser_word.specs.Phase.{shown_of}
use Rattle.tier_calls.specs.Holding.{Named}
use Rattle.tier_calls.specs.Groups.{GroupHeld}
use Rattle.tier_calls.specs.Kept.{MayBegin}
use Rattle.tier_calls.specs.declared.arriving_with.TriedWith.TheVariants as tried
use Rattle.tier_calls.proofs.ArrivingAll.{first_look, first_fresh_all, end_shown_all, keeps_none, keeps_soon, to_arrive}
use Rattle.tier_calls.proofs.Keeping.{unkept_ended, unkept_arrived, looks_unkept, begins_still, finds_place, finds_tree, finds_group, finds_unseen}
use Rattle.tier_calls.proofs.KeepingWith.{first_begins, finds_long, finds_eager_first, looks_and_passes}
use Rattle.tier_calls.proofs.tiers.Tiers.arrive_with.Goals as goal

pub returns-then-root-clause-answer : goal.returns-then-root-clause-answer
returns-then-root-clause-answer c =
    let e = ap (λ (w : Fields). w.ended) (sym c.root.view_is) ∙ c.if-root.true in
    let l =
    looks_unkept c.find-root.ensures
    (unkept_ended c.kept_for-kept.result (first_begins c.args.tries c.args.joining c.kept_for-kept.result c.args.group c.kept_for-kept.ensures) c.find-root.ensures e) in
    let f : SFits w32 c.shown.result = search rules in (
      c.find-root.new.group,
      first_look l,
      keeps_soon 0 c.args.tries (omega arith) (keeps_none c.find-root.new.group),
      (
        c.find-root.result.phase,
        end_shown_all l e,
        to_z-of_z w32 c.shown.result f ∙ c.shown.ensures ∙ ap (shown_of c.find-root.result.phase) e,
      ),
    )

pub returns-then-group-eq1-clause-answer : goal.returns-then-group-eq1-clause-answer
returns-then-group-eq1-clause-answer c =
    let one = ap (λ (z : GroupHeld). z.view.arrived) (sym c.group.view_is) ∙ c.if-group-eq1.true in
    let l =
    looks_unkept c.find-root.ensures
    (unkept_arrived c.kept_for-kept.result (first_begins c.args.tries c.args.joining c.kept_for-kept.result c.args.group c.kept_for-kept.ensures) c.find-root.ensures one) in
    (first_look l, first_fresh_all l (ap (λ (w : Fields). w.ended) (sym c.root.view_is) ∙ c.if-root.false), one, c.phase-phase.ensures)

pub try_with-requires-clause-own : goal.try_with-requires-clause-own
try_with-requires-clause-own c = (c.requires.own.0, finds_tree c.kept_for-kept.result c.find-root.ensures ∙ c.requires.own.1)

pub try_with-requires-clause-place : goal.try_with-requires-clause-place
try_with-requires-clause-place c =
    subst (λ (n : Named). c.find-root.new.group.view.tier < length n.key.shape) c.requires.own.1
    (finds_place c.kept_for-kept.result (first_begins c.args.tries c.args.joining c.kept_for-kept.result c.args.group c.kept_for-kept.ensures) c.find-root.ensures)

pub try_with-requires-clause-eager : goal.try_with-requires-clause-eager
try_with-requires-clause-eager c =
    λ h. finds_eager_first c.kept_for-kept.result
    (first_begins c.args.tries c.args.joining c.kept_for-kept.result c.args.group c.kept_for-kept.ensures) c.find-root.ensures
    (ap (λ (w : Fields). w.ended) (sym c.root.view_is) ∙ c.if-root.false)
    (to_arrive c.find-root.new.group.view
    (finds_group c.kept_for-kept.result (first_begins c.args.tries c.args.joining c.kept_for-kept.result c.args.group c.kept_for-kept.ensures) c.find-root.ensures).view
    (λ e. c.if-group-eq1.false (ap (λ (z : GroupHeld). z.view.arrived) c.group.view_is ∙ e)))

pub try_with-requires-clause-few : goal.try_with-requires-clause-few
try_with-requires-clause-few c = let a = finds_long c.kept_for-kept.result c.find-root.ensures in let b = c.requires.few in omega arith

pub try_with-requires-clause-come : goal.try_with-requires-clause-come
try_with-requires-clause-come c = let a = finds_long c.kept_for-kept.result c.find-root.ensures in let b = c.requires.come in omega arith

pub try_with-requires-clause-unarrived : goal.try_with-requires-clause-unarrived
try_with-requires-clause-unarrived c =
    to_arrive c.find-root.new.group.view
    (finds_group c.kept_for-kept.result (first_begins c.args.tries c.args.joining c.kept_for-kept.result c.args.group c.kept_for-kept.ensures) c.find-root.ensures).view
    (λ e. c.if-group-eq1.false (ap (λ (z : GroupHeld). z.view.arrived) c.group.view_is ∙ e))

pub try_with-requires-clause-kept : goal.try_with-requires-clause-kept
try_with-requires-clause-kept c =
    begins_still (λ g w. MayBegin g w × (0 < c.args.tries) × (w.parties + c.args.joining ≤ 65535)) c.kept_for-kept.result
    c.kept_for-kept.ensures c.find-root.ensures

pub returns-then-group-eq1-clause-ended : goal.returns-then-group-eq1-clause-ended
returns-then-group-eq1-clause-ended c =
    finds_unseen c.kept_for-kept.result
    (first_begins c.args.tries c.args.joining c.kept_for-kept.result c.args.group c.kept_for-kept.ensures) c.find-root.ensures
    (ap (λ (w : Fields). w.ended) (sym c.root.view_is) ∙ c.if-root.false)

pub returns-in-Yet-clause-answer : goal.returns-in-Yet-clause-answer
returns-in-Yet-clause-answer c =
    let l =
    looks_and_passes c.args.tries c.args.joining c.args.leaving c.kept_for-kept.result c.find-root.ensures
    (to_arrive c.find-root.new.group.view
    (finds_group c.kept_for-kept.result (first_begins c.args.tries c.args.joining c.kept_for-kept.result c.args.group c.kept_for-kept.ensures) c.find-root.ensures).view
    (λ e. c.if-group-eq1.false (ap (λ (z : GroupHeld). z.view.arrived) c.group.view_is ∙ e)))
    (tried.Yet c.in-Yet.group) c.in-Yet.ensures.went in
    record { mid = l.0; first = l.1; none = l.2; kept = l.3 }

pub returns-in-Done-clause-answer : goal.returns-in-Done-clause-answer
returns-in-Done-clause-answer c =
    let l =
    looks_and_passes c.args.tries c.args.joining c.args.leaving c.kept_for-kept.result c.find-root.ensures
    (to_arrive c.find-root.new.group.view
    (finds_group c.kept_for-kept.result (first_begins c.args.tries c.args.joining c.kept_for-kept.result c.args.group c.kept_for-kept.ensures) c.find-root.ensures).view
    (λ e. c.if-group-eq1.false (ap (λ (z : GroupHeld). z.view.arrived) c.group.view_is ∙ e)))
    (tried.Done c.in-Done.group) c.in-Done.ensures.went in
    (l.0, l.1, l.3, c.phase-phase-in-Done.ensures)

pub returns-in-Owing-clause-answer : goal.returns-in-Owing-clause-answer
returns-in-Owing-clause-answer c =
    let l =
    looks_and_passes c.args.tries c.args.joining c.args.leaving c.kept_for-kept.result c.find-root.ensures
    (to_arrive c.find-root.new.group.view
    (finds_group c.kept_for-kept.result (first_begins c.args.tries c.args.joining c.kept_for-kept.result c.args.group c.kept_for-kept.ensures) c.find-root.ensures).view
    (λ e. c.if-group-eq1.false (ap (λ (z : GroupHeld). z.view.arrived) c.group.view_is ∙ e)))
    (tried.Owing c.in-Owing.errand c.in-Owing.others) c.in-Owing.ensures.went in
    (l.0, l.1, l.3.0, l.3.1)

pub returns-in-Ended-clause-answer : goal.returns-in-Ended-clause-answer
returns-in-Ended-clause-answer c =
    let l =
    looks_and_passes c.args.tries c.args.joining c.args.leaving c.kept_for-kept.result c.find-root.ensures
    (to_arrive c.find-root.new.group.view
    (finds_group c.kept_for-kept.result (first_begins c.args.tries c.args.joining c.kept_for-kept.result c.args.group c.kept_for-kept.ensures) c.find-root.ensures).view
    (λ e. c.if-group-eq1.false (ap (λ (z : GroupHeld). z.view.arrived) c.group.view_is ∙ e)))
    (tried.Ended c.in-Ended.group c.in-Ended.word) c.in-Ended.ensures.went in
    let f : SFits w32 c.shown-in-Ended.result = search rules in (
      l.0,
      l.1,
      l.3.0,
      (
        c.in-Ended.word.phase,
        l.3.2,
        to_z-of_z w32 c.shown-in-Ended.result f ∙ c.shown-in-Ended.ensures ∙ ap (shown_of c.in-Ended.word.phase) l.3.1,
      ),
    )

pub returns-in-Yet-clause-ended : goal.returns-in-Yet-clause-ended
returns-in-Yet-clause-ended c =
    finds_unseen c.kept_for-kept.result
    (first_begins c.args.tries c.args.joining c.kept_for-kept.result c.args.group c.kept_for-kept.ensures) c.find-root.ensures
    (ap (λ (w : Fields). w.ended) (sym c.root.view_is) ∙ c.if-root.false)

pub returns-in-Done-clause-ended : goal.returns-in-Done-clause-ended
returns-in-Done-clause-ended c =
    finds_unseen c.kept_for-kept.result
    (first_begins c.args.tries c.args.joining c.kept_for-kept.result c.args.group c.kept_for-kept.ensures) c.find-root.ensures
    (ap (λ (w : Fields). w.ended) (sym c.root.view_is) ∙ c.if-root.false)

pub returns-in-Owing-clause-ended : goal.returns-in-Owing-clause-ended
returns-in-Owing-clause-ended c =
    finds_unseen c.kept_for-kept.result
    (first_begins c.args.tries c.args.joining c.kept_for-kept.result c.args.group c.kept_for-kept.ensures) c.find-root.ensures
    (ap (λ (w : Fields). w.ended) (sym c.root.view_is) ∙ c.if-root.false)

pub returns-in-Full-clause-answer : goal.returns-in-Full-clause-answer
returns-in-Full-clause-answer c =
    let l =
    looks_and_passes c.args.tries c.args.joining c.args.leaving c.kept_for-kept.result c.find-root.ensures
    (to_arrive c.find-root.new.group.view
    (finds_group c.kept_for-kept.result (first_begins c.args.tries c.args.joining c.kept_for-kept.result c.args.group c.kept_for-kept.ensures) c.find-root.ensures).view
    (λ e. c.if-group-eq1.false (ap (λ (z : GroupHeld). z.view.arrived) c.group.view_is ∙ e)))
    (tried.Full c.in-Full.group c.in-Full.count) c.in-Full.ensures.went in
    let w = l.3 in
    (w.0, w.1, record { mid = l.0; first = l.1; none = l.2; kept = w.2 }, w.3)

pub returns-in-Full-clause-ended : goal.returns-in-Full-clause-ended
returns-in-Full-clause-ended c =
    finds_unseen c.kept_for-kept.result
    (first_begins c.args.tries c.args.joining c.kept_for-kept.result c.args.group c.kept_for-kept.ensures) c.find-root.ensures
    (ap (λ (w : Fields). w.ended) (sym c.root.view_is) ∙ c.if-root.false)

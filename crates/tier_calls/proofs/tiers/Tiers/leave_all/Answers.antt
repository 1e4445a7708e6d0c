use Rattle.std.proofs.Common.{rules, ◌<◌, length, sym, ap, subst, ◌∙◌, arith}
use Rattle.std.proofs.lemmas.Int.{to_z-of_z}
use mir.Syntax.{w32}
use mir.Val.{SFits}
use Rattle.phaser_word.specs.Fields.{Fields}
use Rattle.phaser_word.specs.Phase.{shown_of}
use Rattle.tier_calls.specs.Holding.{Named}
use Rattle.tier_calls.specs.Groups.{GroupHeld}
use Rattle.tier_calls.specs.Kept.{MayBegin}
use Rattle.tier_calls.specs.declared.leaving_all.TriedLeaving.TheVariants as tried
use Rattle.tier_calls.proofs.ArrivingAll.{first_look, first_fresh_all, end_shown_all, no_more, waited, keeps_soon, spent_since, to_arrive}
use Rattle.tier_calls.proofs.LeavingTries.{left_all, left_owing}
use Rattle.tier_calls.proofs.Keeping.{unkept_ended, unkept_arrived, looks_unkept, begins_only, begins_still, finds_place, finds_unled, finds_tree, finds_group, finds_unseen}
use Rattle.tier_calls.proofs.KeepingLeaving.{looks_and_leaves}
use Rattle.tier_calls.proofs.tiers.Tiers.leave_all.Goals as goal

pub returns-then-root-clause-answer : goal.returns-then-root-clause-answer
returns-then-root-clause-answer c =
    let e = ap (λ (w : Fields). w.ended) (sym c.root.view_is) ∙ c.if-root.true in
    let l =
    looks_unkept c.find-root.ensures
    (unkept_ended c.kept-kept.result (begins_only c.args.tries c.kept-kept.result c.args.group c.kept-kept.ensures) c.find-root.ensures e) in
    let w = no_more c.args.tries (first_look l) in
    let f : SFits w32 c.shown.result = search rules in (
      w.tree,
      w.looked,
      (
        c.find-root.result.phase,
        end_shown_all l e,
        to_z-of_z w32 c.shown.result f ∙ c.shown.ensures ∙ ap (shown_of c.find-root.result.phase) e,
      ),
      w.tokens,
    )

pub returns-then-group-eq1-clause-answer : goal.returns-then-group-eq1-clause-answer
returns-then-group-eq1-clause-answer c =
    let one = ap (λ (z : GroupHeld). z.view.arrived) (sym c.group.view_is) ∙ c.if-group-eq1.true in
    let l =
    looks_unkept c.find-root.ensures
    (unkept_arrived c.kept-kept.result (begins_only c.args.tries c.kept-kept.result c.args.group c.kept-kept.ensures) c.find-root.ensures one) in
    let w = first_look l in (
      w.tree,
      w.looked,
      first_fresh_all l (ap (λ (w : Fields). w.ended) (sym c.root.view_is) ∙ c.if-root.false),
      one,
      c.phase-phase.ensures,
      w.tokens,
    )

pub try_leaving-requires-clause-own : goal.try_leaving-requires-clause-own
try_leaving-requires-clause-own c = finds_tree c.kept-kept.result c.find-root.ensures ∙ c.requires.own

pub try_leaving-requires-clause-place : goal.try_leaving-requires-clause-place
try_leaving-requires-clause-place c =
    subst (λ (n : Named). c.find-root.new.group.view.tier < length n.key.shape) c.requires.own
    (finds_place c.kept-kept.result (begins_only c.args.tries c.kept-kept.result c.args.group c.kept-kept.ensures) c.find-root.ensures)

pub try_leaving-requires-clause-unled : goal.try_leaving-requires-clause-unled
try_leaving-requires-clause-unled c =
    finds_unled c.kept-kept.result (begins_only c.args.tries c.kept-kept.result c.args.group c.kept-kept.ensures) c.find-root.ensures

pub try_leaving-requires-clause-unarrived : goal.try_leaving-requires-clause-unarrived
try_leaving-requires-clause-unarrived c =
    to_arrive c.find-root.new.group.view
    (finds_group c.kept-kept.result (begins_only c.args.tries c.kept-kept.result c.args.group c.kept-kept.ensures) c.find-root.ensures).view
    (λ e. c.if-group-eq1.false (ap (λ (z : GroupHeld). z.view.arrived) c.group.view_is ∙ e))

pub try_leaving-requires-clause-kept : goal.try_leaving-requires-clause-kept
try_leaving-requires-clause-kept c =
    begins_still (λ g w. MayBegin g w × (0 < c.args.tries)) c.kept-kept.result c.kept-kept.ensures c.find-root.ensures

pub returns-then-group-eq1-clause-ended : goal.returns-then-group-eq1-clause-ended
returns-then-group-eq1-clause-ended c =
    finds_unseen c.kept-kept.result (begins_only c.args.tries c.kept-kept.result c.args.group c.kept-kept.ensures) c.find-root.ensures
    (ap (λ (w : Fields). w.ended) (sym c.root.view_is) ∙ c.if-root.false)

pub returns-in-Yet-clause-answer : goal.returns-in-Yet-clause-answer
returns-in-Yet-clause-answer c =
    let l =
    looks_and_leaves c.args.tries c.kept-kept.result c.find-root.ensures
    (to_arrive c.find-root.new.group.view
    (finds_group c.kept-kept.result (begins_only c.args.tries c.kept-kept.result c.args.group c.kept-kept.ensures) c.find-root.ensures).view
    (λ e. c.if-group-eq1.false (ap (λ (z : GroupHeld). z.view.arrived) c.group.view_is ∙ e)))
    (tried.Yet c.in-Yet.group) c.in-Yet.ensures in
    let w = waited c.args.tries l.1 (keeps_soon c.args.tries c.args.tries (omega arith) l.3) in
    (w.tree, w.looked, l.3.view.same.arrived ∙ l.2, w.tokens, spent_since c.args.tries l.1 l.3)

pub returns-in-Left-clause-answer : goal.returns-in-Left-clause-answer
returns-in-Left-clause-answer c =
    let l =
    looks_and_leaves c.args.tries c.kept-kept.result c.find-root.ensures
    (to_arrive c.find-root.new.group.view
    (finds_group c.kept-kept.result (begins_only c.args.tries c.kept-kept.result c.args.group c.kept-kept.ensures) c.find-root.ensures).view
    (λ e. c.if-group-eq1.false (ap (λ (z : GroupHeld). z.view.arrived) c.group.view_is ∙ e)))
    (tried.Left c.in-Left.door) c.in-Left.ensures in
    left_all c.args.tries l.1 l.3 c.phase-phase-in-Left.ensures.phase

pub returns-in-Owing-clause-answer : goal.returns-in-Owing-clause-answer
returns-in-Owing-clause-answer c =
    let l =
    looks_and_leaves c.args.tries c.kept-kept.result c.find-root.ensures
    (to_arrive c.find-root.new.group.view
    (finds_group c.kept-kept.result (begins_only c.args.tries c.kept-kept.result c.args.group c.kept-kept.ensures) c.find-root.ensures).view
    (λ e. c.if-group-eq1.false (ap (λ (z : GroupHeld). z.view.arrived) c.group.view_is ∙ e)))
    (tried.Owing c.in-Owing.errand) c.in-Owing.ensures in
    left_owing c.args.tries l.1 l.3

pub returns-in-Ended-clause-answer : goal.returns-in-Ended-clause-answer
returns-in-Ended-clause-answer c =
    let l =
    looks_and_leaves c.args.tries c.kept-kept.result c.find-root.ensures
    (to_arrive c.find-root.new.group.view
    (finds_group c.kept-kept.result (begins_only c.args.tries c.kept-kept.result c.args.group c.kept-kept.ensures) c.find-root.ensures).view
    (λ e. c.if-group-eq1.false (ap (λ (z : GroupHeld). z.view.arrived) c.group.view_is ∙ e)))
    (tried.Ended c.in-Ended.group c.in-Ended.word) c.in-Ended.ensures in
    let w = waited c.args.tries l.1 l.3.0 in
    let f : SFits w32 c.shown-in-Ended.result = search rules in (
      w.tree,
      w.looked,
      (
        c.in-Ended.word.phase,
        l.3.2,
        to_z-of_z w32 c.shown-in-Ended.result f ∙ c.shown-in-Ended.ensures ∙ ap (shown_of c.in-Ended.word.phase) l.3.1,
      ),
      w.tokens,
    )

pub returns-in-Yet-clause-ended : goal.returns-in-Yet-clause-ended
returns-in-Yet-clause-ended c =
    finds_unseen c.kept-kept.result (begins_only c.args.tries c.kept-kept.result c.args.group c.kept-kept.ensures) c.find-root.ensures
    (ap (λ (w : Fields). w.ended) (sym c.root.view_is) ∙ c.if-root.false)

pub returns-in-Left-clause-ended : goal.returns-in-Left-clause-ended
returns-in-Left-clause-ended c =
    finds_unseen c.kept-kept.result (begins_only c.args.tries c.kept-kept.result c.args.group c.kept-kept.ensures) c.find-root.ensures
    (ap (λ (w : Fields). w.ended) (sym c.root.view_is) ∙ c.if-root.false)

pub returns-in-Owing-clause-ended : goal.returns-in-Owing-clause-ended
returns-in-Owing-clause-ended c =
    finds_unseen c.kept-kept.result (begins_only c.args.tries c.kept-kept.result c.args.group c.kept-kept.ensures) c.find-root.ensures
    (ap (λ (w : Fields). w.ended) (sym c.root.view_is) ∙ c.if-root.false)

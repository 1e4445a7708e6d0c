use Rattle.std.proofs.Common.{rules, ◌<◌, length, sym, ap, subst, ◌∙◌, arith}
use Rattle.std.proofs.lemmas.Int.{to_z-of_z}
use mir.Syntax.{w32}
use mir.Val.{SFits}
use Rattle.phaser_word.specs.Fields.{Fields}
use Rattle.phaser_word.specs.Phase.{shown_of}
use Rattle.tier_calls.specs.Holding.{Named}
use Rattle.tier_calls.specs.Groups.{GroupHeld}
use Rattle.tier_calls.proofs.ArrivingAll.{first_look, unseen_all, first_fresh_all, end_shown_all, keeps_none, keeps_soon, to_arrive}
use Rattle.tier_calls.proofs.ExchangeTries.{eager_first}
use Rattle.tier_calls.proofs.JoiningTries.{only_tried}
use Rattle.tier_calls.proofs.tiers.Tiers.join_all.Goals as goal

pub returns-then-root-clause-answer : goal.returns-then-root-clause-answer
returns-then-root-clause-answer c =
    let e = ap (λ (w : Fields). w.ended) (sym c.root.view_is) ∙ c.if-root.true in
    let f : SFits w32 c.shown.result = search rules in (
      c.look_all-root.new.group,
      first_look c.look_all-root.ensures,
      keeps_soon 0 c.args.tries (omega arith) (keeps_none c.look_all-root.new.group),
      (
        c.look_all-root.result.phase,
        end_shown_all c.look_all-root.ensures e,
        to_z-of_z w32 c.shown.result f ∙ c.shown.ensures ∙ ap (shown_of c.look_all-root.result.phase) e,
      ),
    )

pub returns-then-group-eq1-clause-answer : goal.returns-then-group-eq1-clause-answer
returns-then-group-eq1-clause-answer c = (
  first_look c.look_all-root.ensures,
  first_fresh_all c.look_all-root.ensures (ap (λ (w : Fields). w.ended) (sym c.root.view_is) ∙ c.if-root.false),
  ap (λ (z : GroupHeld). z.view.arrived) (sym c.group.view_is) ∙ c.if-group-eq1.true,
  c.phase-phase.ensures,
)

pub try_join-requires-clause-place : goal.try_join-requires-clause-place
try_join-requires-clause-place c =
    subst (λ (n : Named). c.look_all-root.new.group.view.tier < length n.key.shape) c.requires.own.1
    (first_look c.look_all-root.ensures).place

pub try_join-requires-clause-eager : goal.try_join-requires-clause-eager
try_join-requires-clause-eager c =
    eager_first c.look_all-root.ensures (ap (λ (w : Fields). w.ended) (sym c.root.view_is) ∙ c.if-root.false)
    (to_arrive c.look_all-root.new.group.view c.look_all-root.ensures.group.view (λ e. c.if-group-eq1.false (ap (λ (z : GroupHeld). z.view.arrived) c.group.view_is ∙ e)))

pub returns-in-Yet-clause-answer : goal.returns-in-Yet-clause-answer
returns-in-Yet-clause-answer c =
    only_tried c.look_all-root.ensures
    (to_arrive c.look_all-root.new.group.view c.look_all-root.ensures.group.view (λ e. c.if-group-eq1.false (ap (λ (z : GroupHeld). z.view.arrived) c.group.view_is ∙ e)))
    c.in-Yet.ensures.went

pub returns-in-Joined-clause-answer : goal.returns-in-Joined-clause-answer
returns-in-Joined-clause-answer c =
    (c.look_all-root.new.group, first_look c.look_all-root.ensures, c.in-Joined.ensures.went, c.phase-phase-in-Joined.ensures)

pub returns-in-Full-clause-answer : goal.returns-in-Full-clause-answer
returns-in-Full-clause-answer c =
    let none =
    to_arrive c.look_all-root.new.group.view c.look_all-root.ensures.group.view
    (λ e. c.if-group-eq1.false (ap (λ (z : GroupHeld). z.view.arrived) c.group.view_is ∙ e)) in
    let w = c.in-Full.ensures.went in
    (w.0, w.1, only_tried c.look_all-root.ensures none w.2, w.3)

pub returns-in-Ended-clause-answer : goal.returns-in-Ended-clause-answer
returns-in-Ended-clause-answer c =
    let e = c.in-Ended.ensures.went in
    let f : SFits w32 c.shown-in-Ended.result = search rules in (
      c.look_all-root.new.group,
      first_look c.look_all-root.ensures,
      e.0,
      (
        c.in-Ended.word.phase,
        e.2,
        to_z-of_z w32 c.shown-in-Ended.result f ∙ c.shown-in-Ended.ensures ∙ ap (shown_of c.in-Ended.word.phase) e.1,
      ),
    )

pub returns-then-group-eq1-clause-ended : goal.returns-then-group-eq1-clause-ended
returns-then-group-eq1-clause-ended c =
    unseen_all c.look_all-root.ensures (ap (λ (w : Fields). w.ended) (sym c.root.view_is) ∙ c.if-root.false)

pub returns-in-Yet-clause-ended : goal.returns-in-Yet-clause-ended
returns-in-Yet-clause-ended c = unseen_all c.look_all-root.ensures (ap (λ (w : Fields). w.ended) (sym c.root.view_is) ∙ c.if-root.false)

pub returns-in-Joined-clause-ended : goal.returns-in-Joined-clause-ended
returns-in-Joined-clause-ended c = unseen_all c.look_all-root.ensures (ap (λ (w : Fields). w.ended) (sym c.root.view_is) ∙ c.if-root.false)

pub returns-in-Full-clause-ended : goal.returns-in-Full-clause-ended
returns-in-Full-clause-ended c = unseen_all c.look_all-root.ensures (ap (λ (w : Fields). w.ended) (sym c.root.view_is) ∙ c.if-root.false)

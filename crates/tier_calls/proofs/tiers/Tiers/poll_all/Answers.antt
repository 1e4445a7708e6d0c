use Rattle.std.proofs.Common.{rules, ◌<◌, length, sym, ap, subst, ◌∙◌}
use Rattle.std.proofs.lemmas.Int.{to_z-of_z}
use mir.Syntax.{w32}
use mir.Val.{SFits}
use Rattle.phaser_word.specs.Fields.{Fields}
use Rattle.phaser_word.specs.Phase.{shown_of}
use Rattle.tier_calls.specs.Holding.{Named}
use Rattle.tier_calls.specs.Groups.{GroupHeld}
use Rattle.tier_calls.proofs.ArrivingAll.{first_look, unseen_all, first_fresh_all, end_shown_all, no_more, waited, to_arrive, fresh_still, passed_on, all_waited, all_end}
use Rattle.tier_calls.proofs.CatchingUp.{all_caught_up_at_root}
use Rattle.tier_calls.proofs.tiers.Tiers.poll_all.Goals as goal

pub returns-then-word-clause-answer : goal.returns-then-word-clause-answer
returns-then-word-clause-answer c =
    let e = ap (λ (w : Fields). w.ended) (sym c.word.view_is) ∙ c.if-word.true in
    let w = no_more 1 (first_look c.look_and_keep-word.ensures) in
    let f : SFits w32 c.shown.result = search rules in (
      w.tree,
      w.looked,
      (
        c.look_and_keep-word.result.phase,
        end_shown_all c.look_and_keep-word.ensures e,
        to_z-of_z w32 c.shown.result f ∙ c.shown.ensures ∙ ap (shown_of c.look_and_keep-word.result.phase) e,
      ),
      w.tokens,
    )

pub returns-then-group-eq1-clause-answer : goal.returns-then-group-eq1-clause-answer
returns-then-group-eq1-clause-answer c =
    let w = no_more 1 (first_look c.look_and_keep-word.ensures) in (
      w.tree,
      w.looked,
      first_fresh_all c.look_and_keep-word.ensures (ap (λ (w : Fields). w.ended) (sym c.word.view_is) ∙ c.if-word.false),
      ap (λ (z : GroupHeld). z.view.arrived) (sym c.group.view_is) ∙ c.if-group-eq1.true,
      w.tokens,
    )

pub catch_up_all-requires-clause-place : goal.catch_up_all-requires-clause-place
catch_up_all-requires-clause-place c =
    subst (λ (n : Named). c.look_and_keep-word.new.group.view.tier < length n.key.shape) c.requires.own
    (first_look c.look_and_keep-word.ensures).place

pub catch_up_all-requires-clause-unarrived : goal.catch_up_all-requires-clause-unarrived
catch_up_all-requires-clause-unarrived c =
    to_arrive c.look_and_keep-word.new.group.view c.look_and_keep-word.ensures.group.view
    (λ e. c.if-group-eq1.false (ap (λ (z : GroupHeld). z.view.arrived) c.group.view_is ∙ e))

pub returns-then-phase-before-clause-answer : goal.returns-then-phase-before-clause-answer
returns-then-phase-before-clause-answer c =
    let w = waited 1 (first_look c.look_and_keep-word.ensures) c.catch_up_all.ensures.kept in
    let none =
    to_arrive c.look_and_keep-word.new.group.view c.look_and_keep-word.ensures.group.view
    (λ e. c.if-group-eq1.false (ap (λ (z : GroupHeld). z.view.arrived) c.group.view_is ∙ e)) in
    let fresh =
    fresh_still 1 c.look_and_keep-word.ensures (ap (λ (w : Fields). w.ended) (sym c.word.view_is) ∙ c.if-word.false)
    c.catch_up_all.ensures.kept c.catch_up_all.ensures.root in (
      w.tree,
      w.looked,
      fresh,
      c.catch_up_all.ensures.kept.kept.view.same.arrived ∙ none,
      c.phase-phase.ensures,
      w.tokens,
      sym c.phase-phase.ensures ∙ (c.if-phase-before.true ∙ c.phase-before.ensures),
    )

pub returns-clause-answer : goal.returns-clause-answer
returns-clause-answer c =
    let w = waited 1 (first_look c.look_and_keep-word.ensures) c.catch_up_all.ensures.kept in
    let none =
    to_arrive c.look_and_keep-word.new.group.view c.look_and_keep-word.ensures.group.view
    (λ e. c.if-group-eq1.false (ap (λ (z : GroupHeld). z.view.arrived) c.group.view_is ∙ e)) in
    let fresh =
    fresh_still 1 c.look_and_keep-word.ensures (ap (λ (w : Fields). w.ended) (sym c.word.view_is) ∙ c.if-word.false)
    c.catch_up_all.ensures.kept c.catch_up_all.ensures.root in
    let on =
    passed_on c.args.group.now.view c.catch_up_all.new.group.view c.look_and_keep-word.ensures.was.view w.looked
    (c.catch_up_all.ensures.kept.kept.view.same.arrived ∙ none)
    (λ e. c.if-phase-before.false (c.phase-phase.ensures ∙ (e ∙ sym c.phase-before.ensures))) in
    (w.tree, w.looked, fresh, on, c.phase-phase.ensures, w.tokens)

pub returns-clause-waited : goal.returns-clause-waited
returns-clause-waited c =
    all_waited 1 c.look_and_keep-word.ensures (ap (λ (w : Fields). w.ended) (sym c.word.view_is) ∙ c.if-word.false)
    c.catch_up_all.ensures.kept c.catch_up_all.ensures.root c.phase-phase.ensures
    (λ e. c.if-phase-before.false (c.phase-phase.ensures ∙ (e ∙ sym c.phase-before.ensures)))

pub returns-then-word-clause-waited : goal.returns-then-word-clause-waited
returns-then-word-clause-waited c =
    all_end c.look_and_keep-word.ensures (ap (λ (w : Fields). w.ended) (sym c.word.view_is) ∙ c.if-word.true)

pub returns-then-phase-before-clause-caught_up : goal.returns-then-phase-before-clause-caught_up
returns-then-phase-before-clause-caught_up c =
    c.catch_up_all.ensures.caught_up
    (λ own. all_caught_up_at_root c.look_and_keep-word.ensures (λ e. c.if-group-eq1.false (ap (λ (z : GroupHeld). z.view.arrived) c.group.view_is ∙ e)) own)

pub returns-clause-caught_up : goal.returns-clause-caught_up
returns-clause-caught_up c =
    c.catch_up_all.ensures.caught_up
    (λ own. all_caught_up_at_root c.look_and_keep-word.ensures (λ e. c.if-group-eq1.false (ap (λ (z : GroupHeld). z.view.arrived) c.group.view_is ∙ e)) own)

pub returns-then-group-eq1-clause-ended : goal.returns-then-group-eq1-clause-ended
returns-then-group-eq1-clause-ended c =
    unseen_all c.look_and_keep-word.ensures (ap (λ (w : Fields). w.ended) (sym c.word.view_is) ∙ c.if-word.false)

pub returns-then-phase-before-clause-ended : goal.returns-then-phase-before-clause-ended
returns-then-phase-before-clause-ended c =
    unseen_all c.look_and_keep-word.ensures (ap (λ (w : Fields). w.ended) (sym c.word.view_is) ∙ c.if-word.false)

pub returns-clause-ended : goal.returns-clause-ended
returns-clause-ended c = unseen_all c.look_and_keep-word.ensures (ap (λ (w : Fields). w.ended) (sym c.word.view_is) ∙ c.if-word.false)

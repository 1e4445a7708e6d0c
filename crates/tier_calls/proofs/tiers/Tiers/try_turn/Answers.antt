use Rattle.std.proofs.Common.{◌≡◌, cond, ap, sym, subst, refl}
use Rattle.phaser_word.specs.Fields.{Fields}
use Rattle.tier_steps.specs.declared.view.View.{View}
use Rattle.tier_steps.specs.Step.{Needs}
use Rattle.tier_core.specs.declared.call.Turn.{Turn}
use Rattle.tier_core.specs.declared.call.Played.TheVariants.{GoesOn}
use Rattle.tier_core.specs.declared.call.Progress.TheVariants.{Idle}
use Rattle.tier_rule.specs.Reach.{PlanSays}
use Rattle.tier_calls.specs.Holding.{Won, Lost}
use Rattle.tier_calls.specs.Calls.{under}
use Rattle.tier_calls.specs.Goes.{over_at}
use Rattle.tier_calls.proofs.Running.{try_needs, try_says, won_on}
use Rattle.tier_calls.proofs.Tries.{lost_to}
use Rattle.tier_calls.proofs.tiers.Tiers.try_turn.Goals as goal

pub attempt-requires-clause-needs : goal.attempt-requires-clause-needs
attempt-requires-clause-needs c =
    subst (λ (z : Turn). Needs c.args.self.now.key.shape z.kind c.args.token.now.tier c.args.token.now.word c.args.token.now.view)
    (sym c.requires.turn)
    (try_needs c.args.self.now c.args.ends (under c.args.token.now c.args.course.now) c.requires.at c.requires.stands c.requires.ends)

pub attempt-requires-clause-plan : goal.attempt-requires-clause-plan
attempt-requires-clause-plan c =
    subst (λ (z : Turn). PlanSays c.args.self.now.key z.kind c.args.token.now.word) (sym c.requires.turn)
    (try_says c.args.self.now c.args.ends (under c.args.token.now c.args.course.now) c.requires.at c.requires.stands c.requires.ends)

pub returns-then-attempt : goal.returns-then-attempt
returns-then-attempt c =
    won_on c.args.self.now c.args.ends (under c.args.token.now c.args.course.now) c.requires.at c.requires.stands c.requires.ends _
    c.attempt.new.token
    (subst (λ (z : Turn). Won z.kind c.args.token.now c.attempt.new.token) c.requires.turn c.if-attempt.ensures) refl
    (ap (λ (z : Turn). z.next) c.requires.turn) (ap (λ (z : Turn). z.answer) c.requires.turn)

pub returns-else-attempt : goal.returns-else-attempt
returns-else-attempt c =
    lost_to c.args.self.now (under c.args.token.now c.args.course.now) (under c.attempt.new.token c.missed.new.course) c.attempt.new.token
    c.view-phase.result.phase c.requires.at c.requires.passing
    (ap (λ (v : View). v.phase) (sym c.view-phase.ensures)) refl
    (subst (λ (w : Fields). c.missed.new.course.progress ≡ cond w.ended Idle c.args.course.now.progress) c.word.ensures.word c.missed.ensures.progress)
    (subst (λ (w : Fields). c.missed.new.course.answer ≡ cond w.ended (over_at c.args.course.now.progress c.view-phase.result.phase w) GoesOn) c.word.ensures.word c.missed.ensures.answer)
    c.args.ends c.requires.stands c.requires.ends
    (subst (λ (z : Turn). Lost z.kind c.args.token.now c.attempt.new.token) c.requires.turn c.if-attempt.ensures)

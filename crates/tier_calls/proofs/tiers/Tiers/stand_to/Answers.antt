use Rattle.std.proofs.Common.{◌<◌, ◌≡◌, ℕ, cond, refl, sym, ap, subst, length}
use Rattle.phaser_word.specs.Fields.{Fields}
use Rattle.tier_steps.specs.declared.view.View.{View}
use Rattle.tier_core.specs.declared.call.Played.TheVariants.{GoesOn}
use Rattle.tier_core.specs.declared.call.Progress.TheVariants.{Idle}
use Rattle.tier_calls.specs.Calls.{under}
use Rattle.tier_calls.specs.Goes.{over_at}
use Rattle.tier_calls.proofs.Running.{place_within}
use Rattle.tier_calls.proofs.Tries.{passing_going, looked_to}
use Rattle.tier_calls.proofs.tiers.Tiers.stand_to.Goals as goal

pub look-requires-clause-tier : goal.look-requires-clause-tier
look-requires-clause-tier c =
    subst (λ (t : ℕ). t < length c.args.self.now.key.shape) (sym c.requires.tier)
    (place_within c.args.self.now.key.shape _ _ _ c.args.course.now.progress c.requires.at.known c.requires.at.fits (passing_going c.args.course.now.progress c.requires.passing))

pub returns-clause-stood : goal.returns-clause-stood
returns-clause-stood c =
    looked_to c.args.self.now (under c.args.token.now c.args.course.now) (under c.look.new.token c.missed.new.course) c.look.new.token
    c.view-phase.result.phase c.requires.at c.requires.passing
    (ap (λ (v : View). v.phase) (sym c.view-phase.ensures)) refl
    (subst (λ (w : Fields). c.missed.new.course.progress ≡ cond w.ended Idle c.args.course.now.progress) c.word-2.ensures.word c.missed.ensures.progress)
    (subst (λ (w : Fields). c.missed.new.course.answer ≡ cond w.ended (over_at c.args.course.now.progress c.view-phase.result.phase w) GoesOn) c.word-2.ensures.word c.missed.ensures.answer)
    c.args.tier c.requires.tier c.look.ensures

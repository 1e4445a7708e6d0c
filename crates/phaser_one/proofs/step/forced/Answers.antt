use Rattle.std.proofs.Common.{sym, ap, subst, true}
use Rattle.phaser_word.specs.Fields.{Fields}
use Rattle.flat_phaser.specs.Alike.{IsAlike}
use Rattle.phaser_one.specs.Calls.{Force, after}
use Rattle.phaser_one.specs.Seen.{flat_of}
use Rattle.phaser_one.proofs.Following.{force_follows}
use Rattle.phaser_one.proofs.step.forced.Goals as goal

pub returns-clause-flat : goal.returns-clause-flat
returns-clause-flat g c = λ f a.
    let follows = force_follows c.args.rule.now.plan c.args.word f a in
    let P : Fields → Type 0 = λ v. IsAlike (after c.args.rule.now.plan Force f) (flat_of v) in
    (subst P (sym (ap (λ (w : Fields). record w { ended = true }) c.word.view_is)) follows.0, follows.1)

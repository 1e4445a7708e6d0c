use Rattle.std.proofs.Common.{◌≡◌, ◌∙◌, ap, sym, subst}
use Rattle.phaser_word.specs.Fields.{Fields}
use Rattle.flat_phaser.specs.Alike.{IsAlike}
use Rattle.phaser_one.specs.Seen.{flat_of}
use Rattle.phaser_one.specs.Calls.{after}
use Rattle.phaser_one.proofs.LawProofs.{advance_reported}
use Rattle.phaser_one.proofs.phaser.PhaserOne.call_reported.Goals as goal

pub returns-clause-advance : goal.returns-clause-advance
returns-clause-advance g c = λ f a.
    let old : c.self.inside.word ≡ c.args.self.now.word = ap (λ s. s.word) c.self.view_is in
    let new : c.self-2.inside.word ≡ c.call-reply.new.self.word = ap (λ s. s.word) c.self-2.view_is in
    let P : Fields → Type 0 = λ w. IsAlike f (flat_of w) in
    let Q : Fields → Type 0 = λ w. IsAlike (after c.args.self.now.rule.plan c.args.call f) (flat_of w) in
    let before : IsAlike f (flat_of c.self.inside.word) = subst P (sym old) a in
    let later : IsAlike (after c.args.self.now.rule.plan c.args.call f) (flat_of c.self-2.inside.word) =
    subst Q (sym new) ((c.call-reply.ensures.flat f a).0) in
    c.advance_between.ensures
    ∙ advance_reported c.args.self.now.rule.plan c.args.call f c.self.inside.word c.self-2.inside.word c.self-2.invariant before later

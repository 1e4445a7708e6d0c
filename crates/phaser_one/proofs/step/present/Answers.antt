use Rattle.std.proofs.Common.{◌≡◌, ◌≤◌, ap, arith}
use Rattle.flat_phaser.specs.Flat.{registered, unarrived}
use Rattle.phaser_word.specs.Fields.{Fields}
use Rattle.phaser_one.proofs.Following.{registered_is, unarrived_is}
use Rattle.phaser_one.proofs.step.present.Goals as goal

pub returns : goal.returns
returns c = λ f a.
    let parties : c.word.inside.parties ≡ c.args.word.parties = ap (λ (w : Fields). w.parties) c.word.view_is in
    let absent : c.word.inside.unarrived ≡ c.args.word.unarrived = ap (λ (w : Fields). w.unarrived) c.word.view_is in
    let counted : c.args.word.unarrived ≤ c.args.word.parties = c.requires.counted in
    let all : registered f ≡ c.args.word.parties = registered_is f c.args.word counted a in
    let some : unarrived f ≡ c.args.word.unarrived = unarrived_is f c.args.word counted a in
    omega arith

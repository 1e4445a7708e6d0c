use Rattle.std.proofs.Common.{sym, ap, ◌∙◌}
use Rattle.phaser_word.specs.Fields.{Fields}
use Rattle.phaser_one.proofs.Following.{unarrived_is}
use Rattle.phaser_one.proofs.step.absent.Goals as goal

pub returns : goal.returns
returns c = λ f a. ap (λ (w : Fields). w.unarrived) c.word.view_is ∙ sym (unarrived_is f c.args.word c.requires.counted a)

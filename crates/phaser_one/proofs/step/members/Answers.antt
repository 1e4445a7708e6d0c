use Rattle.std.proofs.Common.{sym, ap, ◌∙◌}
use Rattle.phaser_word.specs.Fields.{Fields}
use Rattle.phaser_one.proofs.Following.{registered_is}
use Rattle.phaser_one.proofs.step.members.Goals as goal

pub returns : goal.returns
returns c = λ f a. ap (λ (w : Fields). w.parties) c.word.view_is ∙ sym (registered_is f c.args.word c.requires.counted a)

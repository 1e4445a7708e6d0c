use Rattle.tier_laws.proofs.Driven.{runs_answer_as_the_flat_phaser}
use Rattle.tier_laws.proofs.answers.runs_answer_as_the_flat_phaser.Goals as goal

pub returns : goal.returns
returns c = runs_answer_as_the_flat_phaser

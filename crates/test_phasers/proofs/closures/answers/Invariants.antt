use Rattle.std.proofs.Common.{◌≡◌}
use Rattle.test_phasers.proofs.closures.answers.Given as goal

abbrev pub invariant-loop-ask : goal.invariant-loop-ask
invariant-loop-ask g l = l.phaser.rule ≡ l.fn.phaser.rule

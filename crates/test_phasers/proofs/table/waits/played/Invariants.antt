use Rattle.test_phasers.specs.Holders.{ThreeOf}
use Rattle.test_phasers.proofs.table.waits.played.Given as goal

abbrev pub invariant-loop-number : goal.invariant-loop-number
invariant-loop-number g l = ThreeOf l.tree.tree l.holders

use Rattle.test_phasers.specs.Holders.{EightOf}
use Rattle.test_phasers.proofs.lists.played.played.Given as goal

abbrev pub invariant-loop-turn : goal.invariant-loop-turn
invariant-loop-turn g l = EightOf l.tree.tree l.holders

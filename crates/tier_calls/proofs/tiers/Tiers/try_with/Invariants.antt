use Rattle.tier_calls.specs.ArrivesWith.{OnlySplit}
use Rattle.tier_calls.specs.KeptTries.{SoFar}
use Rattle.tier_calls.proofs.tiers.Tiers.try_with.Given as goal

abbrev pub invariant-loop : goal.invariant-loop
invariant-loop l = SoFar l.fn.kept l.kept l.counter l.fn.group l.group × OnlySplit l.fn.door l.door

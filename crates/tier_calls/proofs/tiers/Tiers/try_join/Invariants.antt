use Rattle.tier_calls.specs.ArrivesAll.{KeepsAll}
use Rattle.tier_calls.specs.ArrivesWith.{OnlySplit}
use Rattle.tier_calls.proofs.tiers.Tiers.try_join.Given as goal

abbrev pub invariant-loop : goal.invariant-loop
invariant-loop l = KeepsAll l.counter l.fn.group l.group × OnlySplit l.fn.door l.door

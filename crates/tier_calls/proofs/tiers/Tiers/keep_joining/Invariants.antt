use Rattle.tier_calls.specs.Passes.{IsFresh}
use Rattle.tier_calls.specs.Registers.{IsLookedAround}
use Rattle.tier_calls.specs.JoinsHere.{AreSpent}
use Rattle.tier_calls.proofs.tiers.Tiers.keep_joining.Given as goal

abbrev pub invariant-loop : goal.invariant-loop
invariant-loop l = AreSpent l.counter l.fn.crew l.crew l.fn.door l.door × IsLookedAround l.fn.door.view l.door.view × IsFresh l.door.view

use Rattle.std.proofs.Common.{◌≡◌, None}
use Rattle.tier_calls.specs.Made.{MadeOnly, is_glance}
use Rattle.tier_calls.specs.Arrives.{IsSpent}
use Rattle.tier_calls.specs.Registers.{IsLookedAround}
use Rattle.tier_calls.specs.Forces.{IsBefore}
use Rattle.tier_calls.proofs.tiers.Tiers.force_on.Given as goal

abbrev pub invariant-loop : goal.invariant-loop
invariant-loop l =
    IsSpent l.counter l.fn.door l.door × IsLookedAround l.fn.door.view l.door.view × IsBefore l.door × (l.door.view.end_seen ≡ None)
    × MadeOnly is_glance l.fn.door.steps l.door.steps

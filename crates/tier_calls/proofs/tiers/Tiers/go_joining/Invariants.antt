use Rattle.std.proofs.Common.{◌≡◌, true}
use Rattle.tier_core.specs.Machine.{is_going}
use Rattle.tier_calls.specs.Goes.{WentOn}
use Rattle.tier_calls.proofs.tiers.Tiers.go_joining.Given as goal

abbrev pub invariant-loop : goal.invariant-loop
invariant-loop l = WentOn l.self l.counter l.fn.at l.at × (is_going l.at.progress ≡ true)

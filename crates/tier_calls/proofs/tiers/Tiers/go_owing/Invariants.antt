use Rattle.std.proofs.Common.{◌≡◌, true}
use Rattle.tier_calls.specs.Next.{is_owing}
use Rattle.tier_calls.specs.Calls.{under}
use Rattle.tier_calls.specs.Goes.{WentOn}
use Rattle.tier_calls.proofs.tiers.Tiers.go_owing.Given as goal

abbrev pub invariant-loop : goal.invariant-loop
invariant-loop g l = WentOn l.self l.counter (under l.fn.token l.fn.course) (under l.token l.course) × (is_owing l.course.progress ≡ true)

use Rattle.std.proofs.Common.{◌≡◌, ℕ, true}
use Rattle.tier_calls.specs.Calls.{under}
use Rattle.tier_calls.specs.Next.{is_passing}
use Rattle.tier_calls.specs.Goes.{WentOn}
use Rattle.tier_calls.proofs.tiers.Tiers.go_through.Given as goal

abbrev pub invariant-loop : goal.invariant-loop
invariant-loop g l =
    (goal.iterator-loop g).can_next l.iterator' × (goal.iterator-loop g).is_finite l.iterator'
    × ((used : ℕ) × WentOn l.self used (under l.fn.token l.fn.course) (under l.token l.course)) × (is_passing l.course.progress ≡ true)

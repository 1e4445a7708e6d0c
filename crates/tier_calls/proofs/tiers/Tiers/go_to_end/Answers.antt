use Rattle.std.proofs.Common.{ap, sym, ◌+◌, ◌∙◌}
use Rattle.tier_calls.specs.Next.{is_passing}
use Rattle.tier_calls.specs.Calls.{under}
use Rattle.tier_calls.proofs.Running.{went_then}
use Rattle.tier_calls.proofs.Tries.{passing_on}
use Rattle.tier_calls.proofs.tiers.Tiers.go_to_end.Goals as goal

pub returns-then-not-goes_on : goal.returns-then-not-goes_on
returns-then-not-goes_on g c = let a = c.begin_arrival.ensures in
    record { used = a.0; went = a.1; over = sym c.goes_on.ensures ∙ c.if-not-goes_on.true }

pub go_through-requires-clause-passing : goal.go_through-requires-clause-passing
go_through-requires-clause-passing g c =
    passing_on {from = under c.args.token.now c.args.course.now} {at = under c.begin_arrival.new.token c.begin_arrival.new.course}
    c.begin_arrival.ensures.1 (ap is_passing c.requires.passing)
    (sym c.goes_on.ensures ∙ c.if-not-goes_on.false)

pub returns : goal.returns
returns g c =
    let a = c.begin_arrival.ensures in
    let b = c.go_through.ensures in
    record {
      used = a.0 + b.used;
      went =
          went_then c.args.self.now a.0 b.used (under c.args.token.now c.args.course.now)
          (under c.begin_arrival.new.token c.begin_arrival.new.course)
          (under c.go_through.new.token c.go_through.new.course) a.1 b.went;
      over = b.over;
    }

use Rattle.std.proofs.Common.{◌+◌}
use Rattle.tier_calls.specs.Calls.{under}
use Rattle.tier_calls.proofs.Running.{went_then}
use Rattle.tier_calls.proofs.tiers.Tiers.begin_arrival.Goals as goal

pub returns : goal.returns
returns g c =
    let a = c.arrive_own.ensures in
    let b = c.advance.ensures in (
      a.used + b.used,
      went_then c.args.self.now a.used b.used (under c.args.token.now c.args.course.now)
          (under c.arrive_own.new.token c.arrive_own.new.course) (under c.advance.new.token c.advance.new.course) a.went b.went,
    )

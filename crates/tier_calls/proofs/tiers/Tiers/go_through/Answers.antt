use Rattle.std.proofs.Common.{sym, ◌+◌, ◌∙◌}
use Rattle.tier_calls.specs.Calls.{under}
use Rattle.tier_calls.proofs.Running.{went_then}
use Rattle.tier_calls.proofs.Tries.{passing_on}
use Rattle.tier_calls.proofs.tiers.Tiers.go_through.Goals as goal

pub returns-then-not-goes_on : goal.returns-then-not-goes_on
returns-then-not-goes_on g c =
    let kept = c.loop.invariant.2 in
    record {
      used = kept.0 + c.go_on.ensures.used;
      went =
          went_then c.args.self.now kept.0 c.go_on.ensures.used (under c.args.token.now c.args.course.now)
          (under c.loop.token c.loop.course) (under c.go_on.new.token c.go_on.new.course) kept.1 c.go_on.ensures.went;
      over = sym c.goes_on.ensures ∙ c.if-not-goes_on.true;
    }

pub loop-preserved : goal.loop-preserved
loop-preserved g c =
    let kept = c.loop.invariant in
    let r = c.go_on.ensures in (
      tt,
      tt,
      (
        kept.2.0 + r.used,
        went_then c.args.self.now kept.2.0 r.used (under c.args.token.now c.args.course.now) (under c.loop.token c.loop.course)
            (under c.go_on.new.token c.go_on.new.course) kept.2.1 r.went,
      ),
      passing_on {from = under c.loop.token c.loop.course} {at = under c.go_on.new.token c.go_on.new.course} r.went kept.3
          (sym c.goes_on.ensures ∙ c.if-not-goes_on.false),
    )

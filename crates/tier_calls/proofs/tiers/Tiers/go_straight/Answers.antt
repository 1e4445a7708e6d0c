use Rattle.std.proofs.Common.{ap, sym, ◌∙◌, arith}
use Rattle.tier_calls.specs.Next.{is_passing}
use Rattle.tier_calls.proofs.Tries.{passing_on, ran_more, ran_all, ran_less}
use Rattle.tier_calls.proofs.tiers.Tiers.go_straight.Goals as goal

pub returns-then-not-goes_on : goal.returns-then-not-goes_on
returns-then-not-goes_on g c = ran_less c.start-used.ensures.few (sym c.goes_on.ensures ∙ c.if-not-goes_on.true) c.start-used.ensures.ran

pub go_on-requires-clause-passing : goal.go_on-requires-clause-passing
go_on-requires-clause-passing g c =
    passing_on c.start-used.ensures.ran.went (ap is_passing c.requires.passing) (sym c.goes_on.ensures ∙ c.if-not-goes_on.false)

pub returns : goal.returns
returns g c =
    ran_all (let x = c.start-used.ensures.few in omega arith)
    (ran_more c.start-used.ensures.ran (sym c.goes_on.ensures ∙ c.if-not-goes_on.false) c.go_on.ensures)

use Rattle.std.proofs.Common.{sym, ◌∙◌, arith}
use Rattle.tier_calls.proofs.Seeks.{joining_plan}
use Rattle.tier_calls.proofs.Running.{went_then, ran_over}
use Rattle.tier_calls.proofs.tiers.Tiers.go_joining.Goals as goal

pub returns-then-not-goes_on : goal.returns-then-not-goes_on
returns-then-not-goes_on c =
    ran_over (went_then _ _ 0 _ _ _ c.loop.invariant.0 c.stand.ensures.went) (let a = c.loop-test.true in omega arith) c.goes_on.ensures
    c.if-not-goes_on.true

pub returns-then-not-goes_on-2 : goal.returns-then-not-goes_on-2
returns-then-not-goes_on-2 c =
    ran_over (went_then _ _ 1 _ _ _ (went_then _ _ 0 _ _ _ c.loop.invariant.0 c.stand.ensures.went) c.try_on.ensures)
    (let a = c.loop-test.true in omega arith)
    c.goes_on-in-loop.ensures c.if-not-goes_on-2.true

pub loop-preserved : goal.loop-preserved
loop-preserved c =
    let w = went_then _ _ 1 _ _ _ (went_then _ _ 0 _ _ _ c.loop.invariant.0 c.stand.ensures.went) c.try_on.ensures in (
      record { at = w.at; tried = (let a = w.tried in omega arith); opened = w.opened; goes = w.goes },
      sym c.goes_on-in-loop.ensures ∙ c.if-not-goes_on-2.false,
    )

pub try_on-requires-clause-ends : goal.try_on-requires-clause-ends
try_on-requires-clause-ends c = joining_plan (went_then _ _ 0 _ _ _ c.loop.invariant.0 c.stand.ensures.went) c.requires.joining

use Rattle.std.proofs.Common.{sym, subst, ◌∙◌, arith}
use Rattle.tier_calls.specs.declared.going.Going.{Going}
use Rattle.tier_calls.specs.Calls.{under}
use Rattle.tier_calls.specs.Goes.{Ran}
use Rattle.tier_calls.proofs.Running.{went_then, ran_over}
use Rattle.tier_calls.proofs.Tries.{owing_on}
use Rattle.tier_calls.proofs.tiers.Tiers.go_owing.Goals as goal
use Rattle.tier_calls.proofs.tiers.Tiers.go_owing.Goals.{in-Owing, in-Due}

pub returns-then-not-goes_on : goal.returns-then-not-goes_on
returns-then-not-goes_on g c =
    let r : Ran c.args.self.now 1 (under c.loop.token c.loop.course) (under c.match-course.token c.match-course.course) =
    elim c.match-course.branch [
      | in-Owing w ↦ subst (λ (z : Going). Ran c.args.self.now 1 (under c.loop.token c.loop.course) z)
          (λ i. under (sym w.token-is i) (sym w.course-is i)) w.climb.ensures
      | in-Due w ↦ subst (λ (z : Going). Ran c.args.self.now 1 (under c.loop.token c.loop.course) z)
          (λ i. under (sym w.token-is i) (sym w.course-is i)) w.advance.ensures
    ] in
    ran_over (went_then _ _ r.used _ _ _ c.loop.invariant.0 r.went) (let a = c.loop-test.true in let b = r.few in omega arith)
    c.goes_on.ensures c.if-not-goes_on.true

pub loop-preserved : goal.loop-preserved
loop-preserved g c =
    let r : Ran c.args.self.now 1 (under c.loop.token c.loop.course) (under c.match-course.token c.match-course.course) =
    elim c.match-course.branch [
      | in-Owing w ↦ subst (λ (z : Going). Ran c.args.self.now 1 (under c.loop.token c.loop.course) z)
          (λ i. under (sym w.token-is i) (sym w.course-is i)) w.climb.ensures
      | in-Due w ↦ subst (λ (z : Going). Ran c.args.self.now 1 (under c.loop.token c.loop.course) z)
          (λ i. under (sym w.token-is i) (sym w.course-is i)) w.advance.ensures
    ] in
    let on = sym c.goes_on.ensures ∙ c.if-not-goes_on.false in
    let w = went_then _ _ r.used _ _ _ c.loop.invariant.0 r.went in (
      record { at = w.at; tried = (let a = w.tried in let b = r.all on in omega arith); opened = w.opened; goes = w.goes },
      owing_on w c.requires.owing on,
    )

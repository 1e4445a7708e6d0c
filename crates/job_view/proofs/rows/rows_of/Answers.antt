use Rattle.std.proofs.Common.{◌≡◌, ℕ, ◌+◌, ◌-◌, subst, arith}
use Rattle.job_view.proofs.Steps.{IsAt, begun, first_row, next_row, row_later}
use Rattle.job_view.proofs.rows.rows_of.Goals as goal

pub loop-done-preserved : goal.loop-done-preserved
loop-done-preserved c =
    let there =
    row_later c.args.job.now c.args.limit c.args.every c.loop-done.done c.loop-done.run c.advance.new.self c.loop-done.invariant.some
    c.loop-done.invariant.at
    c.in_ok-advance.ensures in
    let same : c.loop-done.done ≡ (c.loop-done.done + 1) - 1 = omega arith in
    record {
      values =
          next_row c.args.job.now c.args.limit c.args.every c.loop-done.done c.args.name.now c.advance.new.self
          c.arrays-in-loop-done.result.now _ _ there
          c.arrays-in-loop-done.ensures c.loop-done.invariant.values c.in_ok-push_row-2.ensures;
      at = subst (λ (i : ℕ). IsAt c.args.job.now c.args.limit c.args.every i c.advance.new.self) same there;
      some = omega arith;
      within = omega (arith, c.loop-done-test.true);
    }

pub loop-done-init : goal.loop-done-init
loop-done-init c =
    let there = begun c.args.job.now c.args.limit c.args.every c.in_ok-run.run' c.in_ok-run.ensures.begun c.in_ok-run.ensures.job in
    let none : 0 ≡ 1 - 1 = omega arith in
    record {
      values = first_row c.args.job.now c.args.limit c.args.every c.args.name.now c.in_ok-run.run' c.arrays.result.now _ _ there
          c.arrays.ensures c.new-values.ensures.items c.in_ok-push_row.ensures;
      at = subst (λ (i : ℕ). IsAt c.args.job.now c.args.limit c.args.every i c.in_ok-run.run') none there;
      some = omega arith;
      within = c.requires.count;
    }

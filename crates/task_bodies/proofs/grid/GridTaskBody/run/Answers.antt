use Rattle.std.proofs.Common.{arith}
use Rattle.task_bodies.proofs.Each.{rows_more, next_row}
use Rattle.task_bodies.proofs.grid.GridTaskBody.run.Goals as goal

pub loop-row-preserved : goal.loop-row-preserved
loop-row-preserved g c =
    let i = c.loop-row.invariant in
    record {
      done =
          rows_more (λ w v. goal.F-post g c.args.self.now.f w v) c.args.self.now.beyond c.cells-cells.result.now c.args.self.now.width
          c.args.kept.now.first c.loop-row.row
          c.rows_round.result.up.now c.rows_round.result.own.now c.rows_round.result.down.now c.loop-row.values.items
          c.push_row.new.values.items i.low i.done
          c.rows_round.ensures.up c.rows_round.ensures.own c.rows_round.ensures.down c.in_ok-push_row.ensures;
      at = next_row c.loop-row.row c.loop-row.at c.args.self.now.width i.at;
      low = omega (arith, i.low);
      high = omega (arith, c.loop-row-test.true);
    }

use Rattle.std.proofs.Common.{◌≡◌, ◌+◌, ◌∙◌, ◌++◌, ◌∷◌, [], arith, w64, to_z, of_z}
use Rattle.std.proofs.lemmas.Int.{ints}
use Rattle.task_bodies.specs.Board.{near, window_in}
use Rattle.task_bodies.proofs.Each.{row_none, row_more}
use Rattle.task_bodies.proofs.grid.Grid.push_row.Goals as goal

pub loop-place-init : goal.loop-place-init
loop-place-init g c =
    let b : to_z w64 (of_z w64 c.args.self.now.beyond) ≡ c.args.self.now.beyond = omega (arith, ints) in
    record {
      done =
          row_none (λ w v. goal.F-post g c.args.self.now.f w v) c.args.self.now.beyond c.args.rows.up.now c.args.rows.own.now
          c.args.rows.down.now c.args.values.now.items;
      left_up = b;
      left_own = b;
      left_down = b;
      middle_up = c.column_of-middle.ensures.up ∙ (λ j. near (b j) c.args.rows.up.now (0 + 1));
      middle_own = c.column_of-middle.ensures.own ∙ (λ j. near (b j) c.args.rows.own.now (0 + 1));
      middle_down = c.column_of-middle.ensures.down ∙ (λ j. near (b j) c.args.rows.down.now (0 + 1));
      high = omega arith;
    }

pub loop-place-preserved : goal.loop-place-preserved
loop-place-preserved g c =
    let i = c.loop-place.invariant in
    let b : to_z w64 (of_z w64 c.args.self.now.beyond) ≡ c.args.self.now.beyond = omega (arith, ints) in
    let v : to_z w64 (of_z w64 c.f-value.result) ≡ c.f-value.result = omega (arith, ints, c.f-value.type_inv) in
    let two : c.loop-place.place + 1 + 1 ≡ c.loop-place.place + 2 = omega arith in
    let up = c.column_of-right.ensures.up ∙ (λ j. near (b j) c.args.rows.up.now (two j)) in
    let own = c.column_of-right.ensures.own ∙ (λ j. near (b j) c.args.rows.own.now (two j)) in
    let down = c.column_of-right.ensures.down ∙ (λ j. near (b j) c.args.rows.down.now (two j)) in
    let window : c.window_of.result
    ≡ window_in c.args.self.now.beyond c.args.rows.up.now c.args.rows.own.now c.args.rows.down.now c.loop-place.place =
    c.window_of.ensures ∙ (λ j. record {
      north_west = i.left_up j;
      north = i.middle_up j;
      north_east = up j;
      west = i.left_own j;
      own = i.middle_own j;
      east = own j;
      south_west = i.left_down j;
      south = i.middle_down j;
      south_east = down j;
    }) in
    record {
      done =
          row_more (λ w v. goal.F-post g c.args.self.now.f w v) c.args.self.now.beyond c.args.rows.up.now c.args.rows.own.now
          c.args.rows.down.now c.loop-place.place
          c.args.values.now.items c.loop-place.values.items c.push.new.self.items c.window_of.result c.f-value.result i.done window
          c.f-value.ensures
          (c.in_ok-push.ensures.items ∙ (λ j. c.loop-place.values.items ++ v j ∷ []));
      left_up = i.middle_up;
      left_own = i.middle_own;
      left_down = i.middle_down;
      middle_up = c.column_of-right.ensures.up ∙ (λ j. near (b j) c.args.rows.up.now (c.loop-place.place + 1 + 1));
      middle_own = c.column_of-right.ensures.own ∙ (λ j. near (b j) c.args.rows.own.now (c.loop-place.place + 1 + 1));
      middle_down = c.column_of-right.ensures.down ∙ (λ j. near (b j) c.args.rows.down.now (c.loop-place.place + 1 + 1));
      high = omega (arith, c.loop-place-test.true);
    }

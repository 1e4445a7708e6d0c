use Rattle.std.proofs.Common.{◌<◌, ◌∙◌, ◌++◌, ◌∷◌, [], List, length, length-append, ap, arith}
use Rattle.superstep_memory.specs.declared.arrays.Put.{Put}
use Rattle.superstep_memory.specs.declared.lots.Row.{Row}
use Rattle.superstep_memory.specs.Rows.{row_puts}
use Rattle.superstep_memory.proofs.Rows.{row_count}
use Rattle.superstep_memory.proofs.LotLemmas.{row_inside, sets_row_more}
use Rattle.superstep_memory.proofs.puts.Puts.put_row.Goals as goal

pub invariant_of-self-2 : goal.invariant_of-self-2
invariant_of-self-2 c =
    let h =
    row_inside c.self.inside.lots.items c.push.new.self.items c.self.inside.rows.items c.push_reserved.new.self.items c.row.result
    (record { values = c.args.values }) c.args.array c.args.first
    c.in_ok-push.ensures.items
    (c.push_reserved.ensures.items ∙ ap (λ (rs : List Row). rs ++ record { values = c.args.values } ∷ []) c.in_ok-reserve.ensures.items)
    c.row.ensures.row c.row.ensures.array c.row.ensures.index c.self.invariant.rows in
    let some : 0 < c.len-count.result = let t = c.if-count-eq0.false in grind arith in
    let lots = ap length c.in_ok-push.ensures.items ∙ length-append c.self.inside.lots.items (c.row.result ∷ []) in
    let puts = ap length h.0 ∙ length-append _ (row_puts c.args.array c.args.first c.args.values.items) in
    record {
      count =
          omega (
            arith,
            lots,
            puts,
            c.self.invariant.count,
            c.in_ok-more.ensures.sum,
            c.args.values.ok.0,
            row_count c.args.array c.args.first c.args.values.items,
            c.len-count.ensures,
            some,
          );
      few = c.in_ok-more.ensures.few;
      rows = h.1;
      sets = sets_row_more _ _ c.args.array c.args.first c.args.values.items c.self.inside.sets h.0 c.self.invariant.sets;
    }

pub returns-clause-added : goal.returns-clause-added
returns-clause-added c =
    let h =
    row_inside c.self.inside.lots.items c.push.new.self.items c.self.inside.rows.items c.push_reserved.new.self.items c.row.result
    (record { values = c.args.values }) c.args.array c.args.first
    c.in_ok-push.ensures.items
    (c.push_reserved.ensures.items ∙ ap (λ (rs : List Row). rs ++ record { values = c.args.values } ∷ []) c.in_ok-reserve.ensures.items)
    c.row.ensures.row c.row.ensures.array c.row.ensures.index c.self.invariant.rows in
    h.0 ∙ ap (λ (ps : List Put). ps ++ row_puts c.args.array c.args.first c.args.values.items) c.self.view_is

use Rattle.std.proofs.Common.{◌∙◌, ◌++◌, List, length, length-append, ap, arith}
use Rattle.superstep_memory.specs.declared.lots.Row.{Row}
use Rattle.superstep_memory.specs.Lots.{puts_in}
use Rattle.superstep_memory.proofs.LotLemmas.{lots_joined, sets_joined}
use Rattle.superstep_memory.proofs.puts.Puts.append.Goals as goal

pub invariant_of-self-2 : goal.invariant_of-self-2
invariant_of-self-2 c =
    let h =
    lots_joined c.self.inside.lots.items c.others.inside.lots.items c.append.new.self.items c.self.inside.rows.items
    c.others.inside.rows.items c.append-2.new.self.items
    c.in_ok-append.ensures.items
    (c.in-Ok.ensures.items ∙ ap (λ (rs : List Row). rs ++ c.others.inside.rows.items) c.in_ok-reserve.ensures.items)
    c.self.invariant.rows c.others.invariant.rows in
    let lots = ap length c.in_ok-append.ensures.items ∙ length-append c.self.inside.lots.items c.others.inside.lots.items in
    let puts =
    ap length h.0
    ∙ length-append (puts_in c.self.inside.lots.items c.self.inside.rows.items)
    (puts_in c.others.inside.lots.items c.others.inside.rows.items) in
    record {
      count = omega (arith, lots, puts, c.self.invariant.count, c.others.invariant.count, c.in_ok-more.ensures.sum);
      few = c.in_ok-more.ensures.few;
      rows = h.1;
      sets =
          c.both-self-inside.ensures
          ∙ sets_joined (puts_in c.self.inside.lots.items c.self.inside.rows.items)
          (puts_in c.others.inside.lots.items c.others.inside.rows.items) _ c.self.inside.sets c.others.inside.sets h.0
          c.self.invariant.sets c.others.invariant.sets;
    }

pub returns-clause-joined : goal.returns-clause-joined
returns-clause-joined c =
    let h =
    lots_joined c.self.inside.lots.items c.others.inside.lots.items c.append.new.self.items c.self.inside.rows.items
    c.others.inside.rows.items c.append-2.new.self.items
    c.in_ok-append.ensures.items
    (c.in-Ok.ensures.items ∙ ap (λ (rs : List Row). rs ++ c.others.inside.rows.items) c.in_ok-reserve.ensures.items)
    c.self.invariant.rows c.others.invariant.rows in
    h.0 ∙ (λ i. c.self.view_is i ++ c.others.view_is i)

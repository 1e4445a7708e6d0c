use Rattle.std.proofs.Common.{◌∙◌, ◌++◌, ◌∷◌, [], List, length, length-append, ap, refl, arith}
use Rattle.superstep_memory.specs.Landing.{is_set}
use Rattle.superstep_memory.specs.declared.arrays.Put.{Put}
use Rattle.superstep_memory.proofs.LotLemmas.{put_inside, sets_more}
use Rattle.superstep_memory.proofs.puts.Puts.put.Goals as goal

pub invariant_of-self-2 : goal.invariant_of-self-2
invariant_of-self-2 c =
    let h =
    put_inside c.self.inside.lots.items c.push.new.self.items c.self.inside.rows.items c.one.result c.args.put c.in_ok-push.ensures.items
    c.one.ensures.put c.one.ensures.single c.self.invariant.rows in
    let lots = ap length c.in_ok-push.ensures.items ∙ length-append c.self.inside.lots.items (c.one.result ∷ []) in
    let puts = ap length h.0 ∙ length-append _ (c.args.put ∷ []) in
    record {
      count = omega (arith, lots, puts, c.self.invariant.count);
      few = c.self.invariant.few;
      rows = h.1;
      sets = c.note_kind.ensures ∙ sets_more _ _ c.args.put c.self.inside.sets (is_set c.args.put) h.0 c.self.invariant.sets refl;
    }

pub returns-clause-added : goal.returns-clause-added
returns-clause-added c =
    let h =
    put_inside c.self.inside.lots.items c.push.new.self.items c.self.inside.rows.items c.one.result c.args.put c.in_ok-push.ensures.items
    c.one.ensures.put c.one.ensures.single c.self.invariant.rows in
    h.0 ∙ ap (λ (ps : List Put). ps ++ c.args.put ∷ []) c.self.view_is

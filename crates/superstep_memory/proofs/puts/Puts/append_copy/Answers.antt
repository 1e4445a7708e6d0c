use Rattle.std.proofs.Common.{◌∙◌, ◌++◌, List, ap}
use Rattle.superstep_memory.specs.declared.arrays.Put.{Put}
use Rattle.superstep_memory.specs.Lots.{puts_in}
use Rattle.superstep_memory.proofs.LotLemmas.{lot_copied, none_copied}
use Rattle.superstep_memory.proofs.puts.Puts.append_copy.Goals as goal

pub loop-lot-init : goal.loop-lot-init
loop-lot-init c =
    ap (λ (ps : List Put). c.args.self.now ++ ps)
    ((λ i. puts_in (c.as_slice-rest.ensures.value i) (c.as_slice-left.ensures.value i)) ∙ c.others.view_is)

pub loop-lot-preserved : goal.loop-lot-preserved
loop-lot-preserved c =
    lot_copied c.loop-lot.self c.append_lot.new.self c.loop-lot.rest.now c.loop-lot.left.now c.in_ok-left.left.now c.in-Some.lot.now
    c.in-Some.after.now c.in-Some.ensures.cases.0
    c.in_ok-left.ensures.puts c.in_ok-left.ensures.rows
    ∙ c.loop-lot.invariant

pub returns : goal.returns
returns c = none_copied c.loop-lot.self c.loop-lot.rest.now c.loop-lot.left.now c.in_default.ensures.cases ∙ c.loop-lot.invariant

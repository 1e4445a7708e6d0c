use Rattle.std.proofs.Common.{◌∙◌, List, sym, ap}
use Rattle.superstep_memory.specs.declared.arrays.Put.{Put}
use Rattle.superstep_memory.specs.Landing.{landed}
use Rattle.superstep_memory.proofs.Landed.{landed_none}
use Rattle.step_core.specs.SlotParts.{puts_in, puts_of}
use Rattle.step_core.proofs.slot.Slot.land_sets.Goals as goal

pub returns-in-None : goal.returns-in-None
returns-in-None c =
    sym
    (ap (λ (ps : List Put). landed ps c.args.arrays.now) (ap puts_in (sym c.self.view_is) ∙ ap puts_of c.in-None.is)
    ∙ landed_none c.args.arrays.now)

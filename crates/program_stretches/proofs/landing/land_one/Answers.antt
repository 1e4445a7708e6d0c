use Rattle.std.proofs.Common.{◌∙◌, ap, sym}
use Rattle.superstep_memory.specs.Landing.{landed}
use Rattle.superstep_memory.proofs.Landed.{landed_none}
use Rattle.program_stretches.specs.Parts.{of_slot}
use Rattle.program_stretches.proofs.landing.land_one.Goals as goal

pub returns-in_default : goal.returns-in_default
returns-in_default g c =
    sym (ap (λ s. landed (of_slot (λ part. part.puts) s) c.args.arrays.now) c.in_default.is ∙ landed_none c.args.arrays.now)

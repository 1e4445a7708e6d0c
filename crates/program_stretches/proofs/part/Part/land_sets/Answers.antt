use Rattle.std.proofs.Common.{◌≡◌, ◌∙◌, [], List, ap, sym}
use Rattle.superstep_memory.specs.declared.arrays.Put.{Put}
use Rattle.superstep_memory.specs.Landing.{landed}
use Rattle.superstep_memory.proofs.Landed.{landed_none}
use Rattle.program_stretches.proofs.part.Part.land_sets.Goals as goal

pub returns-else-deref : goal.returns-else-deref
returns-else-deref g c =
    let none : c.args.self.now.puts ≡ [] = search in
    sym (ap (λ (ps : List Put). landed ps c.args.arrays.now) none ∙ landed_none c.args.arrays.now)

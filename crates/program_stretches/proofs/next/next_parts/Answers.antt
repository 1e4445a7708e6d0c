use Rattle.std.proofs.Common.{◌∙◌, length, ap}
use Rattle.superstep_memory.proofs.InOrder.{count_in_order}
use Rattle.program_stretches.specs.Parts.{living_in}
use Rattle.program_stretches.proofs.next.next_parts.Goals as goal

pub make_parts-requires-clause-count : goal.make_parts-requires-clause-count
make_parts-requires-clause-count g c =
    ap length c.in_ok-pieces.ensures.tasks ∙ count_in_order g.T.OnPath.path_of (living_in c.args.parts.items) ∙ c.requires.count

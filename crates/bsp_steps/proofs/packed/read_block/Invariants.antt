use Rattle.std.proofs.Common.{◌≡◌, ℕ, List, Option, map, length}
use Rattle.bsp_steps.specs.DeedBytes.{DeedValue, deeds_from, deeds_in}
use Rattle.bsp_steps.specs.DeedReads.{read_deed, IsBlock}
use Rattle.bsp_steps.proofs.packed.read_block.Given as goal

abbrev pub invariant-loop-items : goal.invariant-loop-items
invariant-loop-items l = record {
  back : (new : List DeedValue) (fault : Option ℕ)
      → IsBlock (length l.bytes) (map read_deed l.deeds.items) new fault (deeds_from l.items l.begun.puts.items l.begun.prints.items l.rest)
      → IsBlock (length l.fn.bytes) (map read_deed l.fn.deeds.items) new fault (deeds_in l.fn.bytes);
}

abbrev pub decreases-loop-items : goal.decreases-loop-items
decreases-loop-items l = l.items

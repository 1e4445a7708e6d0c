use Rattle.std.proofs.Common.{◌≡◌, ◌≤◌, ◌-◌, map, drop, length}
use Rattle.bsp_steps.specs.DeedReads.{read_deed, after_block, deeds_of}
use Rattle.bsp_steps.proofs.packed.read_blocks.Given as goal

abbrev pub invariant-loop-block : goal.invariant-loop-block
invariant-loop-block l = record {
  read : after_block (map read_deed l.deeds.items) (deeds_of l.block (drop l.block l.blocks)) ≡ deeds_of 0 l.fn.blocks;
  within : l.block ≤ length l.blocks;
}

abbrev pub decreases-loop-block : goal.decreases-loop-block
decreases-loop-block l = length l.blocks - l.block

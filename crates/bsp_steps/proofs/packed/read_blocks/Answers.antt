use Rattle.std.proofs.Common.{◌≡◌, ◌∙◌, ◌+◌, ℕ, [], None, Option, drop, map, length, get_or, subst, arith}
use Rattle.std.proofs.lemmas.List.{drop_more}
use Rattle.bsp_steps.specs.declared.packed.Block.{Block}
use Rattle.bsp_steps.specs.DeedBytes.{deeds_in}
use Rattle.bsp_steps.specs.DeedReads.{read_deed, IsBlock}
use Rattle.bsp_steps.proofs.DeedBytes.{block_read}
use Rattle.bsp_steps.proofs.packed.read_blocks.Goals as goal

pub loop-block-preserved : goal.loop-block-preserved
loop-block-preserved c =
    let n : ℕ = c.loop-block.block in
    let none : Block = record { bytes = record { ref_ptr = (0, 0); now = [] } } in
    let b : Block = get_or c.args.blocks.now n none in
    let old = map read_deed c.loop-block.deeds.items in
    let new = map read_deed c.read_block.new.deeds.items in
    let read : IsBlock (length b.bytes.now) old new None (deeds_in b.bytes.now) =
    subst (λ (f : Option ℕ). IsBlock (length b.bytes.now) old new f (deeds_in b.bytes.now)) c.in_default.is c.in_ok-byte.ensures in
    record {
      read =
          block_read n (n + 1) b (drop (n + 1) c.args.blocks.now) (drop n c.args.blocks.now) old new (omega arith)
          (drop_more c.args.blocks.now n none c.loop-block-test.true) read
          ∙ c.loop-block.invariant.read;
      within = omega (arith, c.loop-block-test.true);
    }

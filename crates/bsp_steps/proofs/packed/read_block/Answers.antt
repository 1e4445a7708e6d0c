use Rattle.std.proofs.Common.{◌≡◌, ◌∙◌, ◌-◌, ℕ, suc, None, Some, Option, List, map, length, sym, subst, arith}
use Rattle.std.specs.Borrow.{Bor}
use Rattle.bsp_steps.specs.DeedBytes.{item_of, deeds_from, is_done}
use Rattle.bsp_steps.specs.DeedReads.{read_deed, IsTaken, IsBlock}
use Rattle.bsp_steps.proofs.DeedBytes.{block_done, block_fault, block_out, block_step}
use Rattle.bsp_steps.proofs.packed.read_block.Goals as goal

pub returns-then-is_done : goal.returns-then-is_done
returns-then-is_done c =
    let l = c.loop-items in
    l.invariant.back (map read_deed l.deeds.items) None
    (block_done (length c.args.bytes.now) l.items (l.items - 1) l.rest.now l.begun.puts.items l.begun.prints.items (map read_deed l.deeds.items)
    (omega (arith, c.loop-items-test.true)) (sym c.is_done.ensures ∙ c.if-is_done.true))

pub returns-in-None : goal.returns-in-None
returns-in-None c =
    let l = c.loop-items in
    let bytes : ℕ = length c.args.bytes.now in
    let new = map read_deed c.take_item.new.deeds.items in
    let none : IsTaken l.begun c.take_item.new.begun l.deeds.items c.take_item.new.deeds.items None (item_of l.rest.now) =
    subst (λ (r : Option (Bor (List ℕ))). IsTaken l.begun c.take_item.new.begun l.deeds.items c.take_item.new.deeds.items r (item_of l.rest.now))
    c.in-None.is c.in_ok-behind.ensures in
    l.invariant.back new (Some c.minus.result)
    (subst (λ (n : ℕ). IsBlock bytes (map read_deed l.deeds.items) new (Some n) (deeds_from l.items l.begun.puts.items l.begun.prints.items l.rest.now))
    (sym c.minus.ensures)
    (block_fault bytes l.items (l.items - 1) l.rest.now l.begun c.take_item.new.begun l.deeds.items c.take_item.new.deeds.items
    (map read_deed l.deeds.items) new (omega (arith, c.loop-items-test.true)) (sym c.is_done.ensures ∙ c.if-is_done.false) none))

pub loop-items-preserved : goal.loop-items-preserved
loop-items-preserved c =
    let l = c.loop-items in
    let bytes : ℕ = length c.args.bytes.now in
    let taken : IsTaken l.begun c.take_item.new.begun l.deeds.items c.take_item.new.deeds.items (Some c.in-Some.behind) (item_of l.rest.now) =
    subst (λ (r : Option (Bor (List ℕ))). IsTaken l.begun c.take_item.new.begun l.deeds.items c.take_item.new.deeds.items r (item_of l.rest.now))
    c.in-Some.is c.in_ok-behind.ensures in
    record {
      back = λ new fault h. l.invariant.back new fault
          (block_step bytes new fault l.items (l.items - 1) l.rest.now l.begun c.take_item.new.begun l.deeds.items c.take_item.new.deeds.items
          c.in-Some.behind (omega (arith, c.loop-items-test.true)) (sym c.is_done.ensures ∙ c.if-is_done.false) taken h);
    }

pub returns : goal.returns
returns c =
    let l = c.loop-items in
    let bytes : ℕ = length c.args.bytes.now in
    l.invariant.back (map read_deed l.deeds.items) (Some c.minus-2.result)
    (subst
    (λ (n : ℕ). IsBlock bytes (map read_deed l.deeds.items) (map read_deed l.deeds.items) (Some n) (deeds_from l.items l.begun.puts.items l.begun.prints.items l.rest.now))
    (sym c.minus-2.ensures)
    (block_out bytes l.items l.rest.now l.begun.puts.items l.begun.prints.items (map read_deed l.deeds.items) (map read_deed l.deeds.items)
    (omega (arith, c.loop-items-test.false))))

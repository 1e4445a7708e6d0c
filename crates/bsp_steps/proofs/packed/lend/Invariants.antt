use Rattle.std.proofs.Common.{◌≡◌, ◌++◌, map, drop}
use Rattle.bsp_steps.specs.DeedReads.{read_deed, deed_value}
use Rattle.bsp_steps.proofs.packed.lend.Given as goal

abbrev pub invariant-loop-one : goal.invariant-loop-one
invariant-loop-one l = record {
  lent : map deed_value l.deeds.items ++ map read_deed (drop l.one-index l.read) ≡ map read_deed l.fn.read;
}

-- What a segment has done so far, as far as it matters where it ends: the locals that it has set, its puts in order, and how
-- many tasks it has spawned.
use Rattle.std.specs.Prelude.{ℕ, ℤ, List}
use Rattle.superstep_memory.specs.declared.arrays.Put.{Put}

pub record Done : Type 0 where
  pub locals : List ℤ
  pub puts : List Put
  pub spawned : ℕ

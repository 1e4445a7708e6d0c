use Rattle.std.proofs.Common.{◌≡◌, ◌<◌, ◌+◌, ◌^◌, ◌++◌, length, reverse}
use Rattle.std.specs.Vec.{vec_len, vec_capacity}
use Rattle.program_stretches.specs.Parts.{AreFresh, tasks_in}
use Rattle.program_stretches.proofs.cut.cut_off.Given as goal

abbrev pub invariant-loop-alloc : goal.invariant-loop-alloc
invariant-loop-alloc g l = record {
  capacity : vec_len l.parts < vec_capacity l.parts;
  end : l.fn.from + length l.rest.items < 2 ^ 64;
  fresh : AreFresh (l.fn.from + length l.rest.items) (reverse l.parts.items);
  tasks : l.rest.items ++ tasks_in (reverse l.parts.items) ≡ l.fn.rest.items ++ tasks_in (reverse l.fn.parts.items);
}

abbrev pub decreases-loop-alloc : goal.decreases-loop-alloc
decreases-loop-alloc g l = length l.rest.items

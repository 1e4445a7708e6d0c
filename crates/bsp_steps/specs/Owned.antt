-- What a handle owns: a state on the heap, and the right to free its block.
use Rattle.std.specs.Prelude.{Option, Some, None}
use mir.Syntax.{Ty}
use base.Fml.{Fml, ftrue}
use denote.RattleType.{RattleType}
use denote.RawPtr.{Ptr}
use Rattle.std.specs.Box.Ownership.{box_owns}
use Rattle.std.specs.declared.alloc.Global.{Global}
use Rattle.std.specs.contracts.impls.GlobalAllocator.TheImpl.{ghosts}

-- the heap: `Global` has no other value
abbrev pub heap : Global
heap = record { memory = record { seal = tt } }

-- the right to free a block of it, as std's `Box` has it
abbrev pub freeing : Ty → Ptr → Fml
freeing = ghosts.dealloc_token heap

abbrev pub owns_if : (R : RattleType) → Ptr → Option R.Denot → Fml
owns_if R p (Some x) = box_owns freeing R p x
owns_if R p None = ftrue

use Rattle.std.proofs.Common.{◌≡◌, ◌≤◌, ◌+◌, ◌-◌, ℕ, List, Option}
use Rattle.std.specs.Borrow.{Bor}
use Rattle.bsp_steps.specs.declared.given.PutGiven.{PutGiven}
use Rattle.bsp_steps.specs.DeedBytes.{values}
use Rattle.bsp_steps.specs.DeedReads.{IsRow}
use Rattle.bsp_steps.proofs.packed.take_values.Given as goal

abbrev pub invariant-loop-place : goal.invariant-loop-place
invariant-loop-place l = record {
  back : (new : List PutGiven) (r : Option (Bor (List ℕ)))
      → IsRow l.array (l.first + l.place) l.puts.items new r (values (l.count - l.place) l.rest)
      → IsRow l.fn.array l.fn.first l.fn.puts.items new r (values l.fn.count l.fn.bytes);
  within : l.place ≤ l.count;
}

abbrev pub decreases-loop-place : goal.decreases-loop-place
decreases-loop-place l = l.count - l.place

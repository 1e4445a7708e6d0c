use Rattle.std.proofs.Common.{◌≡◌, ◌++◌, map, length}
use Rattle.fault_reasons.specs.Items.{listed_on}
use Rattle.fault_reasons.proofs.items.push_on.Given as goal

abbrev pub invariant-loop-item : goal.invariant-loop-item
invariant-loop-item l = l.out.items ++ listed_on (map (λ v. v.items) l.rest) ≡ l.fn.out.items ++ listed_on (map (λ v. v.items) l.items)

abbrev pub decreases-loop-item : goal.decreases-loop-item
decreases-loop-item l = length l.rest

use Rattle.std.proofs.Common.{◌≡◌, ◌++◌, drop}
use Rattle.std.specs.List.{flat_map}
use Rattle.refusal_reasons.specs.Listing.{fault_line}
use Rattle.refusal_reasons.proofs.listing.push_faults.Given as goal

abbrev pub invariant-loop-refusal : goal.invariant-loop-refusal
invariant-loop-refusal l = l.out.items ++ flat_map fault_line (drop l.refusal-index l.faults) ≡ l.fn.out.items ++ flat_map fault_line l.fn.faults

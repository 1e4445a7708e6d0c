use Rattle.std.proofs.Common.{◌≡◌, map, drop}
use Rattle.task_code.specs.Names.{is_among}
use Rattle.fault_reasons.proofs.items.is_among.Given as goal

abbrev pub invariant-loop-known : goal.invariant-loop-known
invariant-loop-known l = is_among (map (λ v. v.items) (drop l.known-index l.items)) l.item ≡ is_among (map (λ v. v.items) l.items) l.item

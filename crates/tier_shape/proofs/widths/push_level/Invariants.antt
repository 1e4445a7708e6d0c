use Rattle.std.proofs.Common.{◌≡◌, ◌++◌, ◌+◌, ◌/◌, map}
use Rattle.std.specs.List.{range_with_len}
use Rattle.tier_shape.proofs.widths.push_level.Given as goal

abbrev pub invariant-loop-place : goal.invariant-loop-place
invariant-loop-place l = l.parents.items ≡ l.initial.parents.items ++ map (λ place. l.first + place / l.width) (range_with_len 0 l.place)

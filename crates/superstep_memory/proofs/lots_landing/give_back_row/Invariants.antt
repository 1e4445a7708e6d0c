use Rattle.std.proofs.Common.{◌≡◌, ◌++◌, List, ℕ, length}
use Rattle.std.specs.Prelude.{ℤ}
use Rattle.superstep_memory.specs.declared.arrays.Put.{Put}
use Rattle.superstep_memory.specs.Rows.{AreSideBySide}
use Rattle.superstep_memory.specs.Taken.{HasBegun}
use Rattle.superstep_memory.proofs.lots_landing.give_back_row.Given as goal

abbrev pub invariant-loop-olds : goal.invariant-loop-olds
invariant-loop-olds l =
    (front ps : List Put) (xs : List (List ℕ × List ℤ)) → length front ≡ l.before → AreSideBySide l.array l.first ps
    → HasBegun (front ++ ps) l.fn.olds.items xs l.fn.arrays → HasBegun (front ++ ps) l.olds.items xs l.arrays

abbrev pub decreases-loop-olds : goal.decreases-loop-olds
decreases-loop-olds l = length l.olds.items

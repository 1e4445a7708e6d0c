-- Which leaf a task's member joins, by the path of the task (own).
use Rattle.std.specs.Prelude.{ℕ, ◌+◌, ◌%◌, List, [], ◌∷◌}

-- the leaf of a descendant of a task at this leaf, given the numbers of the path behind that of the task
abbrev pub leaf_below : ℕ → ℕ → List ℕ → ℕ
leaf_below leaves at [] = at
leaf_below leaves at (n ∷ ns) = leaf_below leaves ((at + 1 + n) % leaves) ns

-- The leaf, by its number, that a task at this path is to join: start task i leaf i, and each task the leaf with the number of its
-- spawner's leaf, plus 1, plus its own number; all modulo the number of leaves.
abbrev pub leaf_of : ℕ → List ℕ → ℕ
leaf_of leaves [] = 0
leaf_of leaves (n ∷ ns) = leaf_below leaves (n % leaves) ns

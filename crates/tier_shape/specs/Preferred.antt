-- Leaves by number, and which one a new party is to join (own).
use Rattle.std.specs.Prelude.{ℕ, suc, ◌+◌, ◌-◌, ◌%◌, ◌==◌, if◌then◌else◌, List, [], ◌∷◌, length, slice_index_or}

-- Leaves are numbered from 0. The preferred leaf of a spawned task is the number of its spawner's leaf, plus 1, plus
-- the last number of the task's path, modulo the number of leaves.
abbrev pub leaf_at : List ℕ → ℕ → ℕ
leaf_at leaves number = slice_index_or leaves (number % length leaves) 0

abbrev pub number_in : List ℕ → ℕ → ℕ
number_in [] leaf = 0
number_in (l ∷ ls) leaf = if l == leaf then 0 else suc (number_in ls leaf)

abbrev pub last_number : List ℕ → ℕ
last_number path = slice_index_or path (length path - 1) 0

abbrev pub preferred : List ℕ → ℕ → List ℕ → ℕ
preferred leaves home path = leaf_at leaves (number_in leaves home + 1 + last_number path)

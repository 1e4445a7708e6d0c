-- Workers that share the tasks of a run (own).
use Rattle.std.specs.Prelude.{ℕ, ◌≤◌, List}

-- how many they are, and the shape of the tree at which they meet: the parent of each tier
pub record WorkersValue : Type 0 where
  pub count : ℕ
  pub shape : List ℕ

-- how many workers a run may have
pub record IsWorkerCount (count : ℕ) : Type 0 where
  pub some : 1 ≤ count
  pub few : count ≤ 64

-- A barrier (Java SE 21, `CyclicBarrier`; the number of the generation is own).
use Rattle.std.specs.Prelude.{◌≡◌, ℕ, ◌<◌, ◌≤◌, Bool, true, false, List, [], length}

-- how many parties meet, the generation, who waits in order of arrival, and whether it is broken
pub record Machine : Type 0 where
  pub parties : ℕ
  pub generation : ℕ
  pub waiting : List ℕ
  pub broken : Bool

abbrev pub machine : ℕ → ℕ → List ℕ → Bool → Machine
machine parties generation waiting broken = record { parties = parties; generation = generation; waiting = waiting; broken = broken }

-- a barrier that was just made
abbrev pub fresh : ℕ → Machine
fresh parties = machine parties 0 [] false

-- what is true of every barrier
pub record IsBarrier (m : Machine) : Type 0 where
  pub some : 0 < m.parties
  pub few : m.parties ≤ 65535
  pub capacity : length m.waiting < m.parties
  pub nobody : m.broken ≡ true → m.waiting ≡ []

-- What live tasks did, without its place in memory: the tasks that they spawned are in one list, those of the first task first.
use Rattle.std.specs.Prelude.{◌≡◌, ℕ, zero, suc, ◌+◌, List, [], ◌∷◌, length, take}
use Rattle.programs.specs.DeedValue.{DeedValue}
use Rattle.programs.specs.InPlace.{one_left}
use Rattle.programs.specs.declared.deed_list.Deed.{Deed}
use Rattle.programs.specs.declared.deeds.Deeds.TheInside.{Inside}

-- all after the first n
abbrev pub behind : {A : Type 0} → ℕ → List A → List A
behind zero xs = xs
behind (suc n) [] = []
behind (suc n) (x ∷ xs) = behind n xs

module _ {S : Type 0} where
  -- each deed with its tasks, which are the next of the list
  abbrev pub deeds_with : List Deed → List S → List (DeedValue S)
  deeds_with [] ts = []
  deeds_with (d ∷ ds) ts =
      record { synced = d.synced; puts = d.puts; spawns = take d.spawned ts } ∷ deeds_with ds (behind d.spawned ts)

-- how many tasks were spawned
abbrev pub spawned_by : List Deed → ℕ
spawned_by [] = 0
spawned_by (d ∷ ds) = d.spawned + spawned_by ds

-- how many tasks stopped
abbrev pub stopped_by : List Deed → ℕ
stopped_by [] = 0
stopped_by (d ∷ ds) = one_left d.synced + stopped_by ds

-- how many puts were made
abbrev pub made_by : List Deed → ℕ
made_by [] = 0
made_by (d ∷ ds) = d.puts + made_by ds

module _ {S : Type 0} where
  abbrev pub deeds_in : Inside S → List (DeedValue S)
  deeds_in i = deeds_with i.each i.spawns.items

  -- the tasks that were spawned are all there, and those that stopped are counted
  pub record IsInside (i : Inside S) : Type 0 where
    pub spawned : spawned_by i.each ≡ length i.spawns.items
    pub stopped : i.stopped ≡ stopped_by i.each

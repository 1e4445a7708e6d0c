-- Live tasks in path order, whose paths are distinct, now and with all that they may spawn (own).
use Rattle.std.specs.Prelude.{◌≡◌, ℕ, ◌≤◌, true, List, [], ◌∷◌, ◌++◌, map}
use Rattle.superstep_memory.specs.Paths.{is_rising}
use Rattle.programs.specs.Meaning.{Frame}

-- tasks by their paths, and how many each has spawned
module _ {T : Type 0} (path : T → List ℕ) (begun : T → ℕ) where
  -- neither has the other's path, and neither's path is below one that the other may still spawn
  pub record Apart (t u : T) : Type 0 where
    pub paths : path t ≡ path u → ⊥
    pub right : (k : ℕ) (r : List ℕ) → begun t ≤ k → path u ≡ path t ++ k ∷ r → ⊥
    pub left : (k : ℕ) (r : List ℕ) → begun u ≤ k → path t ≡ path u ++ k ∷ r → ⊥

  -- one is apart from all these
  abbrev pub AllApart : T → List T → Type 0
  AllApart t [] = Unit {0}
  AllApart t (u ∷ us) = Apart t u × AllApart t us

  abbrev pub PairsApart : List T → Type 0
  PairsApart [] = Unit {0}
  PairsApart (t ∷ ts) = AllApart t ts × PairsApart ts

  pub record InOrder (ts : List T) : Type 0 where
    pub pairs : PairsApart ts
    pub rising : is_rising (map path ts) ≡ true

module _ {T : Type 0} where
  abbrev pub AreOrdered : Frame T → List T → Type 0
  AreOrdered f ts = InOrder f.path f.begun ts

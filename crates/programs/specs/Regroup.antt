-- How the tasks that live on are put in path order (own).
use Rattle.std.specs.Prelude.{◌≡◌, ℕ, Bool, true, false, List, [], ◌∷◌, ◌++◌, map, length, Option, Some, None}
use Rattle.std.specs.List.{AllByRecursion}
use Rattle.superstep_memory.specs.Paths.{path_lt}
use Rattle.programs.specs.Meaning.{children}
use Rattle.programs.specs.DeedValue.{DeedValue}
use Rattle.programs.specs.InPlace.{kept}

module _ {S : Type 0} where
  -- each task's spawned ones are numbered on, from some number
  abbrev pub AreNumbered : (S → List ℕ) → List S → List (DeedValue S) → Type 0
  AreNumbered q [] ds = Unit {0}
  AreNumbered q (t ∷ ts) [] = Unit {0}
  AreNumbered q (t ∷ ts) (d ∷ ds) = ((begun : ℕ) × (map q d.spawns ≡ children (q t) begun (length d.spawns))) × AreNumbered q ts ds

  -- the first comes after this path, if there is one
  abbrev pub IsNextAfter : (S → List ℕ) → List ℕ → List S → Type 0
  IsNextAfter q p [] = Unit {0}
  IsNextAfter q p (v ∷ vs) = path_lt p (q v) ≡ true

  -- the first of those that wait were moved to the end of others; none of them comes after this path
  pub record HasMoved (q : S → List ℕ) (p : List ℕ) (before after waited waits : List S) : Type 0 where
    pub front : List S
    pub moved : after ≡ before ++ front
    pub cut : waited ≡ front ++ waits
    pub passed : AllByRecursion (λ w. path_lt p (q w) ≡ false) front

  -- this one comes before the bound, if there is one
  abbrev pub IsBefore : (S → List ℕ) → Option (List ℕ) → S → Type 0
  IsBefore q None c = Unit {0}
  IsBefore q (Some b) c = path_lt (q c) b ≡ true

  -- this one doesn't come after the bound, if there is one
  abbrev pub IsWithin : (S → List ℕ) → Option (List ℕ) → S → Type 0
  IsWithin q None c = Unit {0}
  IsWithin q (Some b) c = path_lt b (q c) ≡ false

  abbrev pub AreWithin : (S → List ℕ) → Option (List ℕ) → List S → Type 0
  AreWithin q bound ts = AllByRecursion (IsWithin q bound) ts

  -- each comes after none of those behind it
  abbrev pub IsInOrder : (S → List ℕ) → List S → Type 0
  IsInOrder q [] = Unit {0}
  IsInOrder q (t ∷ ts) = AllByRecursion (λ u. path_lt (q u) (q t) ≡ false) ts × IsInOrder q ts

  -- they all come after the bound; with no bound, there are none
  abbrev pub AreStrays : (S → List ℕ) → Option (List ℕ) → List S → Type 0
  AreStrays q None ts = ts ≡ []
  AreStrays q (Some b) ts = AllByRecursion (λ t. path_lt b (q t) ≡ true) ts

  -- the first of them comes after the bound; with no bound, there are none
  abbrev pub IsNextOutside : (S → List ℕ) → Option (List ℕ) → List S → Type 0
  IsNextOutside q None ts = ts ≡ []
  IsNextOutside q (Some b) ts = IsNextAfter q b ts

  -- the first of those that wait were moved to the end of others; none of them comes after the bound
  pub record HasMovedWithin (q : S → List ℕ) (bound : Option (List ℕ)) (before after waited waits : List S) : Type 0 where
    pub front : List S
    pub moved : after ≡ before ++ front
    pub cut : waited ≡ front ++ waits
    pub within : AreWithin q bound front

  -- this one comes before the first of these tasks; if there are none, before the bound
  abbrev pub IsBeforeNext : (S → List ℕ) → Option (List ℕ) → List S → S → Type 0
  IsBeforeNext q bound [] c = IsBefore q bound c
  IsBeforeNext q bound (t ∷ ts) c = path_lt (q c) (q t) ≡ true

  -- the first of the spawned tasks, so many, were moved to the end of others; they come before the next task
  pub record HasMovedEarly (q : S → List ℕ) (bound : Option (List ℕ)) (next before after spawned rest : List S) (count : ℕ) : Type 0 where
    pub now : List S
    pub moved : after ≡ before ++ now
    pub cut : spawned ≡ now ++ rest
    pub many : length now ≡ count
    pub early : AllByRecursion (IsBeforeNext q bound next) now

  -- A task was put in its place, if it goes on: after those that waited and don't come after it. Of the tasks that it spawned the
  -- first follow at once, which come before the next task. The others wait in front of those that waited.
  pub record HasPut (q : S → List ℕ) (bound : Option (List ℕ)) (task : S) (synced : Bool)
      (next spawned before after waited waits : List S) : Type 0 where
    pub front : List S
    pub back : List S
    pub now : List S
    pub later : List S
    pub cut : waited ≡ front ++ back
    pub passed : AllByRecursion (λ w. path_lt (q task) (q w) ≡ false) front
    pub rest : IsNextAfter q (q task) back
    pub all : spawned ≡ now ++ later
    pub early : AllByRecursion (IsBeforeNext q bound next) now
    pub put : after ≡ ((before ++ front) ++ kept synced task) ++ now
    pub wait : waits ≡ later ++ back

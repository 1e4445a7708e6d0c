-- What tasks leave in a superstep, whatever they are (own).
use Rattle.std.specs.Prelude.{◌≡◌, ℕ, zero, suc, ◌+◌, ℤ, List, [], ◌∷◌, ◌++◌, map, length}
use Rattle.superstep_memory.specs.declared.arrays.Put.{Put}

-- how a task's segment ends: it goes on, with what it is then; it stops; a fault of this number
pub data After (T : Type 0) : Type 0 where
  Synced : T → After T
  Stopped : After T
  Faulted : ℕ → After T

-- what a segment leaves: its puts and prints, the tasks that it spawns, and how it ends
pub record Segment (T : Type 0) : Type 0 where
  pub puts : List Put
  pub prints : List ℤ
  pub spawns : List T
  pub after : After T

-- where a task is, and how many tasks it has spawned
pub record Frame (T : Type 0) : Type 0 where
  pub path : T → List ℕ
  pub begun : T → ℕ

-- what tasks mean: their paths, how many each has spawned, how many may live at once, and what each leaves in a superstep, by
-- the arrays as it began and the step
pub record Says (T : Type 0) : Type 0 where
  pub path : T → List ℕ
  pub begun : T → ℕ
  pub most : ℕ
  pub segment : T → List (List ℕ × List ℤ) → ℕ → Segment T

-- the paths of a number of spawned tasks, if `begun` had been spawned before
abbrev pub children : List ℕ → ℕ → ℕ → List (List ℕ)
children path begun zero = []
children path begun (suc n) = (path ++ begun ∷ []) ∷ children path (suc begun) n

-- Spawned tasks are numbered on from those that were spawned before.
abbrev pub NumbersItsSpawns : {T : Type 0} → Says T → Type 0
NumbersItsSpawns {T} s =
    (t : T) (arrays : List (List ℕ × List ℤ)) (step : ℕ)
    → map s.path (s.segment t arrays step).spawns ≡ children (s.path t) (s.begun t) (length (s.segment t arrays step).spawns)

-- A task that goes on is the same task: its path, and all that it has spawned.
abbrev pub StaysTheSameTask : {T : Type 0} → Says T → Type 0
StaysTheSameTask {T} s =
    (t u : T) (arrays : List (List ℕ × List ℤ)) (step : ℕ)
    → (s.segment t arrays step).after ≡ Synced u
    → (s.path u ≡ s.path t) × (s.begun u ≡ s.begun t + length (s.segment t arrays step).spawns)

-- the same of what one task left: its spawned tasks are numbered on, and it goes on as the same task
pub record IsFormed {T : Type 0} (f : Frame T) (t : T) (g : Segment T) : Type 0 where
  pub numbered : map f.path g.spawns ≡ children (f.path t) (f.begun t) (length g.spawns)
  pub same : (u : T) → g.after ≡ Synced u → (f.path u ≡ f.path t) × (f.begun u ≡ f.begun t + length g.spawns)

-- What a stretch keeps of its tasks, before and after the next live ones have replaced them (own).
use Rattle.std.specs.Prelude.{◌≡◌, ◌≤◌, ℕ, Bool, true, false, List, [], ◌∷◌, ◌++◌, length, map, slice_get, Option, Some, None, Vec, IfSome}
use Rattle.std.specs.Option.{option_map}
use Rattle.std.specs.declared.alloc.Global.{Global}
use Rattle.superstep_memory.specs.PathOrder.{in_path_order}
use Rattle.programs.specs.DeedValue.{DeedValue}
use Rattle.programs.specs.InPlace.{living_with, left_in, spawned_in, made_in}
use Rattle.program_stretches.specs.declared.part.Settled.{Settled}

module _ {A : Type 0} where
  -- what tasks did, if they have run; else nothing
  abbrev pub if_done : Bool → List A → List A
  if_done false xs = []
  if_done true xs = xs

  -- and their fault
  abbrev pub fault_if_done : Bool → Option A → Option A
  fault_if_done false o = None
  fault_if_done true o = o

module _ {S : Type 0} where
  -- the tasks that are noted, if any are, else those that are there
  abbrev pub tasks_by : List (Vec S Global × List (DeedValue S)) → List S → List S
  tasks_by [] tasks = tasks
  tasks_by (n ∷ ns) tasks = n.0.items

  -- the same of their deeds
  abbrev pub deeds_by : List (Vec S Global × List (DeedValue S)) → List (DeedValue S) → List (DeedValue S)
  deeds_by [] deeds = deeds
  deeds_by (n ∷ ns) deeds = n.1

  -- `next` and after them `strays` are the next live tasks, in path order, of tasks `us` with the deeds `ds`, which didn't all stay
  pub record IsSettled (path : S → List ℕ) (z : Settled) (next strays us : List S) (ds : List (DeedValue S)) (done : Bool) : Type 0 where
    pub ran : z.ran ≡ length us
    pub left : z.left ≡ left_in ds
    pub spawned : z.spawned ≡ spawned_in ds
    pub puts : z.puts ≡ made_in ds
    pub first : option_map (λ p. p.items) z.first ≡ slice_get (map path us) 0
    pub short : IfSome z.first (λ p. length p.items ≤ 8)
    pub order : next ++ strays ≡ in_path_order path (living_with us ds)
    pub moved : left_in ds ≡ 0 → spawned_in ds ≡ 0 → ⊥
    pub finished : done ≡ true

  -- either nothing is noted, or what was replaced by these tasks and strays
  abbrev pub IsKept : (S → List ℕ) → Option Settled → List S → List S → List (Vec S Global × List (DeedValue S)) → Bool → Type 0
  IsKept path None next strays notes done = (notes ≡ []) × (strays ≡ [])
  IsKept path (Some z) next strays [] done = ⊥
  IsKept path (Some z) next strays (n ∷ ns) done = IsSettled path z next strays n.0.items n.1 done

-- What C gives: arrays, and what each live task left (own).
use Rattle.std.specs.Prelude.{◌≡◌, ℕ, zero, suc, ℤ, Bool, true, false, ◌||◌, nat_eq, nat_le, nat_lt, if◌then◌else◌, List, [], ◌∷◌, ◌++◌, map, length, Option, Some, None, slice_get, IsTrue}
use Rattle.std.specs.List.{list_all}
use Rattle.superstep_memory.specs.declared.arrays.Put.{Put}
use Rattle.superstep_memory.specs.declared.arrays.PutKind.TheVariants.{Set, Add}
use Rattle.superstep_memory.specs.Cells.{has_array}
use Rattle.task_code.specs.Names.{is_free}
use Rattle.task_bodies.specs.declared.body.Ending.TheVariants as ending
use Rattle.task_bodies.specs.Bodies.{OutValue, Left, MemberValue, nothing, left_so}
use Rattle.bsp_steps.specs.declared.given.ArrayGiven.{ArrayGiven}
use Rattle.bsp_steps.specs.declared.given.PutGiven.{PutGiven}
use Rattle.bsp_steps.specs.declared.given.Deed.{Deed}
use Rattle.bsp_steps.specs.declared.given.Origin.{Origin}

-- a live task keeps where it comes from
abbrev pub TaskValue : Type 0
TaskValue = MemberValue Origin

-- an array, by name and cells
abbrev pub array_given : ArrayGiven → List ℕ × List ℤ
array_given a = (a.name.now, a.cells.now)

-- an array has a name that an array of a job may have
abbrev pub is_named : ArrayGiven → Bool
is_named a = is_free a.name.now

-- it has at most 2 ^ 32 - 1 cells
abbrev pub is_small : ArrayGiven → Bool
is_small a = nat_lt (length a.cells.now) 4294967296

-- this array may follow others: none of them has its name, and it isn't too large
abbrev pub MayBeNext : List (List ℕ × List ℤ) → ArrayGiven → Type 0
MayBeNext before a = (has_array before a.name.now ≡ false) × IsTrue (is_small a)

-- each of these may follow those before it
abbrev pub MayFollow : List (List ℕ × List ℤ) → List ArrayGiven → Type 0
MayFollow before [] = Unit {0}
MayFollow before (a ∷ rest) = MayBeNext before a × MayFollow (before ++ array_given a ∷ []) rest

-- a put: it adds if `adds` is not 0
abbrev pub put_given : PutGiven → Put
put_given p = record { array = p.array; index = p.index; kind = if nat_eq p.adds 0 then Set else Add; value = p.value }

abbrev pub puts_given : List PutGiven → List Put
puts_given ps = map put_given ps

-- it goes on (0), stops (1), or fails with a number from 16 on
abbrev pub is_ending : Deed → Bool
is_ending d = nat_le d.ending 1 || nat_le 16 d.ending

-- there is a deed for each live task, and each ends in one of these ways
pub record Fit (deeds : List Deed) (live : ℕ) : Type 0 where
  pub count : length deeds ≡ live
  pub endings : IsTrue (list_all is_ending deeds)

-- of a task that goes on at this place, and of one that it spawned
abbrev pub stayed : ℕ → Origin
stayed place = record { place = place; number = 0; spawned = false }

abbrev pub spawned_at : ℕ → ℕ → Origin
spawned_at place number = record { place = place; number = number; spawned = true }

-- of the tasks spawned at this place, numbered from here on
abbrev pub all_spawned : ℕ → ℕ → ℕ → List Origin
all_spawned place number zero = []
all_spawned place number (suc n) = spawned_at place number ∷ all_spawned place (suc number) n

-- what this deed says that the task at this place wrote
abbrev pub written : Deed → ℕ → OutValue Origin
written d place = record { puts = puts_given d.puts.now; prints = d.prints.now; spawns = all_spawned place 0 d.spawns }

-- what it says that this task left
abbrev pub left_by : Deed → Origin → Left Origin
left_by d k =
    if nat_eq d.ending 0 then left_so ending.Syncs (stayed k.place) (written d k.place)
    else if nat_eq d.ending 1 then left_so ending.Stops k (written d k.place)
    else left_so (ending.Fails d.ending) k nothing

-- what was given for this task; one for which nothing was given stops
abbrev pub left_in : Option Deed → Origin → Left Origin
left_in None k = left_so ending.Stops k nothing
left_in (Some d) k = left_by d k

abbrev pub given_of : List Deed → Origin → Left Origin
given_of deeds k = left_in (slice_get deeds k.place) k

-- a task with the place that it has now
abbrev pub placed_at : ℕ → MemberValue Origin → MemberValue Origin
placed_at place t = record t { kept = stayed place }

-- the tasks with the places that they have now, from this place on
abbrev pub placed_from : ℕ → List (MemberValue Origin) → List (MemberValue Origin)
placed_from place [] = []
placed_from place (t ∷ ts) = placed_at place t ∷ placed_from (suc place) ts

-- the origins of start tasks
abbrev pub start_origins : ℕ → ℕ → List Origin
start_origins place zero = []
start_origins place (suc n) = stayed place ∷ start_origins (suc place) n

-- A run through all calls, worked out by hand: each number, each status and each answer written down (own).
use Rattle.std.specs.Prelude.{◌≡◌, ◌⊎◌, ℕ, ℤ, pos, negsuc, true, false, List, [], ◌∷◌, ◌++◌, length, codes, Option, Some, None, MatchOption}
use Rattle.std.specs.Borrow.{Bor}
use Rattle.phase_records.specs.PrintValue.{PrintValue}
use Rattle.phase_records.specs.declared.record.PhaseRecord.{PhaseRecord}
use Rattle.task_bodies.specs.Bodies.{MemberValue}
use Rattle.bsp_steps.specs.declared.given.ArrayGiven.{ArrayGiven}
use Rattle.bsp_steps.specs.declared.given.PutGiven.{PutGiven}
use Rattle.bsp_steps.specs.declared.given.Deed.{Deed}
use Rattle.bsp_steps.specs.declared.given.Look.{Look}
use Rattle.bsp_steps.specs.declared.given.Origin.{Origin}
use Rattle.bsp_steps.specs.declared.given.PrintReport.{PrintReport}
use Rattle.bsp_steps.specs.declared.given.RecordReport.{RecordReport}
use Rattle.bsp_steps.specs.declared.state.State.{State}
use Rattle.bsp_steps.specs.Runs.{RunValue, IsClosed}
use Rattle.bsp_steps.specs.Calls.{Opens, Closes, Frees, Looks, ReadsCells, ReadsPath, ReadsOrigin, ReadsFault, ReadsPrint, ReadsRecord, Reports}

module _ {A : Type 0} where
  abbrev pub lent : List A → Bor (List A)
  lent xs = record { ref_ptr = (0, 0); now = xs }

abbrev pub array : List ℕ → List ℤ → ArrayGiven
array name cells = record { name = lent name; cells = lent cells }

abbrev pub put : ℕ → ℕ → ℕ → ℤ → PutGiven
put array adds index value = record { array = array; adds = adds; index = index; value = value }

abbrev pub deed : List PutGiven → List ℤ → ℕ → ℕ → Deed
deed puts prints spawns ending = record { puts = lent puts; prints = lent prints; spawns = spawns; ending = ending }

abbrev pub idle : ℕ → Deed
idle ending = deed [] [] 0 ending

abbrev pub from : ℕ → ℕ → Origin
from place number = record { place = place; number = number; spawned = true }

abbrev pub stays : ℕ → Origin
stays place = record { place = place; number = 0; spawned = false }

abbrev pub task : List ℕ → ℕ → Origin → MemberValue Origin
task path begun origin = record { path = path; begun = begun; kept = origin }

abbrev pub printed : ℕ → List ℕ → ℤ → PrintValue
printed step path value = record { step = step; path = path; value = value }

abbrev pub recorded : ℕ → ℕ → ℕ → ℕ → PhaseRecord
recorded phase parties left spawned = record { phase = phase; parties = parties; left = left; spawned = spawned }

-- two arrays, two start tasks, at most four live tasks and three supersteps
abbrev pub arrays : List ArrayGiven
arrays = array (codes "a") (pos 10 ∷ pos 20 ∷ []) ∷ array (codes "b") (pos 10 ∷ []) ∷ []

abbrev pub begun : RunValue
begun = record {
  step = 0;
  arrays = (codes "a", pos 10 ∷ pos 20 ∷ []) ∷ (codes "b", pos 10 ∷ []) ∷ [];
  tasks = task (0 ∷ []) 0 (stays 0) ∷ task (1 ∷ []) 0 (stays 1) ∷ [];
  prints = [];
  records = [];
  fault = None;
  failed = false;
  most = 4;
  limit = 3;
}

-- in the first superstep three tasks are spawned, and one stops
abbrev pub first : List Deed
first =
    deed (put 0 0 0 (pos 1) ∷ []) (pos 7 ∷ negsuc 7 ∷ []) 2 0
    ∷ deed (put 0 1 0 (pos 5) ∷ put 1 2 0 (negsuc 2) ∷ []) (pos 7 ∷ []) 1 1
    ∷ []

abbrev pub once : RunValue
once = record {
  step = 1;
  arrays = (codes "a", pos 6 ∷ pos 20 ∷ []) ∷ (codes "b", pos 7 ∷ []) ∷ [];
  tasks =
      task (0 ∷ []) 2 (stays 0) ∷ task (0 ∷ 0 ∷ []) 0 (from 0 0) ∷ task (0 ∷ 1 ∷ []) 0 (from 0 1) ∷ task (1 ∷ 0 ∷ []) 0 (from 1 0) ∷ [];
  prints = printed 0 (0 ∷ []) (pos 7) ∷ printed 0 (0 ∷ []) (negsuc 7) ∷ printed 0 (1 ∷ []) (pos 7) ∷ [];
  records = recorded 0 5 1 3 ∷ [];
  fault = None;
  failed = false;
  most = 4;
  limit = 3;
}

-- in the second superstep two stop
abbrev pub second : List Deed
second = idle 0 ∷ idle 1 ∷ deed [] (negsuc 7 ∷ []) 0 0 ∷ idle 1 ∷ []

abbrev pub twice : RunValue
twice = record {
  step = 2;
  arrays = (codes "a", pos 6 ∷ pos 20 ∷ []) ∷ (codes "b", pos 7 ∷ []) ∷ [];
  tasks = task (0 ∷ []) 2 (stays 0) ∷ task (0 ∷ 1 ∷ []) 0 (stays 2) ∷ [];
  prints =
      printed 0 (0 ∷ []) (pos 7) ∷ printed 0 (0 ∷ []) (negsuc 7) ∷ printed 0 (1 ∷ []) (pos 7) ∷ printed 1 (0 ∷ 1 ∷ []) (negsuc 7) ∷ [];
  records = recorded 0 5 1 3 ∷ recorded 1 4 2 0 ∷ [];
  fault = None;
  failed = false;
  most = 4;
  limit = 3;
}

-- at the limit, one task lives
abbrev pub limited : RunValue
limited = record twice {
  step = 3;
  tasks = task (0 ∷ []) 2 (stays 0) ∷ [];
  records = recorded 0 5 1 3 ∷ recorded 1 4 2 0 ∷ recorded 2 2 1 0 ∷ [];
}

-- or none does
abbrev pub done : RunValue
done = record limited { tasks = []; records = recorded 0 5 1 3 ∷ recorded 1 4 2 0 ∷ recorded 2 2 2 0 ∷ [] }

-- or a fault has ended it, of which nothing else is left
abbrev pub faulted : RunValue → ℕ → List ℕ → RunValue
faulted v code path = record v { tasks = []; fault = Some (code, path) }

-- a close of a run gives this status and this run, unless memory runs out
abbrev pub Gives : RunValue → List Deed → ℤ → RunValue → Type 0
Gives v deeds status next =
    (w : RunValue) (s : ℤ) → IsClosed v w deeds s → ((s ≡ status) × (w ≡ next)) ⊎ ((s ≡ pos 6) × (w ≡ v))

-- a close of a run is refused with this status, and nothing is changed
abbrev pub Refuses : RunValue → List Deed → ℤ → Type 0
Refuses v deeds status = (w : RunValue) (s : ℤ) → IsClosed v w deeds s → (s ≡ status) × (w ≡ v)

-- a call that opens is refused with this status
abbrev pub OpensNot : List ArrayGiven → ℕ → ℕ → ℤ → Type 0
OpensNot given starts most status = (after : Option State) (s : ℤ) → Opens None after given starts most 3 s → (s ≡ status) × (after ≡ None)

pub record OpeningIsWorkedOut : Type 0 where
  pub opens : (after : Option State) (s : ℤ) → Opens None after arrays 2 4 3 s
      → ((s ≡ pos 0) × MatchOption after ⊥ (λ x. x.run ≡ begun)) ⊎ ((s ≡ pos 6) × (after ≡ None))
  -- the slot is open, whatever else is wrong
  pub held : (x : State) (after : Option State) (s : ℤ) → Opens (Some x) after (array (codes "A") [] ∷ []) 5 4 3 s
      → (s ≡ pos 8) × (after ≡ Some x)
  -- too many start tasks, whatever the names; too many that may live
  pub starts : OpensNot (array (codes "A") [] ∷ []) 5 4 (pos 5)
  pub paths : OpensNot arrays 65536 65536 (pos 5)
  pub most : OpensNot arrays 2 2147483648 (pos 5)
  -- names that no array of a job may have: an upper-case letter, two words, none, a word of the language, 17 letters; whatever the cells
  pub upper : OpensNot (array (codes "A") [] ∷ []) 2 4 (pos 14)
  pub words : OpensNot (array (codes "a") [] ∷ array (codes "a b") [] ∷ []) 2 4 (pos 14)
  pub none : OpensNot (array [] [] ∷ []) 2 4 (pos 14)
  pub reserved : OpensNot (array (codes "end") [] ∷ []) 2 4 (pos 14)
  pub long : OpensNot (array (codes "abcdefghijklmnopq") [] ∷ []) 2 4 (pos 14)
  -- two arrays of one name, or an array of 2 ^ 32 cells
  pub same : OpensNot (array (codes "a") [] ∷ array (codes "b") [] ∷ array (codes "a") [] ∷ []) 2 4 (pos 4)
  pub large : (cells : List ℤ) → length cells ≡ 4294967296 → OpensNot (array (codes "a") [] ∷ array (codes "b") cells ∷ []) 2 4 (pos 4)

pub record ClosesAreWorkedOut : Type 0 where
  pub goes_on : Gives begun first (pos 0) once
  pub goes_on_again : Gives once second (pos 0) twice
  pub limit : Gives twice (idle 0 ∷ idle 1 ∷ []) (pos 3) limited
  pub ends : Gives twice (idle 1 ∷ idle 1 ∷ []) (pos 1) done
  -- faults: of its own, from 16 on; a put to no cell; too many tasks; a sum
  pub own : Gives twice (idle 0 ∷ idle 16 ∷ []) (pos 2) (faulted twice 16 (0 ∷ 1 ∷ []))
  pub next : Gives twice (idle 17 ∷ idle 16 ∷ []) (pos 2) (faulted twice 17 (0 ∷ []))
  pub last : Gives begun (idle 0 ∷ idle 255 ∷ []) (pos 2) (faulted begun 255 (1 ∷ []))
  pub own_first : Gives begun (deed (put 0 0 2 (pos 1) ∷ []) [] 0 16 ∷ idle 0 ∷ []) (pos 2) (faulted begun 16 (0 ∷ []))
  pub no_cell : Gives begun (deed (put 0 0 1 (pos 1) ∷ put 0 0 2 (pos 1) ∷ []) [] 9 0 ∷ idle 0 ∷ []) (pos 2) (faulted begun 3 (0 ∷ []))
  pub no_array : Gives begun (idle 0 ∷ deed (put 2 1 0 (pos 1) ∷ []) [] 0 1 ∷ []) (pos 2) (faulted begun 3 (1 ∷ []))
  pub many : Gives begun (deed [] [] 2 0 ∷ deed [] [] 1 0 ∷ []) (pos 2) (faulted begun 7 [])
  pub sum : Gives begun (idle 0 ∷ deed (put 0 1 0 (pos 9223372036854775798) ∷ []) [] 0 0 ∷ []) (pos 2) (faulted begun 8 (1 ∷ []))
  -- deeds that don't fit: too few, too many, an ending from 2 to 15
  pub few : Refuses twice (idle 0 ∷ []) (pos 11)
  pub more : Refuses twice (idle 0 ∷ idle 0 ∷ idle 0 ∷ []) (pos 11)
  pub two : Refuses twice (idle 0 ∷ idle 2 ∷ []) (pos 11)
  pub fifteen : Refuses twice (idle 15 ∷ idle 0 ∷ []) (pos 11)
  -- the run is over, whatever the deeds
  pub over : Refuses limited (idle 0 ∷ []) (pos 12)
  pub over_too : Refuses done (idle 2 ∷ []) (pos 12)
  pub after_fault : Refuses (faulted begun 7 []) [] (pos 12)

-- what a call tells of a run, or that there is nothing to tell
pub record ReadsAreWorkedOut (x : State) (is : x.run ≡ once) : Type 0 where
  pub look : (after : Option State) (before seen : Look) (s : ℤ) → Looks (Some x) after before seen s
      → (s ≡ pos 0) × (seen ≡ record { step = 1; status = pos 0; live = 4; arrays = 2; prints = 3; records = 1 }) × (after ≡ Some x)
  pub cells : (before cells : List ℤ) (s : ℤ) → ReadsCells (Some x) 0 before cells s → (s ≡ pos 0) × (cells ≡ pos 6 ∷ pos 20 ∷ [])
  pub no_array : (before cells : List ℤ) (s : ℤ) → ReadsCells (Some x) 2 before cells s → (s ≡ pos 9) × (cells ≡ before)
  pub path : (before path : List ℕ) (s : ℤ) → ReadsPath (Some x) 2 before path s → (s ≡ pos 0) × (path ≡ 0 ∷ 1 ∷ [])
  pub no_task : (before path : List ℕ) (s : ℤ) → ReadsPath (Some x) 4 before path s → (s ≡ pos 9) × (path ≡ before)
  pub stayed : (after : Option State) (before origin : Origin) (s : ℤ) → ReadsOrigin (Some x) after 0 before origin s
      → (s ≡ pos 0) × (origin ≡ stays 0) × (after ≡ Some x)
  pub spawned : (after : Option State) (before origin : Origin) (s : ℤ) → ReadsOrigin (Some x) after 3 before origin s
      → (s ≡ pos 0) × (origin ≡ from 1 0) × (after ≡ Some x)
  pub no_origin : (after : Option State) (before origin : Origin) (s : ℤ) → ReadsOrigin (Some x) after 4 before origin s
      → (s ≡ pos 9) × (origin ≡ before) × (after ≡ Some x)
  pub no_fault : (code : ℕ) (before path : List ℕ) (s : ℤ) → ReadsFault (Some x) code code before path s → (s ≡ pos 9) × (path ≡ before)
  pub print : (before seen : PrintReport) (path_before path : List ℕ) (s : ℤ) → ReadsPrint (Some x) 2 before seen path_before path s
      → (s ≡ pos 0) × (seen ≡ record { step = 0; value = pos 7 }) × (path ≡ 1 ∷ [])
  pub no_print : (before seen : PrintReport) (path_before path : List ℕ) (s : ℤ) → ReadsPrint (Some x) 3 before seen path_before path s
      → (s ≡ pos 9) × (seen ≡ before) × (path ≡ path_before)
  pub record_of : (after : Option State) (before seen : RecordReport) (s : ℤ) → ReadsRecord (Some x) after 0 before seen s
      → (s ≡ pos 0) × (seen ≡ record { phase = 0; parties = 5; left = 1; spawned = 3 }) × (after ≡ Some x)
  pub no_record : (after : Option State) (before seen : RecordReport) (s : ℤ) → ReadsRecord (Some x) after 1 before seen s
      → (s ≡ pos 9) × (seen ≡ before) × (after ≡ Some x)
  -- its report: the run isn't over, if memory doesn't run out
  pub report : (after : Option State) (out : List ℕ) (bytes : ℕ) (s : ℤ) → Reports (Some x) after out bytes s
      → ((s ≡ pos 6) ⊎ (s ≡ pos 13)) × (bytes ≡ 0) × (after ≡ Some x)
  pub freed : (after : Option State) (s : ℤ) → Frees (Some x) after s → (s ≡ pos 0) × (after ≡ None)

-- each call says that nothing is open
pub record NothingIsWorkedOut : Type 0 where
  pub close : (after : Option State) (s : ℤ) → Closes None after [] s → (s ≡ pos 7) × (after ≡ None)
  pub look : (after : Option State) (before seen : Look) (s : ℤ) → Looks None after before seen s → (s ≡ pos 7) × (seen ≡ before)
  pub cells : (before cells : List ℤ) (s : ℤ) → ReadsCells None 0 before cells s → (s ≡ pos 7) × (cells ≡ before)
  pub path : (before path : List ℕ) (s : ℤ) → ReadsPath None 0 before path s → (s ≡ pos 7) × (path ≡ before)
  pub origin : (after : Option State) (before seen : Origin) (s : ℤ) → ReadsOrigin None after 0 before seen s → (s ≡ pos 7) × (seen ≡ before)
  pub fault : (before code : ℕ) (path_before path : List ℕ) (s : ℤ) → ReadsFault None before code path_before path s
      → (s ≡ pos 7) × (code ≡ before) × (path ≡ path_before)
  pub print : (before seen : PrintReport) (path_before path : List ℕ) (s : ℤ) → ReadsPrint None 0 before seen path_before path s
      → (s ≡ pos 7) × (seen ≡ before) × (path ≡ path_before)
  pub record_of : (after : Option State) (before seen : RecordReport) (s : ℤ) → ReadsRecord None after 0 before seen s
      → (s ≡ pos 7) × (seen ≡ before)
  pub report : (after : Option State) (out : List ℕ) (bytes : ℕ) (s : ℤ) → Reports None after out bytes s → (s ≡ pos 7) × (bytes ≡ 0)
  pub freed : (after : Option State) (s : ℤ) → Frees None after s → (s ≡ pos 7) × (after ≡ None)

-- the text of a report with its prints, records and arrays, and how the run has ended
abbrev pub text : List ℕ
text =
    codes "print 0 0 7\n" ++ codes "print 0 0 -8\n" ++ codes "print 0 1 7\n" ++ codes "phase 0 parties 5 left 1 spawned 3\n"
    ++ codes "print 1 0.1 -8\n" ++ codes "phase 1 parties 4 left 2 spawned 0\n" ++ codes "phase 2 parties 2 left 1 spawned 0\n"
    ++ codes "array a 6 20\n" ++ codes "array b 7\n" ++ codes "limit 3\n"

pub record ReportIsWorkedOut (x : State) (is : x.run ≡ limited) : Type 0 where
  pub room : (after : Option State) (out : List ℕ) (bytes : ℕ) (s : ℤ) → Reports (Some x) after out bytes s → length out ≡ length text
      → ((s ≡ pos 6) × (bytes ≡ 0)) ⊎ ((s ≡ pos 0) × (bytes ≡ length text) × (out ≡ text))
  pub short : (after : Option State) (out : List ℕ) (bytes : ℕ) (s : ℤ) → Reports (Some x) after out bytes s → length out ≡ 0
      → ((s ≡ pos 6) × (bytes ≡ 0)) ⊎ ((s ≡ pos 10) × (bytes ≡ length text))

pub record CallsAreWorkedOut : Type 0 where
  pub opening : OpeningIsWorkedOut
  pub closes : ClosesAreWorkedOut
  pub reads : (x : State) (is : x.run ≡ once) → ReadsAreWorkedOut x is
  pub nothing : NothingIsWorkedOut
  pub reports : (x : State) (is : x.run ≡ limited) → ReportIsWorkedOut x is

-- What holds of rounds and of jobs (own).
use Rattle.std.specs.Prelude.{◌≡◌, ◌↔◌, if◌then◌else◌, slice_get, ℕ, ◌+◌, ◌≤◌, pos, true, false, IsTrue, is_some, List, [], ◌∷◌, ◌++◌, length, Some, None}
use Rattle.std.specs.List.{Contains}
use Rattle.superstep_memory.specs.declared.arrays.PutKind.TheVariants.{Set}
use Rattle.superstep_memory.specs.declared.arrays.Put.{Put}
use Rattle.superstep_memory.specs.Cells.{cell_at}
use Rattle.superstep_memory.specs.Paths.{path_lt, is_rising}
use Rattle.superstep_memory.specs.Laws.{has_put}
use Rattle.task_lang.specs.Meaning.{Task, Segment, segment_of}
use Rattle.task_code.specs.JobValue.{JobValue}
use Rattle.step_core.specs.Program.{Program, program_of}
use Rattle.step_core.specs.Superstep.{State, superstep, segments, live_paths}
use Rattle.programs.specs.Superstep.{record_of}
use Rattle.step_core.specs.JobMeaning.{so_far, report_of}
use Rattle.step_core.specs.Slots.{delivered, first_missing, missing_in}
use Rattle.step_core.specs.OrderValue.{OrderValue, IsOrder, ordered_task, DeliveryValue, IsDelivery, has_synced, spawned_paths}
use Rattle.superstep_memory.specs.PathOrder.{in_path_order}
use Rattle.step_core.specs.RoundValue.{RoundValue, IsRound, state_of, status_in, slots_in}
use Rattle.step_core.specs.Taking.{Takes, with_delivery}

-- a round with these deliveries more, one after another
abbrev pub after_all : RoundValue → List DeliveryValue → RoundValue
after_all r [] = r
after_all r (d ∷ ds) = after_all (with_delivery r d) ds

-- each of these deliveries is taken, one after another
abbrev pub TakesAll : RoundValue → List DeliveryValue → Type 0
TakesAll r [] = Unit {0}
TakesAll r (d ∷ ds) = Takes r d × IsDelivery d × TakesAll (with_delivery r d) ds

-- The meaning doesn't depend on the order in which deliveries come: two lists of deliveries that each make a round whole leave
-- the same state and the same segments, and these are all that closing it reads.
abbrev pub DeliveryOrderIsFree : Type 0
DeliveryOrderIsFree =
    (r : RoundValue) (ds es : List DeliveryValue) → IsRound r → status_in r ≡ None → TakesAll r ds → TakesAll r es
    → first_missing (slots_in (after_all r ds)) ≡ None → first_missing (slots_in (after_all r es)) ≡ None
    → (state_of (after_all r ds) ≡ state_of (after_all r es))
    × (delivered (slots_in (after_all r ds)) ≡ delivered (slots_in (after_all r es)))

abbrev pub IsBeginning : {A : Type 0} → List A → List A → Type 0
IsBeginning {A} xs ys = (more : List A) × (ys ≡ xs ++ more)

-- A longer limit only adds supersteps: the state that the shorter limit leaves is one that the longer one passes through, and what
-- was printed and recorded up to there is its beginning.
abbrev pub LongerLimitsOnlyAdd : Type 0
LongerLimitsOnlyAdd =
    (p : Program) (m n : ℕ) → m ≤ n
    → (so_far p n m ≡ so_far p m m)
    × IsBeginning (so_far p m m).prints (so_far p n n).prints
    × IsBeginning (so_far p m m).records (so_far p n n).records

-- Within as many supersteps as its limit says each job ends, and so has a report.
abbrev pub JobsEnd : Type 0
JobsEnd = (p : Program) (limit : ℕ) → IsTrue (is_some (report_of p limit))

-- Of the parties of a superstep that is recorded those live on that haven't left.
abbrev pub RecordsAgree : Type 0
RecordsAgree =
    (p : Program) (st : State) → (superstep p st).fault ≡ None
    → length (superstep p st).live + (record_of st.step (segments p st.arrays st.step st.live)).left
    ≡ (record_of st.step (segments p st.arrays st.step st.live)).parties

-- Live paths strictly rise, so that each live task has a path of its own.
abbrev pub LivePathsRise : Type 0
LivePathsRise = (p : Program) (limit n : ℕ) → is_rising (live_paths (so_far p limit n)) ≡ true

-- what this task does in this state
abbrev pub deed : Program → State → Task → Segment
deed p st t = segment_of p.plans t st.arrays st.step

-- no live task of a later path puts to this cell
abbrev pub NoneLater : Program → State → List ℕ → ℕ → ℕ → Type 0
NoneLater p st path array index =
    (u : Task) → Contains st.live u → path_lt path u.path ≡ true → has_put (deed p st u).puts array index ≡ false

-- A put of a later path that sets wins over every put of an earlier one: where a live task's segment sets a cell, with no later
-- put of its own to it, and no task of a later path puts there, the superstep leaves the value of that put in the cell.
abbrev pub LaterPathWins : Type 0
LaterPathWins =
    (p : Program) (limit n : ℕ) (t : Task) (front back : List Put) (q : Put)
    → q.kind ≡ Set
    → (superstep p (so_far p limit n)).fault ≡ None
    → Contains (so_far p limit n).live t
    → (deed p (so_far p limit n) t).puts ≡ front ++ q ∷ back
    → has_put back q.array q.index ≡ false
    → NoneLater p (so_far p limit n) t.path q.array q.index
    → cell_at (superstep p (so_far p limit n)).arrays q.array (pos q.index) ≡ Some q.value

-- A cell to which no live task's segment puts keeps its value.
abbrev pub OthersKeepTheirValues : Type 0
OthersKeepTheirValues =
    (p : Program) (st : State) (array index : ℕ)
    → ((u : Task) → Contains st.live u → has_put (deed p st u).puts array index ≡ false)
    → cell_at (superstep p st).arrays array (pos index) ≡ cell_at st.arrays array (pos index)

-- A job's meaning looks at its arrays, bodies and start lines alone, and not at its format.
abbrev pub FormatsMeanTheSame : Type 0
FormatsMeanTheSame =
    (j k : JobValue) (limit : ℕ) → j.arrays ≡ k.arrays → j.bodies ≡ k.bodies → j.starts ≡ k.starts
    → report_of (program_of j) limit ≡ report_of (program_of k) limit

-- Nothing is missing exactly where closing answers no missing path.
abbrev pub MissingTells : Type 0
MissingTells = (r : RoundValue) → (missing_in r.slots ≡ 0) ↔ (first_missing (slots_in r) ≡ None)

-- While a round's job runs, an order of the same job and step is one of its own: it has the task at its place, and the arrays.
abbrev pub OrdersAreOwn : Type 0
OrdersAreOwn =
    (r : RoundValue) (o : OrderValue) → IsRound r → status_in r ≡ None → IsOrder o → o.job ≡ r.job → o.step ≡ r.step
    → (slice_get (state_of r).live o.place ≡ Some (ordered_task o)) × (o.arrays ≡ r.arrays)

-- the path of a task, if it synced
abbrev pub synced_path : List ℕ × Segment → List (List ℕ)
synced_path s = if has_synced s.1 then s.0 ∷ [] else []

-- the paths of the tasks that synced and of those that were spawned
abbrev pub paths_on : List (List ℕ × Segment) → List (List ℕ)
paths_on [] = []
paths_on (s ∷ ss) = (synced_path s ++ spawned_paths s.1) ++ paths_on ss

-- The next live paths are those of the tasks that synced and of the spawned ones, in path order.
abbrev pub NextLiveSyncedOrSpawned : Type 0
NextLiveSyncedOrSpawned =
    (p : Program) (st : State) → (superstep p st).fault ≡ None
    → live_paths (superstep p st) ≡ in_path_order (λ (path : List ℕ). path) (paths_on (segments p st.arrays st.step st.live))

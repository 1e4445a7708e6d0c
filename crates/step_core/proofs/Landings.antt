-- What supersteps leave in the arrays, by what their tasks put.
use Rattle.std.proofs.Common.{◌≡◌, ℕ, zero, suc, ◌<◌, Bool, true, false, List, [], ◌∷◌, ◌++◌, map, length, Option, Some, None, refl, sym, ap, ◌∙◌, arith}
use Rattle.std.specs.Prelude.{pos, ◌&&◌, ◌||◌, slice_index_or}
use Rattle.std.specs.List.{Contains, list_all}
use Rattle.superstep_memory.specs.declared.arrays.PutKind.TheVariants.{Set}
use Rattle.superstep_memory.specs.declared.arrays.Put.{Put}
use Rattle.superstep_memory.specs.Cells.{cell_at}
use Rattle.superstep_memory.specs.Paths.{path_lt, is_rising}
use Rattle.superstep_memory.specs.Landing.{joined, landed, is_to, is_set, sets}
use Rattle.superstep_memory.specs.Logs.{paths}
use Rattle.superstep_memory.specs.Laws.{has_put, has_set}
use Rattle.superstep_memory.proofs.LandedLaws as landings
use Rattle.task_lang.specs.Meaning.{Task, Segment}
use Rattle.task_lang.specs.Laws.{is_to_cell}
use Rattle.task_lang.proofs.AllSegments.{puts-into-cells}
use Rattle.step_core.specs.Program.{Program}
use Rattle.step_core.specs.Superstep.{State, closed, segments, fault_in}
use Rattle.programs.specs.Superstep.{log_of}
use Rattle.step_core.specs.JobMeaning.{so_far}
use Rattle.step_core.specs.Laws.{deed, LaterPathWins, OthersKeepTheirValues}
use Rattle.step_core.proofs.Apart.{live-paths-rise}

abbrev Log : Type 0
Log = List ℕ × List Put

-- what the tasks of this state put, by path
abbrev logs_in : Program → State → List Task → List Log
logs_in p st ts = map log_of (segments p st.arrays st.step ts)

abbrev log_by : Program → State → Task → Log
log_by p st t = (t.path, (deed p st t).puts)

paths_in : (p : Program) (st : State) (ts : List Task) → paths (logs_in p st ts) ≡ map (λ (t : Task). t.path) ts
paths_in p st [] = refl
paths_in p st (t ∷ ts) = ap (λ (xs : List (List ℕ)). t.path ∷ xs) (paths_in p st ts)

-- the log of a live task is one of the logs
log_there : (p : Program) (st : State) (ts : List Task) (t : Task) (k : ℕ) → k < length ts → slice_index_or ts k t ≡ t
    → Contains (logs_in p st ts) (log_by p st t)
log_there p st [] t k lt at = absurd (omega arith)
log_there p st (u ∷ us) t zero lt at = (0, omega arith, ap (λ (x : Task). log_by p st x) at)
log_there p st (u ∷ us) t (suc k) lt at =
    let more = log_there p st us t k (omega arith) at in
    (suc more.0, omega (arith, more.1), more.2)

-- each log is that of a live task
record IsLogOf (p : Program) (st : State) (ts : List Task) (e : Log) : Type 0 where
  pub task : Task
  pub lives : Contains ts task
  pub log : log_by p st task ≡ e

log_from : (p : Program) (st : State) (ts : List Task) (e : Log) (k : ℕ) → k < length (logs_in p st ts)
    → slice_index_or (logs_in p st ts) k e ≡ e → IsLogOf p st ts e
log_from p st [] e k lt at = absurd (omega arith)
log_from p st (u ∷ us) e zero lt at = record { task = u; lives = (0, omega arith, refl); log = at }
log_from p st (u ∷ us) e (suc k) lt at =
    let more = log_from p st us e k (omega arith) at in
    record { task = more.task; lives = (suc more.lives.0, omega (arith, more.lives.1), more.lives.2); log = more.log }

-- a superstep without a fault lands what its tasks put
lands : (st : State) (ss : List (List ℕ × Segment)) (f : Option (ℕ × List ℕ)) → (closed st ss f).fault ≡ None
    → (closed st ss f).arrays ≡ landed (joined (map log_of ss)) st.arrays
lands st ss (Some f) h = cc
lands st ss None h = refl

left_side : (a b : Bool) → (a && b) ≡ true → a ≡ true
left_side true b h = refl
left_side false b h = cc

right_side : (a b : Bool) → (a && b) ≡ true → b ≡ true
right_side true b h = h
right_side false b h = cc

-- what holds of all holds of one among them
holds_within : (test : Put → Bool) (front back : List Put) (q : Put) → list_all test (front ++ q ∷ back) ≡ true → test q ≡ true
holds_within test [] back q h = left_side (test q) (list_all test back) h
holds_within test (x ∷ xs) back q h = holds_within test xs back q (right_side (test x) (list_all test (xs ++ q ∷ back)) h)

or_true : (a : Bool) → (a || true) ≡ true
or_true true = refl
or_true false = refl

is_itself : (q : Put) → is_to q.array q.index q ≡ true
is_itself q = grind arith

set_within : (front back : List Put) (q : Put) → q.kind ≡ Set → has_set (front ++ q ∷ back) q.array q.index ≡ true
set_within [] back q set = λ i. (is_itself q i && sets (set i)) || has_set back q.array q.index
set_within (x ∷ xs) back q set =
    ap (λ (b : Bool). (is_to q.array q.index x && is_set x) || b) (set_within xs back q set) ∙ or_true (is_to q.array q.index x && is_set x)

pub later-path-wins : LaterPathWins
later-path-wins p limit n t front back q set ok lives puts last later =
    ap (λ arrays. cell_at arrays q.array (pos q.index))
    (lands st (segments p st.arrays st.step st.live) (fault_in st.arrays (segments p st.arrays st.step st.live)) ok)
    ∙ landings.later-path-wins st.arrays (logs_in p st st.live) (log_by p st t) q.array q.index rising
    (log_there p st st.live t lives.0 lives.1 lives.2) put none
    ∙ ap (λ (ps : List Put). cell_at (landed ps st.arrays) q.array (pos q.index)) puts
    ∙ landings.last-set-wins st.arrays front back q (holds_within (is_to_cell st.arrays) front back q cells) set last
  where
    st : State
    st = so_far p limit n

    rising : is_rising (paths (logs_in p st st.live)) ≡ true
    rising = ap is_rising (paths_in p st st.live) ∙ live-paths-rise p limit n

    put : has_set (deed p st t).puts q.array q.index ≡ true
    put = ap (λ (ps : List Put). has_set ps q.array q.index) puts ∙ set_within front back q set

    cells : list_all (is_to_cell st.arrays) (front ++ q ∷ back) ≡ true
    cells = ap (λ (ps : List Put). list_all (is_to_cell st.arrays) ps) (sym puts) ∙ puts-into-cells p.plans t st.arrays st.step

    none : (e : Log) → Contains (logs_in p st st.live) e → path_lt t.path e.0 ≡ true → has_put e.1 q.array q.index ≡ false
    none e c lt =
        let by = log_from p st st.live e c.0 c.1 c.2 in
        ap (λ (f : Log). has_put f.1 q.array q.index) (sym by.log)
        ∙ later by.task by.lives (ap (λ (f : Log). path_lt t.path f.0) by.log ∙ lt)

-- ---- cells without a put

none_or : (b c d : Bool) → (b || c) ≡ false → (c ≡ false → d ≡ false) → (b || d) ≡ false
none_or true c d h more = cc
none_or false c d h more = more h

none_both : (xs ys : List Put) (a i : ℕ) → has_put xs a i ≡ false → has_put ys a i ≡ false → has_put (xs ++ ys) a i ≡ false
none_both [] ys a i h k = k
none_both (x ∷ xs) ys a i h k = none_or (is_to a i x) (has_put xs a i) (has_put (xs ++ ys) a i) h (λ m. none_both xs ys a i m k)

none_joined : (p : Program) (st : State) (ts : List Task) (a i : ℕ) → ((u : Task) → Contains ts u → has_put (deed p st u).puts a i ≡ false)
    → has_put (joined (logs_in p st ts)) a i ≡ false
none_joined p st [] a i h = refl
none_joined p st (t ∷ ts) a i h =
    none_both (deed p st t).puts (joined (logs_in p st ts)) a i (h t (0, omega arith, refl))
    (none_joined p st ts a i (λ u c. h u (suc c.0, omega (arith, c.1), c.2)))

pub others-keep-their-values : OthersKeepTheirValues
others-keep-their-values p st a i h = by (fault_in st.arrays (segments p st.arrays st.step st.live))
  where
    by : (f : Option (ℕ × List ℕ))
        → cell_at (closed st (segments p st.arrays st.step st.live) f).arrays a (pos i) ≡ cell_at st.arrays a (pos i)
    by (Some f) = refl
    by None =
        landings.others-keep-their-values st.arrays (joined (map log_of (segments p st.arrays st.step st.live))) a i
        (none_joined p st st.live a i h)

-- What tasks left in a run, superstep by superstep, and what a run leaves that has this history (own).
use Rattle.std.specs.Prelude.{◌≡◌, ◌<◌, ◌≤◌, ◌⊎◌, ◌==◌, ◌&&◌, ℕ, ℤ, Bool, if◌then◌else◌, List, [], ◌∷◌, ◌++◌, map, length, get_or, None, Some}
use Rattle.std.specs.Str.{bytes_eq}
use Rattle.phase_records.specs.ReportValue.{ReportValue}
use Rattle.phase_records.specs.Status.{Status, Ended, Fault, Limit}
use Rattle.programs.specs.Meaning.{Faulted, Segment, Frame, Says, IsFormed}
use Rattle.programs.specs.Superstep.{State, first_fault}
use Rattle.programs.specs.Supersteps.{so_far, status, report_of}

-- a task as a superstep began, and what its segment left
pub record Entry (T : Type 0) : Type 0 where
  pub task : T
  pub left : Segment T

module _ {T : Type 0} where
  -- if nothing is known: a fault of a number that no fault has
  abbrev pub nothing_known : Segment T
  nothing_known = record { puts = []; prints = []; spawns = []; after = Faulted 256 }

  -- this entry is of this task
  abbrev pub is_of : Frame T → T → Entry T → Bool
  is_of f t e = bytes_eq (f.path t) (f.path e.task) && (f.begun t == f.begun e.task)

  -- what these entries say that this task's segment left
  abbrev pub left_of : Frame T → List (Entry T) → T → Segment T
  left_of f [] t = nothing_known
  left_of f (e ∷ es) t = if is_of f t e then e.left else left_of f es t

  -- what tasks mean by the entries of one superstep
  abbrev pub says_in : Frame T → ℕ → List (Entry T) → Says T
  says_in f most es = record { path = f.path; begun = f.begun; most = most; segment = λ t arrays step. left_of f es t }

  -- what tasks mean by a history: in each superstep what its entries say
  abbrev pub says_by : Frame T → ℕ → List (List (Entry T)) → Says T
  says_by f most history =
      record { path = f.path; begun = f.begun; most = most; segment = λ t arrays step. left_of f (get_or history step []) t }

  -- what tasks mean that leave this
  abbrev pub says_of : Frame T → ℕ → (T → List (List ℕ × List ℤ) → ℕ → Segment T) → Says T
  says_of f most does = record { path = f.path; begun = f.begun; most = most; segment = does }

  -- each entry is one that is allowed, and is well formed
  abbrev pub AllAllowed : Frame T → (T → List (List ℕ × List ℤ) → ℕ → Segment T → Type 0) → List (List ℕ × List ℤ) → ℕ → List (Entry T)
      → Type 0
  AllAllowed f may arrays step [] = Unit {0}
  AllAllowed f may arrays step (e ∷ es) = may e.task arrays step e.left × IsFormed f e.task e.left × AllAllowed f may arrays step es

  -- the segments with the paths of their tasks
  abbrev pub segments_in : Frame T → List (Entry T) → List (List ℕ × Segment T)
  segments_in f es = map (λ e. (f.path e.task, e.left)) es

  -- the entries are of these tasks, in order: of all, unless one of them faulted, and then of the first ones
  pub record AreOf (f : Frame T) (tasks : List T) (es : List (Entry T)) : Type 0 where
    pub back : List T
    pub cut : tasks ≡ map (λ e. e.task) es ++ back
    pub whole : first_fault (segments_in f es) ≡ None → back ≡ []

  -- the entries are of the live tasks of this state, and allowed
  pub record IsEntered (f : Frame T) (may : T → List (List ℕ × List ℤ) → ℕ → Segment T → Type 0) (st : State T)
      (es : List (Entry T)) : Type 0 where
    pub tasks : AreOf f st.live es
    pub allowed : AllAllowed f may st.arrays st.step es

  -- the tasks that a run leaves which ended so: those that still live, none after a fault
  abbrev pub living_after : Status → List T → List T
  living_after (Fault code step path) live = []
  living_after (Ended steps) live = live
  living_after (Limit steps) live = live

-- the setup of a run: where its tasks are, what each may leave, how many may live at once, the arrays and tasks that it begins
-- with, and how many supersteps it may take
pub record Setup (T : Type 0) : Type 1 where
  pub frame : Frame T
  pub may : T → List (List ℕ × List ℤ) → ℕ → Segment T → Type 0
  pub most : ℕ
  pub arrays : List (List ℕ × List ℤ)
  pub tasks : List T
  pub limit : ℕ

module _ {T : Type 0} where
  -- the state of a run after this many supersteps of its history
  abbrev pub state_after : Setup T → List (List (Entry T)) → ℕ → State T
  state_after setup history n = so_far (says_by setup.frame setup.most history) setup.arrays setup.tasks setup.limit n

  -- This report is what one thread leaves, superstep by superstep, if each task's segment leaves what the history says. Each is
  -- allowed to leave that, and the history is that of the whole run. These tasks live at its end.
  pub record HasRun (setup : Setup T) (outcome : ReportValue) (living : List T) : Type 0 where
    pub history : List (List (Entry T))
    pub entered : (n : ℕ) → n < length history → IsEntered setup.frame setup.may (state_after setup history n) (get_or history n [])
    pub ended : status setup.limit (state_after setup history (length history)) ≡ Some outcome.status
    pub report : report_of (says_by setup.frame setup.most history) setup.arrays setup.tasks setup.limit ≡ Some outcome
    pub at_end : living_after outcome.status (state_after setup history (length history)).live ≡ living

  -- who looks on saw this state as this says
  abbrev pub OfState : (ℕ → List (List ℕ × List ℤ) → ℕ → Type 0) → State T → Type 0
  OfState seen st = seen st.step st.arrays (length st.live)

  -- The watcher let each superstep of a run begin. The run was taken to this limit, or the watcher stopped it before.
  -- Then it is the run to that earlier limit.
  pub record HasRunTo (stops goes : ℕ → List (List ℕ × List ℤ) → ℕ → Type 0) (setup : Setup T) (outcome : ReportValue)
      (living : List T) : Type 0 where
    pub taken : ℕ
    pub within : taken ≤ setup.limit
    pub run : HasRun (record setup { limit = taken }) outcome living
    pub went : (n : ℕ) → n < length run.history → OfState goes (state_after (record setup { limit = taken }) run.history n)
    pub stopped : (taken ≡ setup.limit) ⊎ stops taken outcome.arrays (length living)

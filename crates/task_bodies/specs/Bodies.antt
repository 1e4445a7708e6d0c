-- Tasks that run a body: what each keeps, where it is, and how what a body leaves becomes what a task leaves (own).
use Rattle.std.specs.Prelude.{◌≡◌, ℕ, zero, suc, ◌+◌, ℤ, Bool, not, ◌||◌, nat_le, nat_lt, if◌then◌else◌, List, [], ◌∷◌, ◌++◌, length, Option, Some, None}
use Rattle.std.specs.List.{list_all}
use Rattle.superstep_memory.specs.declared.arrays.Put.{Put}
use Rattle.superstep_memory.specs.Cells.{is_cell}
use Rattle.programs.specs.Meaning.{After, Synced, Stopped, Faulted, Segment, Frame}
use Rattle.programs.specs.History.{Setup}
use Rattle.task_bodies.specs.declared.body.Ending.{Ending}
use Rattle.task_bodies.specs.declared.body.Ending.TheVariants as ending

-- this many start tasks are too many: more than may live, or than a path's first number counts
abbrev pub are_too_many : ℕ → ℕ → Bool
are_too_many most count = nat_lt 65535 count || nat_lt most count

-- what a body has written
pub record OutValue (K : Type 0) : Type 0 where
  pub puts : List Put
  pub prints : List ℤ
  pub spawns : List K

-- what a body left: what its task keeps, what it wrote, and how it ended
pub record Left (K : Type 0) : Type 0 where
  pub kept : K
  pub puts : List Put
  pub prints : List ℤ
  pub spawns : List K
  pub ending : Ending

-- a task: its path, how many it has spawned, and what it keeps
pub record MemberValue (K : Type 0) : Type 0 where
  pub path : List ℕ
  pub begun : ℕ
  pub kept : K

-- the cells of an array, none if there is no such array
abbrev pub cells_in : Option (List ℕ × List ℤ) → List ℤ
cells_in None = []
cells_in (Some a) = a.1

abbrev pub when : Bool → ℕ → Option ℕ → Option ℕ
when b code other = if b then Some code else other

-- why this many tasks may not be spawned: they would be too deep (5), or are too many in all (6)
abbrev pub refused_spawns : List ℕ → ℕ → ℕ → Option ℕ
refused_spawns path begun zero = None
refused_spawns path begun (suc n) = when (nat_le 8 (length path)) 5 (when (nat_lt 65535 (begun + suc n)) 6 None)

-- why what a body wrote is a fault: a put to no cell (3) comes first
abbrev pub refused : List (List ℕ × List ℤ) → List ℕ → ℕ → List Put → ℕ → Option ℕ
refused arrays path begun puts count = when (not (list_all (is_cell arrays) puts)) 3 (refused_spawns path begun count)

module _ {K : Type 0} where
  abbrev pub nothing : OutValue K
  nothing = record { puts = []; prints = []; spawns = [] }

  abbrev pub left_so : Ending → K → OutValue K → Left K
  left_so e k o = record { kept = k; puts = o.puts; prints = o.prints; spawns = o.spawns; ending = e }

  abbrev pub path_of : MemberValue K → List ℕ
  path_of t = t.path

  abbrev pub member_frame : Frame (MemberValue K)
  member_frame = record { path = λ t. t.path; begun = λ t. t.begun }

  -- tasks that keep this, numbered from here on
  abbrev pub numbered : List ℕ → ℕ → List K → List (MemberValue K)
  numbered path n [] = []
  numbered path n (k ∷ ks) = record { path = path ++ n ∷ []; begun = 0; kept = k } ∷ numbered path (suc n) ks

  abbrev pub faulted : ℕ → Segment (MemberValue K)
  faulted code = record { puts = []; prints = []; spawns = []; after = Faulted code }

  -- the task as it goes on
  abbrev pub went : MemberValue K → ℕ → K → MemberValue K
  went t count k = record { path = t.path; begun = t.begun + count; kept = k }

  abbrev pub limited : MemberValue K → Left K → After (MemberValue K) → Option ℕ → Segment (MemberValue K)
  limited t o after (Some code) = faulted code
  limited t o after None = record { puts = o.puts; prints = o.prints; spawns = numbered t.path t.begun o.spawns; after = after }

  abbrev pub framed_by : List (List ℕ × List ℤ) → MemberValue K → Left K → Ending → Segment (MemberValue K)
  framed_by arrays t o (ending.Fails code) = faulted code
  framed_by arrays t o ending.Stops = limited t o Stopped (refused arrays t.path t.begun o.puts (length o.spawns))
  framed_by arrays t o ending.Syncs =
      limited t o (Synced (went t (length o.spawns) o.kept)) (refused arrays t.path t.begun o.puts (length o.spawns))

  -- what a task leaves whose body left this
  abbrev pub framed : List (List ℕ × List ℤ) → MemberValue K → Left K → Segment (MemberValue K)
  framed arrays t o = framed_by arrays t o o.ending

  -- what a task may leave whose body may leave this
  pub record BodyMay (may : List ℕ → List (List ℕ × List ℤ) → ℕ → K → Left K → Type 0) (t : MemberValue K) (arrays : List (List ℕ × List ℤ))
      (step : ℕ) (g : Segment (MemberValue K)) : Type 0 where
    pub left : Left K
    pub allowed : may t.path arrays step t.kept left
    pub is : g ≡ framed arrays t left

  -- the setup of a run of members whose body may leave this
  abbrev pub member_setup : (List ℕ → List (List ℕ × List ℤ) → ℕ → K → Left K → Type 0) → ℕ → List (List ℕ × List ℤ) → List (MemberValue K)
      → ℕ → Setup (MemberValue K)
  member_setup may most arrays tasks limit =
      record { frame = member_frame; may = BodyMay may; most = most; arrays = arrays; tasks = tasks; limit = limit }

  -- what a task leaves whose body does this
  abbrev pub body_does : (List ℕ → List (List ℕ × List ℤ) → ℕ → K → Left K) → MemberValue K → List (List ℕ × List ℤ) → ℕ
      → Segment (MemberValue K)
  body_does does t arrays step = framed arrays t (does t.path arrays step t.kept)

-- What live tasks did in their places (own).
use Rattle.std.specs.Prelude.{◌≡◌, ℕ, ◌+◌, ◌-◌, nat_lt, if◌then◌else◌, ℤ, Bool, true, false, List, [], ◌∷◌, ◌++◌, map, length, Option, Some, None}
use Rattle.superstep_memory.specs.declared.arrays.Put.{Put}
use Rattle.superstep_memory.specs.Landing.{joined}
use Rattle.phase_records.specs.PrintValue.{PrintValue}
use Rattle.phase_records.specs.declared.record.PhaseRecord.{PhaseRecord}
use Rattle.programs.specs.Meaning.{After, Synced, Stopped, Segment}
use Rattle.programs.specs.Reads.{Reads}
use Rattle.programs.specs.DeedValue.{DeedValue}
use Rattle.programs.specs.Superstep.{first_fault, log_of, print_of, prints_of}

module _ {S T : Type 0} where
  -- how the segment of this task ended, as the task is now
  abbrev pub end_of : Reads S T → Bool → S → After T
  end_of ps true u = Synced (ps.meant u)
  end_of ps false u = Stopped

  -- this deed, and this task as it goes on, are what the segment says
  abbrev pub IsDeed : Reads S T → S → DeedValue S → Segment T → Type 0
  IsDeed ps u d g = (map ps.meant d.spawns ≡ g.spawns) × (g.after ≡ end_of ps d.synced u) × (d.puts ≡ length g.puts)

-- a fault of the task at this path
abbrev pub at_path : List ℕ → ℕ → ℕ × List ℕ
at_path path code = (code, path)

module _ {S T : Type 0} where
  -- nobody faulted: the puts, prints and the deed follow the others'; or the fault is reported
  abbrev pub ReportedOne : Reads S T → Segment T → ℕ → Option (ℕ × List ℕ) → S → S → List Put → List Put → List (DeedValue S)
      → List (DeedValue S) → List PrintValue → List PrintValue → Type 0
  ReportedOne ps g step (Some f) t u puts qs ds es before after =
      (after ≡ before) × (first_fault ((ps.path t, g) ∷ []) ≡ Some f)
  ReportedOne ps g step None t u puts qs ds es before after =
      (qs ≡ puts ++ g.puts) × (after ≡ before ++ map (print_of step (ps.path t)) g.prints) × (ps.path u ≡ ps.path t)
      × ((d : DeedValue S) × (es ≡ ds ++ d ∷ []) × IsDeed ps u d g)

  -- these deeds, and these tasks as they go on, are what the segments say, one by one
  abbrev pub AllDone : Reads S T → List S → List (DeedValue S) → List (List ℕ × Segment T) → Type 0
  AllDone ps [] [] [] = Unit {0}
  AllDone ps (u ∷ us) (d ∷ ds) (s ∷ ss) = (ps.path u ≡ s.0) × IsDeed ps u d s.1 × AllDone ps us ds ss
  AllDone ps us ds ss = ⊥

  -- what these tasks do, each segment with the path of its task
  abbrev pub deeds_of : Reads S T → List (List ℕ × List ℤ) → ℕ → List S → List (List ℕ × Segment T)
  deeds_of p arrays step [] = []
  deeds_of p arrays step (t ∷ ts) = (p.path t, p.says.segment (p.meant t) arrays step) ∷ deeds_of p arrays step ts

  -- the first tasks are done, and the others are as they were
  pub record IsUnderWay (p : Reads S T) (arrays : List (List ℕ × List ℤ)) (step : ℕ) (olds : List S) (place : ℕ) (puts : List Put)
      (tasks : List S) (ds : List (DeedValue S)) (before after : List PrintValue) : Type 0 where
    pub us : List S
    pub rest : List S
    pub front : List (List ℕ × Segment T)
    pub cut : tasks ≡ us ++ rest
    pub count : length us ≡ place
    pub all : deeds_of p arrays step olds ≡ front ++ deeds_of p arrays step rest
    pub log : puts ≡ joined (map log_of front)
    pub shown : after ≡ before ++ prints_of step front
    pub done : AllDone p us ds front

  -- the tasks below this place are done; or the first fault of all is reported, and what was printed before stays
  abbrev pub HasCome : Reads S T → List (List ℕ × List ℤ) → ℕ → List S → Option (ℕ × List ℕ) → ℕ → List Put → List S → List (DeedValue S)
      → List PrintValue → List PrintValue → Type 0
  HasCome p arrays step olds (Some f) place puts us ds before after =
      (first_fault (deeds_of p arrays step olds) ≡ Some f) × ((more : List PrintValue) × (after ≡ before ++ more))
  HasCome p arrays step olds None place puts us ds before after = IsUnderWay p arrays step olds place puts us ds before after

  -- of whichever tasks those below one place were done, of these those below the other are, or the first fault is reported
  abbrev pub IsFurther : Reads S T → List (List ℕ × List ℤ) → ℕ → Option (ℕ × List ℕ) → ℕ → ℕ → List Put → List Put → List S → List S
      → List (DeedValue S) → List (DeedValue S) → List PrintValue → List PrintValue → Type 0
  IsFurther p arrays step fault place end puts qs ts us ds es shown after =
      (olds : List S) (before : List PrintValue) → IsUnderWay p arrays step olds place puts ts ds before shown
      → HasCome p arrays step olds fault end qs us es before after

  -- nobody faulted: the log, the prints, the deeds and the tasks are what the segments say
  pub record IsAllDone (ps : Reads S T) (ss : List (List ℕ × Segment T)) (step : ℕ) (puts : List Put) (us : List S)
      (ds : List (DeedValue S)) (before after : List PrintValue) : Type 0 where
    pub log : puts ≡ joined (map log_of ss)
    pub shown : after ≡ before ++ prints_of step ss
    pub done : AllDone ps us ds ss

  -- all that the tasks did, or the first fault, by path; what was printed before stays
  abbrev pub Reported : Reads S T → List (List ℕ × Segment T) → ℕ → Option (ℕ × List ℕ) → List Put → List S → List (DeedValue S)
      → List PrintValue → List PrintValue → Type 0
  Reported ps ss step (Some f) puts us ds before after = (first_fault ss ≡ Some f) × ((more : List PrintValue) × (after ≡ before ++ more))
  Reported ps ss step None puts us ds before after = IsAllDone ps ss step puts us ds before after

abbrev pub overflow_at : List ℕ → ℕ × List ℕ
overflow_at path = (8, path)

module _ {S : Type 0} where
  -- the path of the task whose put is at this place of the log
  abbrev pub maker : (S → List ℕ) → List S → List (DeedValue S) → ℕ → Option (List ℕ)
  maker q ts [] place = None
  maker q [] (d ∷ ds) place = None
  maker q (t ∷ ts) (d ∷ ds) place = if nat_lt place d.puts then Some (q t) else maker q ts ds (place - d.puts)

  abbrev pub kept : Bool → S → List S
  kept true t = t ∷ []
  kept false t = []

  -- the tasks that go on, and those that they spawned
  abbrev pub living_with : List S → List (DeedValue S) → List S
  living_with ts [] = []
  living_with [] (d ∷ ds) = []
  living_with (t ∷ ts) (d ∷ ds) = (kept d.synced t ++ d.spawns) ++ living_with ts ds

abbrev pub one_left : Bool → ℕ
one_left true = 0
one_left false = 1

module _ {S : Type 0} where
  -- how many stopped
  abbrev pub left_in : List (DeedValue S) → ℕ
  left_in [] = 0
  left_in (d ∷ ds) = one_left d.synced + left_in ds

  -- how many were spawned
  abbrev pub spawned_in : List (DeedValue S) → ℕ
  spawned_in [] = 0
  spawned_in (d ∷ ds) = length d.spawns + spawned_in ds

  -- how many puts they made
  abbrev pub made_in : List (DeedValue S) → ℕ
  made_in [] = 0
  made_in (d ∷ ds) = d.puts + made_in ds

  -- the record of a superstep in which tasks did this
  abbrev pub record_in : ℕ → List (DeedValue S) → PhaseRecord
  record_in step ds = record { phase = step; parties = length ds + spawned_in ds; left = left_in ds; spawned = spawned_in ds }

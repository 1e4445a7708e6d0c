-- How stretches are handed out and taken back, and how a superstep is closed (own).
use Rattle.std.specs.Prelude.{◌≡◌, ◌≤◌, ◌+◌, if◌then◌else◌, ℕ, ℤ, Bool, true, false, List, [], ◌∷◌, ◌++◌, length, map, Option, Some, None, slice_get}
use Rattle.atomic_table.specs.Seated.{TableId}
use Rattle.superstep_memory.specs.PathOrder.{in_path_order}
use Rattle.phase_records.specs.ReportValue.{ReportValue}
use Rattle.phase_records.specs.Status.{Status, Ended, Fault, Limit}
use Rattle.programs.specs.InPlace.{left_in, spawned_in}
use Rattle.programs.specs.Superstep.{ended_by}
use Rattle.program_stretches.specs.Reached.{HasRunOn}
use Rattle.program_stretches.specs.LinesValue.{LinesValue}
use Rattle.program_stretches.specs.declared.fault.AcceptStretchFault.{AcceptStretchFault}
use Rattle.program_stretches.specs.declared.fault.AcceptStretchFault.TheVariants as unwanted
use Rattle.program_stretches.specs.declared.fault.CloseStretchesFault.{CloseStretchesFault}
use Rattle.program_stretches.specs.declared.fault.CloseStretchesFault.TheVariants as unclosed
use Rattle.program_stretches.specs.declared.fault.Outcome.{Outcome}
use Rattle.program_stretches.specs.declared.fault.Outcome.TheVariants.{Landed}
use Rattle.program_stretches.specs.PartValue.{PartValue}
use Rattle.program_stretches.specs.Parts.{Reading, AreFresh, EachDid, covers, of_slot, tasks_in, living_in, renewed}
use Rattle.program_stretches.specs.SuperstepStart.{SuperstepStartValue, live_of, setup_of, states_by, AllOpen}
use Rattle.program_stretches.specs.Did.{IsStep, IsStepTo}
use Rattle.program_stretches.specs.StretchesValue.{StretchesValue, StretchValue, is_at_limit, state_with, with_slot, IsAfter, IsRunSoFar}

-- whether there is such a stretch and it isn't out
abbrev pub is_there : {S : Type 0} → Option (Option (PartValue S)) → Bool
is_there None = false
is_there (Some None) = false
is_there (Some (Some part)) = true

module _ {Q S : Type 0} where
  -- a run of this program, with these arrays and these tasks, before its first superstep; no stretch is out or has run
  pub record IsBegun (name : TableId) (program : Q) (arrays : List (List ℕ × List ℤ)) (tasks : List S) (most limit : ℕ)
      (v : StretchesValue Q S) : Type 0 where
    pub start : SuperstepStartValue Q S
    pub log : v.log ≡ start ∷ []
    pub named : v.name ≡ name
    pub of_program : start.program ≡ program
    pub of_most : start.most ≡ most
    pub of_limit : start.limit ≡ limit
    pub of_arrays : start.arrays ≡ arrays
    pub of_tasks : live_of start ≡ tasks
    pub at_most : v.most ≡ most
    pub to_limit : v.limit ≡ limit
    pub with_arrays : v.arrays ≡ arrays
    pub at_start : v.step ≡ 0
    pub calm : v.fault ≡ None
    pub ready : AreFresh 0 v.parts
    pub whole : tasks_in v.parts ≡ tasks
    pub counted : v.count ≡ length (tasks_in v.parts)
    pub nothing_given : v.given ≡ 0

  -- the stretch of this number, which wasn't out and hasn't run, is handed out for this superstep
  pub record IsTaken (old new : StretchesValue Q S) (k : ℕ) (s : StretchValue Q S) : Type 0 where
    pub number : s.number ≡ k
    pub there : slice_get old.parts k ≡ Some (Some s.part)
    pub ready : s.part.done ≡ false
    pub left : new ≡ with_slot old k None
    pub log : s.log ≡ old.log
    pub named : s.name ≡ old.name
    pub step : s.step ≡ old.step

  -- why a stretch isn't taken back: the first of these reasons that applies
  abbrev pub Refuses : AcceptStretchFault → StretchesValue Q S → StretchValue Q S → Type 0
  Refuses unwanted.WrongStep v s = s.step ≡ v.step → ⊥
  Refuses unwanted.Unfinished v s = (s.step ≡ v.step) × (s.part.done ≡ false)
  Refuses unwanted.Stranger v s = (s.step ≡ v.step) × (s.part.done ≡ true) × (slice_get v.parts s.number ≡ None)
  Refuses unwanted.Double v s = (s.step ≡ v.step) × (s.part.done ≡ true) × (is_there (slice_get v.parts s.number) ≡ true)

  -- when a stretch is taken back
  pub record Accepts (v : StretchesValue Q S) (s : StretchValue Q S) : Type 0 where
    pub step : s.step ≡ v.step
    pub done : s.part.done ≡ true
    pub taken : slice_get v.parts s.number ≡ Some None

  -- both are states of the same run
  pub record IsSameRun (old new : StretchesValue Q S) : Type 0 where
    pub named : new.name ≡ old.name
    pub program : new.program ≡ old.program
    pub most : new.most ≡ old.most
    pub limit : new.limit ≡ old.limit

  -- why a superstep isn't closed, and what that changes
  abbrev pub NotClosed : CloseStretchesFault → StretchesValue Q S → StretchesValue Q S → Type 0
  NotClosed unclosed.Missing old new = (covers true old.count 0 old.parts ≡ false) × (new ≡ old)
  NotClosed (unclosed.Memory e) old new = (covers true old.count 0 old.parts ≡ true) × (new.parts ≡ [])

  -- what a run leaves that has ended so: its tasks only if they still live
  pub record IsLeftAs (v : StretchesValue Q S) (s : Status) (name : TableId) (log : List (SuperstepStartValue Q S)) (given : ℕ)
      (outcome : ReportValue) (living : List S) : Type 0 where
    pub named : name ≡ v.name
    pub logged : log ≡ v.log
    pub gave : given ≡ v.given
    pub report : outcome ≡ record { prints = v.prints; records = v.records; arrays = v.arrays; status = s }
    pub tasks : living ≡ (if is_at_limit s then tasks_in v.parts else [])

  -- the next superstep, with these stretches
  abbrev pub start_with : StretchesValue Q S → List (Option (PartValue S)) → SuperstepStartValue Q S
  start_with v parts = record { program = v.program; most = v.most; limit = v.limit; arrays = v.arrays; parts = parts }

  -- the run after the next superstep was opened with these stretches
  abbrev pub opened_with : StretchesValue Q S → List (Option (PartValue S)) → StretchesValue Q S
  opened_with v parts = record v { log = start_with v parts ∷ v.log; parts = parts }

  -- How closing a superstep changes the log: it gets the start of the next one, if the run wasn't ended by a fault.
  abbrev pub Logs : Outcome → StretchesValue Q S → StretchesValue Q S → Type 0
  Logs Landed old new = (length old.log ≡ new.step) × (new.log ≡ start_with new new.parts ∷ old.log)
  Logs o old new = new.log ≡ old.log

-- no task of a stretch that isn't out has stopped or spawned another
abbrev pub AllStay : {S : Type 0} → List (Option (PartValue S)) → Type 0
AllStay [] = Unit {0}
AllStay (s ∷ ss) = (left_in (of_slot (λ part. part.deeds) s) ≡ 0) × (spawned_in (of_slot (λ part. part.deeds) s) ≡ 0) × AllStay ss

module _ {Q S : Type 0} where
  -- The stretches after the superstep of this number, in which the stretches `ran` have run without a fault: all live tasks are in
  -- them, in path order, and none has run. If all tasks stay, each stretch has the same tasks as before. After a fault there are no
  -- stretches.
  abbrev pub IsReopened : (S → List ℕ) → Outcome → ℕ → List (Option (PartValue S)) → StretchesValue Q S → Type 0
  IsReopened path Landed step ran v =
      AreFresh 0 v.parts × (v.count ≡ length (tasks_in v.parts)) × (AllStay ran → v.parts ≡ map renewed ran) × (v.step ≡ step + 1)
      × EachDid ran
      × (tasks_in v.parts ≡ in_path_order path (living_in ran))
  IsReopened path o step ran v = v.parts ≡ []

-- so many supersteps, if no fault ended it
abbrev pub CountsAs : Status → ℕ → Type 0
CountsAs (Fault code step path) n = Unit {0}
CountsAs (Ended steps) n = n ≡ steps
CountsAs (Limit steps) n = n ≡ steps

module _ {Q S T : Type 0} where
  -- this fault ends the run in this superstep
  pub record EndsBy (m : Q → Reading S T) (v : StretchesValue Q S) (f : ℕ × List ℕ) : Type 0 where
    pub live : List T
    pub begun : IsAfter m v live
    pub count : length v.log ≡ v.step + 1
    pub step : IsStep (m v.program).frame (m v.program).may v.most (state_with v live) (ended_by (state_with v live) f)

  -- what a superstep with this outcome leaves
  abbrev pub EndsAs : (Q → Reading S T) → Outcome → StretchesValue Q S → List T → Type 0
  EndsAs m Landed v live = (v.fault ≡ None) × AreFresh 0 v.parts × (live ≡ map (m v.program).meant (tasks_in v.parts))
  EndsAs m o v live = (f : ℕ × List ℕ) × (v.fault ≡ Some f)

  -- The tasks that lived when the superstep was opened have taken one step, and it ended with this outcome.
  pub record IsClosed (m : Q → Reading S T) (old new : StretchesValue Q S) (outcome : Outcome) : Type 0 where
    pub start : SuperstepStartValue Q S
    pub older : List (SuperstepStartValue Q S)
    pub log : old.log ≡ start ∷ older
    pub live : List T
    pub step : IsStepTo (m old.program).frame (m old.program).may old.most (state_with old (map (m old.program).meant (live_of start)))
        (state_with new live) outcome
    pub leaves : EndsAs m outcome new live
    pub same : IsSameRun old new

  -- This is the result of a run that began with the first start of this log and was taken to a limit that may be lower than its
  -- own, without what its first `given` supersteps printed and recorded. The starts are those of its supersteps.
  pub record HasLeftTo (m : Q → Reading S T) (limit : SuperstepStartValue Q S → ℕ) (log : List (SuperstepStartValue Q S)) (given : ℕ)
      (outcome : ReportValue) (living : List S) : Type 0 where
    pub first : SuperstepStartValue Q S
    pub since : List (SuperstepStartValue Q S)
    pub begun : log ≡ since ++ first ∷ []
    pub within : limit first ≤ first.limit
    pub run : HasRunOn (record (setup_of m first) { limit = limit first }) given outcome (map (m first.program).meant living)
    pub all_open : AllOpen (m first.program).meant log (states_by (m first.program) first.most run.run.history first (limit first))
    pub as_long : length run.run.history ≤ length log
    pub counted : CountsAs outcome.status (length run.run.history)

  -- the same, taken to its own limit
  abbrev pub HasLeft : (Q → Reading S T) → List (SuperstepStartValue Q S) → ℕ → ReportValue → List S → Type 0
  HasLeft m log given outcome living = HasLeftTo m (λ o. o.limit) log given outcome living

  -- The lines that `give` returns: what supersteps have printed and recorded since the last call.
  pub record IsGiven (m : Q → Reading S T) (v : StretchesValue Q S) (lines : LinesValue) : Type 0 where
    pub run : IsRunSoFar m v
    pub first : lines.first ≡ v.given
    pub next : lines.next ≡ v.step
    pub prints : lines.prints ≡ v.prints
    pub records : lines.records ≡ v.records

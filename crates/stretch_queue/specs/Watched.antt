-- What a watcher has allowed of a run by stretches (own).
use Rattle.std.specs.Prelude.{◌≡◌, ◌⊎◌, ◌+◌, ◌||◌, if◌then◌else◌, ℕ, ℤ, Bool, true, false, List, [], ◌∷◌, ◌++◌, length, map, None, Some, is_some}
use Rattle.atomic_table.specs.Seated.{TableId}
use Rattle.ghost_lists.specs.Agreed.{LogValue}
use Rattle.phase_records.specs.ReportValue.{ReportValue}
use Rattle.programs.specs.History.{HasRunTo}
use Rattle.program_stretches.specs.Parts.{Reading}
use Rattle.program_stretches.specs.SuperstepStart.{SuperstepStartValue, live_of, setup_of}
use Rattle.program_stretches.specs.StretchesValue.{StretchesValue, status_in, can_leave, can_stop}
use Rattle.program_stretches.specs.Closing.{HasLeft, HasLeftTo}
use Rattle.phase_records.specs.Status.{Limit}
use Rattle.stretch_queue.specs.Hooked.{bare}

module _ {Q S : Type 0} where
  -- the watcher let each superstep of this log begin
  abbrev pub AllWent : (ℕ → List (List ℕ × List ℤ) → ℕ → Type 0) → List (SuperstepStartValue Q S) → Type 0
  AllWent goes [] = Unit {0}
  AllWent goes (o ∷ older) = goes (length older) o.arrays (length (live_of o)) × AllWent goes older

  -- each but the last
  abbrev pub AllWentBefore : (ℕ → List (List ℕ × List ℤ) → ℕ → Type 0) → List (SuperstepStartValue Q S) → Type 0
  AllWentBefore goes [] = Unit {0}
  AllWentBefore goes (o ∷ older) = AllWent goes older

  -- The run is before a superstep whose start is the last of the log, after these earlier ones. No fault has ended it.
  pub record IsOpened (v : StretchesValue Q S) (older : List (SuperstepStartValue Q S)) : Type 0 where
    pub start : SuperstepStartValue Q S
    pub log : v.log ≡ start ∷ older
    pub arrays : start.arrays ≡ v.arrays
    pub tasks : length (live_of start) ≡ v.count
    pub step : length older ≡ v.step
    pub calm : v.fault ≡ None

  -- The watcher let each superstep begin. The last that was opened hasn't begun if the run has ended before it.
  pub record IsWatched (stops goes : ℕ → List (List ℕ × List ℤ) → ℕ → Type 0) (v : StretchesValue Q S) (stopped : Bool) : Type 0 where
    pub went : AllWent goes v.log ⊎ (AllWentBefore goes v.log × (length v.log ≡ v.step + 1) × (v.fault ≡ None))
    pub running : stopped ≡ false → status_in v ≡ None → AllWent goes v.log
    pub halted : stopped ≡ true → (status_in v ≡ None) × stops v.step v.arrays v.count

  -- the run has ended, or its hook has stopped it
  abbrev pub has_ended_in : StretchesValue Q S → Bool → Bool
  has_ended_in v stopped = is_some (status_in v) || stopped

  -- what it leaves can be had
  abbrev pub can_leave_in : StretchesValue Q S → Bool → Bool
  can_leave_in v stopped = if stopped then can_stop v else can_leave v

module _ {Q S T : Type 0} where
  -- what a run leaves that has ended in this state, or was stopped in it by its hook
  abbrev pub LeavesAs : (Q → Reading S T) → StretchesValue Q S → Bool → LogValue (SuperstepStartValue Q S) → ℕ → ReportValue → List S
      → Type 0
  LeavesAs m v true w given outcome living =
      (w.name ≡ v.name) × (w.log ≡ v.log) × (given ≡ v.given) × HasLeftTo m (λ o. v.step) w.log given outcome living
      × (outcome.arrays ≡ v.arrays) × (outcome.status ≡ Limit v.step) × (length living ≡ v.count)
  LeavesAs m v false w given outcome living =
      (w.name ≡ v.name) × (w.log ≡ v.log) × (given ≡ v.given) × HasLeft m w.log given outcome living × (Some outcome.status ≡ status_in v)

  -- what a run leaves whose hook kept this of it until its end
  pub record HasLeftKept (m : Q → Reading S T) (kept : StretchesValue Q S → Bool → Type 0) (mark : TableId)
      (w : LogValue (SuperstepStartValue Q S)) (given : ℕ) (outcome : ReportValue) (living : List S) : Type 0 where
    pub last : StretchesValue Q S
    pub stopped : Bool
    pub of_mark : last.name ≡ mark
    pub keeps : kept (bare last) stopped
    pub leaves : LeavesAs m last stopped w given outcome living

  -- This is the result of a run with a watcher that began with the first start of this log.
  pub record HasLeftWatched (stops goes : ℕ → List (List ℕ × List ℤ) → ℕ → Type 0) (m : Q → Reading S T)
      (log : List (SuperstepStartValue Q S)) (outcome : ReportValue) (living : List S) : Type 0 where
    pub first : SuperstepStartValue Q S
    pub since : List (SuperstepStartValue Q S)
    pub begun : log ≡ since ++ first ∷ []
    pub run : HasRunTo stops goes (setup_of m first) outcome (map (m first.program).meant living)

-- The supersteps that a run has taken (own).
use Rattle.std.specs.Prelude.{◌≡◌, ◌<◌, ◌≤◌, ℕ, List, [], ◌++◌, None, length, get_or}
use Rattle.programs.specs.Superstep.{State}
use Rattle.programs.specs.History.{Entry, IsEntered, Setup, state_after, HasRun}
use Rattle.phase_records.specs.ReportValue.{ReportValue}

-- a state, and before what it has printed and recorded what an earlier one had
abbrev pub with_earlier : {T : Type 0} → State T → State T → State T
with_earlier early st = record st { prints = early.prints ++ st.prints; records = early.records ++ st.records }

-- A run of this setup is in this state after the supersteps of some history. What its first `given` supersteps printed and
-- recorded was given away.
pub record IsReached {T : Type 0} (setup : Setup T) (given : ℕ) (st : State T) : Type 0 where
  pub history : List (List (Entry T))
  pub entered : (n : ℕ) → n < length history → IsEntered setup.frame setup.may (state_after setup history n) (get_or history n [])
  pub within : given ≤ length history
  pub count : st.fault ≡ None → length history ≡ st.step
  pub state : with_earlier (state_after setup history given) st ≡ state_after setup history (length history)

-- a report, and before what it has printed and recorded what a state had
abbrev pub with_before : {T : Type 0} → State T → ReportValue → ReportValue
with_before early outcome = record outcome { prints = early.prints ++ outcome.prints; records = early.records ++ outcome.records }

-- A run left this report, but for what its first `given` supersteps printed and recorded.
pub record HasRunOn {T : Type 0} (setup : Setup T) (given : ℕ) (outcome : ReportValue) (living : List T) : Type 0 where
  pub whole : ReportValue
  pub run : HasRun setup whole living
  pub within : given ≤ length run.history
  pub rest : whole ≡ with_before (state_after setup run.history given) outcome

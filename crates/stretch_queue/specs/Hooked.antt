-- Supersteps of a run that a hook closes (own).
use Rattle.std.specs.Prelude.{◌≡◌, ℕ, Bool, true, false, List, [], length, None, Some}
use Rattle.program_stretches.specs.StretchesValue.{StretchesValue, status_in}
use Rattle.program_stretches.specs.Parts.{AreFresh, tasks_in}
use Rattle.stretch_queue.specs.declared.hook.Closed.{Closed}
use Rattle.stretch_queue.specs.declared.hook.Closed.TheVariants.{Landed, Stopped, Faulted}

module _ {Q S : Type 0} where
  -- a run, read without its stretches
  abbrev pub bare : StretchesValue Q S → StretchesValue Q S
  bare v = record v { parts = [] }

-- the hook has stopped the run
abbrev pub is_stopped : {L : Type 0} → Closed L → Bool
is_stopped Stopped = true
is_stopped _ = false

module _ {Q S : Type 0} where
  -- all live tasks are in its stretches, none is out, and none has run
  pub record AreNext (v : StretchesValue Q S) : Type 0 where
    pub fresh : AreFresh 0 v.parts
    pub count : v.count ≡ length (tasks_in v.parts)
    pub calm : v.fault ≡ None

  -- the stretches after a superstep was closed; none after a fault
  abbrev pub Reopens : {L : Type 0} → Closed L → StretchesValue Q S → Type 0
  Reopens (Landed lines) v = AreNext v
  Reopens Stopped v = AreNext v × (status_in v ≡ None)
  Reopens Faulted v = (v.parts ≡ []) × ((f : ℕ × List ℕ) × (v.fault ≡ Some f))

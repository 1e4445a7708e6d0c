-- A superstep as it begins (own).
use Rattle.std.specs.Prelude.{◌≡◌, ℕ, ℤ, List, [], ◌∷◌, length, map, Option}
use Rattle.programs.specs.Superstep.{State}
use Rattle.programs.specs.Supersteps.{so_far}
use Rattle.programs.specs.History.{Entry, says_by, Setup}
use Rattle.program_stretches.specs.PartValue.{PartValue}
use Rattle.program_stretches.specs.Parts.{Reading, setup_by, tasks_in}

-- the program, how many tasks may live and supersteps be taken, the arrays, and the stretches of the live tasks
pub record SuperstepStartValue (Q S : Type 0) : Type 0 where
  pub program : Q
  pub most : ℕ
  pub limit : ℕ
  pub arrays : List (List ℕ × List ℤ)
  pub parts : List (Option (PartValue S))

-- the tasks that live
abbrev pub live_of : {Q S : Type 0} → SuperstepStartValue Q S → List S
live_of o = tasks_in o.parts

-- the setup of a run whose first superstep begins so
abbrev pub setup_of : {Q S T : Type 0} → (Q → Reading S T) → SuperstepStartValue Q S → Setup T
setup_of m o = setup_by (m o.program) o.most o.arrays (map (m o.program).meant (live_of o)) o.limit

module _ {Q S T : Type 0} where
  -- a run that began with this start and has this history, superstep by superstep
  abbrev pub states_by : Reading S T → ℕ → List (List (Entry T)) → SuperstepStartValue Q S → ℕ → ℕ → State T
  states_by r most history first limit = so_far (says_by r.frame most history) first.arrays (map r.meant (live_of first)) limit

  -- the superstep of this number began with this state, and this is its start
  pub record Opens (meant : S → T) (o : SuperstepStartValue Q S) (n : ℕ) (st : State T) : Type 0 where
    pub step : st.step ≡ n
    pub arrays : st.arrays ≡ o.arrays
    pub live : st.live ≡ map meant (live_of o)

  -- the starts of a log, the last first, are those of the supersteps of a run with these states
  abbrev pub AllOpen : (S → T) → List (SuperstepStartValue Q S) → (ℕ → State T) → Type 0
  AllOpen meant [] states = Unit {0}
  AllOpen meant (o ∷ older) states = Opens meant o (length older) (states (length older)) × AllOpen meant older states

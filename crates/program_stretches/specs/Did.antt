-- What live tasks did in a superstep, whoever ran them (own).
use Rattle.std.specs.Prelude.{◌≡◌, ℕ, ℤ, List, [], ◌++◌, map, Option, Some, None}
use Rattle.superstep_memory.specs.declared.arrays.Put.{Put}
use Rattle.phase_records.specs.PrintValue.{PrintValue}
use Rattle.programs.specs.Meaning.{Segment, Frame, Says}
use Rattle.programs.specs.Reads.{reads}
use Rattle.programs.specs.DeedValue.{DeedValue}
use Rattle.programs.specs.Superstep.{State, first_fault, segments, next_live, too_many, overflow, superstep}
use Rattle.programs.specs.InPlace.{Reported, deeds_of}
use Rattle.programs.specs.History.{Entry, AllAllowed, IsEntered, segments_in, says_in}
use Rattle.programs.specs.Done.{Agrees}
use Rattle.program_stretches.specs.declared.fault.Outcome.{Outcome}
use Rattle.program_stretches.specs.declared.fault.Outcome.TheVariants.{Landed, Faulted, TooMany, Overflowed}
use Rattle.program_stretches.specs.Parts.{Reading}

-- all these tasks did their segments, or those up to the first fault
pub record DidAll {S T : Type 0} (r : Reading S T) (arrays : List (List ℕ × List ℤ)) (step : ℕ) (fault : Option (ℕ × List ℕ))
    (puts : List Put) (ts us : List S) (ds : List (DeedValue S)) (after : List PrintValue) : Type 0 where
  pub entries : List (Entry T)
  pub allowed : AllAllowed r.frame r.may arrays step entries
  pub done : List S
  pub back : List S
  pub cut : ts ≡ done ++ back
  pub tasks : map (λ e. e.task) entries ≡ map r.meant done
  pub whole : fault ≡ None → back ≡ []
  pub calm : fault ≡ None → first_fault (segments_in r.frame entries) ≡ None
  pub faults : (x : ℕ × List ℕ) → fault ≡ Some x → first_fault (segments_in r.frame entries) ≡ Some x
  pub reported : (s : Says T) → Agrees s arrays step entries
      → Reported (reads s r.meant r.path) (deeds_of (reads s r.meant r.path) arrays step ts) step fault puts us ds [] after

-- one superstep of what the live tasks of a state left, each allowed, leads to this state
pub record IsStep {T : Type 0} (f : Frame T) (may : T → List (List ℕ × List ℤ) → ℕ → Segment T → Type 0) (most : ℕ)
    (st next : State T) : Type 0 where
  pub entries : List (Entry T)
  pub entered : IsEntered f may st entries
  pub is : superstep (says_in f most entries) st ≡ next

abbrev pub outcome_by : Option (ℕ × List ℕ) → Option (ℕ × List ℕ) → Option (ℕ × List ℕ) → Outcome
outcome_by (Some f) many over = Faulted
outcome_by None (Some f) over = TooMany
outcome_by None None (Some f) = Overflowed
outcome_by None None None = Landed

-- how a superstep ends: by the first fault of a task, else by the number of tasks that would live, else by the first put that
-- overflows; else its puts land
abbrev pub outcome_of : {T : Type 0} → Says T → State T → Outcome
outcome_of s st =
    let ss = segments s st.arrays st.step st.live in
    outcome_by (first_fault ss) (too_many s.most (next_live s.path ss)) (overflow st.arrays ss)

-- the same, and the superstep ends so
pub record IsStepTo {T : Type 0} (f : Frame T) (may : T → List (List ℕ × List ℤ) → ℕ → Segment T → Type 0) (most : ℕ) (st next : State T)
    (outcome : Outcome) : Type 0 where
  pub step : IsStep f may most st next
  pub ends : outcome ≡ outcome_of (says_in f most step.entries) st

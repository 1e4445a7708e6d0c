-- What live tasks did in a superstep, whatever tasks mean that leave what these left (own).
use Rattle.std.specs.Prelude.{◌≡◌, ℕ, ◌+◌, ℤ, List, [], ◌∷◌, ◌++◌, map, length, Option, Some, None}
use Rattle.superstep_memory.specs.declared.arrays.Put.{Put}
use Rattle.phase_records.specs.PrintValue.{PrintValue}
use Rattle.programs.specs.Meaning.{Segment, Frame, Says, IsFormed}
use Rattle.programs.specs.Reads.{reads}
use Rattle.programs.specs.DeedValue.{DeedValue}
use Rattle.programs.specs.Superstep.{first_fault}
use Rattle.programs.specs.InPlace.{ReportedOne, IsFurther, Reported, deeds_of}
use Rattle.programs.specs.History.{Entry, AllAllowed, AreOf, segments_in}

module _ {T : Type 0} where
  -- tasks that mean this leave what the entries say
  abbrev pub Agrees : Says T → List (List ℕ × List ℤ) → ℕ → List (Entry T) → Type 0
  Agrees s arrays step [] = Unit {0}
  Agrees s arrays step (e ∷ es) = (s.segment e.task arrays step ≡ e.left) × Agrees s arrays step es

module _ {S T : Type 0} where
  -- one task did its segment
  pub record HasDoneOne (f : Frame T) (may : T → List (List ℕ × List ℤ) → ℕ → Segment T → Type 0) (meant : S → T) (path : S → List ℕ)
      (arrays : List (List ℕ × List ℤ)) (step : ℕ) (fault : Option (ℕ × List ℕ)) (t u : S) (puts qs : List Put) (ds es : List (DeedValue S))
      (before after : List PrintValue) : Type 0 where
    pub left : Segment T
    pub allowed : may (meant t) arrays step left
    pub formed : IsFormed f (meant t) left
    pub reported : (s : Says T) → ReportedOne (reads s meant path) left step fault t u puts qs ds es before after

  -- the tasks from one place to another did theirs, or those up to the first fault
  pub record HasDoneRange (f : Frame T) (may : T → List (List ℕ × List ℤ) → ℕ → Segment T → Type 0) (meant : S → T) (path : S → List ℕ)
      (arrays : List (List ℕ × List ℤ)) (step : ℕ) (fault : Option (ℕ × List ℕ)) (first end : ℕ) (puts qs : List Put) (ts us : List S)
      (ds es : List (DeedValue S)) (before after : List PrintValue) : Type 0 where
    pub entries : List (Entry T)
    pub allowed : AllAllowed f may arrays step entries
    pub front : List S
    pub done : List S
    pub back : List S
    pub cut : ts ≡ front ++ (done ++ back)
    pub from : length front ≡ first
    pub tasks : map (λ e. e.task) entries ≡ map meant done
    pub whole : fault ≡ None → length front + length done ≡ end
    pub faults : (x : ℕ × List ℕ) → fault ≡ Some x → first_fault (segments_in f entries) ≡ Some x
    pub calm : fault ≡ None → first_fault (segments_in f entries) ≡ None
    pub further : (s : Says T) → Agrees s arrays step entries
        → IsFurther (reads s meant path) arrays step fault first end puts qs ts us ds es before after

  -- all live tasks did theirs, or those up to the first fault
  pub record HasDoneAll (f : Frame T) (may : T → List (List ℕ × List ℤ) → ℕ → Segment T → Type 0) (meant : S → T) (path : S → List ℕ)
      (arrays : List (List ℕ × List ℤ)) (step : ℕ) (fault : Option (ℕ × List ℕ)) (puts : List Put) (ts us : List S)
      (ds : List (DeedValue S)) (before after : List PrintValue) : Type 0 where
    pub entries : List (Entry T)
    pub allowed : AllAllowed f may arrays step entries
    pub tasks : AreOf f (map meant ts) entries
    pub reported : (s : Says T) → Agrees s arrays step entries
        → Reported (reads s meant path) (deeds_of (reads s meant path) arrays step ts) step fault puts us ds before after

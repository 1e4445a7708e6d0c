-- A run whose tasks may each leave one thing alone.
use Rattle.std.proofs.Common.{◌≡◌, ℕ, zero, suc, ◌≤◌, true, List, [], ◌∷◌, ◌++◌, map, length, Option, Some, None, get_or, refl, sym, ap, ◌∙◌, arith, append-nil}
use Rattle.std.specs.Prelude.{ℤ}
use Rattle.superstep_memory.specs.Paths.{is_rising}
use Rattle.phase_records.specs.Status.{Status}
use Rattle.phase_records.specs.ReportValue.{ReportValue}
use Rattle.programs.specs.Meaning.{After, Synced, Stopped, Faulted, Segment, Frame, Says, children}
use Rattle.programs.specs.Superstep.{State, superstep, closed, segments, fault_in, first_fault, or_later, or_next, too_many, overflow, next_live, ended_by, live_paths}
use Rattle.programs.specs.Supersteps.{so_far, status, report_in, report_of}
use Rattle.programs.specs.History.{Entry, says_in, says_by, says_of, AllAllowed, segments_in, IsEntered, living_after, HasRun}
use Rattle.programs.specs.Done.{Agrees}
use Rattle.programs.proofs.History.{AllFormed, numbers_by, stays_by, entries_rise, agrees}
use Rattle.programs.proofs.Histories.{superstep_by, formed_by}
use Rattle.programs.proofs.Runs.{going_on, goes, stays, ended_is_last}
use Rattle.programs.proofs.Apart.{live-paths-rise}

module _ {T : Type 0} (f : Frame T) (may : T → List (List ℕ × List ℤ) → ℕ → Segment T → Type 0) (most : ℕ)
    (does : T → List (List ℕ × List ℤ) → ℕ → Segment T)
    (only : (t : T) (arrays : List (List ℕ × List ℤ)) (step : ℕ) (g : Segment T) → may t arrays step g → g ≡ does t arrays step) where
  first_some : (ss more : List (List ℕ × Segment T)) (x : ℕ × List ℕ) → first_fault ss ≡ Some x → first_fault (ss ++ more) ≡ Some x
  first_some [] more x h = cc
  first_some (s ∷ ss) more x h = by s.1.after h (first_some ss more x)
    where
      by : (a : After T) → or_later (first_fault ss) s.0 a ≡ Some x → (first_fault ss ≡ Some x → first_fault (ss ++ more) ≡ Some x)
          → or_later (first_fault (ss ++ more)) s.0 a ≡ Some x
      by (Synced t) h go = go h
      by Stopped h go = go h
      by (Faulted c) h go = h

  -- segments of tasks, if what these mean leaves what the entries say
  entered : (s : Says T) (same : (t : T) → s.path t ≡ f.path t) (arrays : List (List ℕ × List ℤ)) (step : ℕ) (es : List (Entry T))
      (back : List T)
      → Agrees s arrays step es
      → segments s arrays step (map (λ e. e.task) es ++ back) ≡ segments_in f es ++ segments s arrays step back
  entered s same arrays step [] back h = refl
  entered s same arrays step (e ∷ es) back h = λ i. (same e.task i, h.0 i) ∷ entered s same arrays step es back h.1 i

  does_agrees : (arrays : List (List ℕ × List ℤ)) (step : ℕ) (es : List (Entry T)) → AllAllowed f may arrays step es
      → Agrees (says_of f most does) arrays step es
  does_agrees arrays step [] h = tt
  does_agrees arrays step (e ∷ es) h = (sym (only e.task arrays step e.left h.0), does_agrees arrays step es h.2)

  -- a fault among the first segments ends both
  fault_ends : (s : Says T) (st : State T) (ss : List (List ℕ × Segment T)) (x : ℕ × List ℕ) → first_fault ss ≡ Some x
      → closed s.path st ss (fault_in s.path s.most st.arrays ss) ≡ ended_by st x
  fault_ends s st ss x h =
      ap (λ o. closed s.path st ss (or_next o (or_next (too_many s.most (next_live s.path ss)) (overflow st.arrays ss)))) h

  -- one superstep
  pub step_same : (st : State T) (es : List (Entry T)) → is_rising (live_paths (says_in f most es) st) ≡ true → IsEntered f may st es
      → superstep (says_in f most es) st ≡ superstep (says_of f most does) st
  step_same st es r h = by (first_fault (segments_in f es)) refl
    where
      rise : is_rising (map (λ e. f.path e.task) es) ≡ true
      rise = entries_rise f st.live es h.tasks r

      in_first : segments (says_in f most es) st.arrays st.step st.live
          ≡ segments_in f es ++ segments (says_in f most es) st.arrays st.step h.tasks.back
      in_first =
          ap (segments (says_in f most es) st.arrays st.step) h.tasks.cut
          ∙ entered (says_in f most es) (λ t. refl) st.arrays st.step es h.tasks.back (agrees f most st.arrays st.step es rise)

      of_first : segments (says_of f most does) st.arrays st.step st.live
          ≡ segments_in f es ++ segments (says_of f most does) st.arrays st.step h.tasks.back
      of_first =
          ap (segments (says_of f most does) st.arrays st.step) h.tasks.cut
          ∙ entered (says_of f most does) (λ t. refl) st.arrays st.step es h.tasks.back (does_agrees st.arrays st.step es h.allowed)

      by : (o : Option (ℕ × List ℕ)) → first_fault (segments_in f es) ≡ o
          → superstep (says_in f most es) st ≡ superstep (says_of f most does) st
      by None e =
          let none = h.tasks.whole e in
          let all_in =
          in_first ∙ ap (λ (ts : List T). segments_in f es ++ segments (says_in f most es) st.arrays st.step ts) none
          ∙ append-nil (segments_in f es) in
          let all_of =
          of_first ∙ ap (λ (ts : List T). segments_in f es ++ segments (says_of f most does) st.arrays st.step ts) none
          ∙ append-nil (segments_in f es) in
          ap (λ (ss : List (List ℕ × Segment T)). closed f.path st ss (fault_in f.path most st.arrays ss)) (all_in ∙ sym all_of)
      by (Some x) e =
          fault_ends (says_in f most es) st (segments (says_in f most es) st.arrays st.step st.live) x
          (ap first_fault in_first ∙ first_some (segments_in f es) (segments (says_in f most es) st.arrays st.step h.tasks.back) x e)
          ∙ sym (fault_ends (says_of f most does) st (segments (says_of f most does) st.arrays st.step st.live) x
          (ap first_fault of_first ∙ first_some (segments_in f es) (segments (says_of f most does) st.arrays st.step h.tasks.back) x e))

  module _ (arrays : List (List ℕ × List ℤ)) (tasks : List T) (limit : ℕ) (begin : map f.path tasks ≡ children [] 0 (length tasks))
      (outcome : ReportValue) (living : List T) (h : HasRun (record { frame = f; may = may; most = most; arrays = arrays; tasks = tasks; limit = limit }) outcome living) where
    formed : (n : ℕ) → AllFormed f (get_or h.history n [])
    formed = formed_by f most may arrays tasks limit h.history h.entered

    -- after this many supersteps of the history both are the same
    pub so_far_same : (m : ℕ) → m ≤ length h.history
        → so_far (says_by f most h.history) arrays tasks limit m ≡ so_far (says_of f most does) arrays tasks limit m
    so_far_same zero le = refl
    so_far_same (suc m) le =
        let before = so_far_same m (omega (arith, le)) in
        by (status limit (so_far (says_by f most h.history) arrays tasks limit m)) refl before
      where
        st : State T
        st = so_far (says_by f most h.history) arrays tasks limit m

        by : (o : Option Status) → status limit st ≡ o → st ≡ so_far (says_of f most does) arrays tasks limit m
            → so_far (says_by f most h.history) arrays tasks limit (suc m) ≡ so_far (says_of f most does) arrays tasks limit (suc m)
        by (Some x) e before =
            stays (says_by f most h.history) arrays tasks (status limit st) x st (superstep (says_by f most h.history) st) e
            ∙ before
            ∙ sym
            (stays (says_of f most does) arrays tasks (status limit (so_far (says_of f most does) arrays tasks limit m)) x (so_far (says_of f most does) arrays tasks limit m)
            (superstep (says_of f most does) (so_far (says_of f most does) arrays tasks limit m)) (ap (status limit) (sym before) ∙ e))
        by None e before =
            let at = (going_on (says_by f most h.history) arrays tasks limit m e).step in
            let entry : get_or h.history st.step [] ≡ get_or h.history m [] = ap (λ (n : ℕ). get_or h.history n []) at in
            let rises =
            live-paths-rise (says_by f most h.history) (numbers_by f most h.history formed) (stays_by f most h.history formed) arrays tasks
            limit m begin in
            goes (says_by f most h.history) arrays tasks (status limit st) st (superstep (says_by f most h.history) st) e
            ∙ superstep_by f most h.history st
            ∙ ap (λ (es : List (Entry T)). superstep (says_in f most es) st) entry
            ∙ step_same st (get_or h.history m []) rises (h.entered m (omega (arith, le)))
            ∙ ap (superstep (says_of f most does)) before
            ∙ sym
            (goes (says_of f most does) arrays tasks (status limit (so_far (says_of f most does) arrays tasks limit m)) (so_far (says_of f most does) arrays tasks limit m)
            (superstep (says_of f most does) (so_far (says_of f most does) arrays tasks limit m)) (ap (status limit) (sym before) ∙ e))

    -- the report is that of what each task does
    pub exactly : report_of (says_of f most does) arrays tasks limit ≡ Some outcome
    exactly =
        let n = length h.history in
        let same = so_far_same n (omega arith) in
        let by_last = ended_is_last (says_by f most h.history) arrays tasks limit n outcome.status h.ended in
        let of_last = ended_is_last (says_of f most does) arrays tasks limit n outcome.status (ap (status limit) (sym same) ∙ h.ended) in
        ap (report_in limit) (sym of_last ∙ sym same ∙ by_last) ∙ h.report

    -- so are the tasks that live at its end
    pub lives_exactly : living_after outcome.status (so_far (says_of f most does) arrays tasks limit limit).live ≡ living
    lives_exactly =
        let n = length h.history in
        let same = so_far_same n (omega arith) in
        let of_last = ended_is_last (says_of f most does) arrays tasks limit n outcome.status (ap (status limit) (sym same) ∙ h.ended) in
        ap (λ (st : State T). living_after outcome.status st.live) (sym of_last ∙ sym same) ∙ h.at_end

-- A run that is taken superstep by superstep, whose tasks may each leave one thing alone.
use Rattle.std.proofs.Common.{◌≡◌, ℕ, suc, ◌+◌, true, List, [], ◌∷◌, ◌++◌, map, Option, Some, None, refl, sym, ap, ◌∙◌, append_assoc, append-nil}
use Rattle.std.specs.Prelude.{ℤ}
use Rattle.superstep_memory.specs.Paths.{is_rising}
use Rattle.phase_records.specs.PrintValue.{PrintValue}
use Rattle.phase_records.specs.declared.record.PhaseRecord.{PhaseRecord}
use Rattle.phase_records.specs.Status.{Status}
use Rattle.programs.specs.Meaning.{Segment, Frame, Says}
use Rattle.programs.specs.Superstep.{State, superstep, closed, segments, fault_in, prints_of, record_of}
use Rattle.programs.specs.Supersteps.{so_far, status, report_with, report_of}
use Rattle.programs.specs.History.{says_in, says_of}
use Rattle.programs.specs.Steps.{StepsValue, begun, ended, IsRunning, state_in, as_kept, HasStepped, with_taken, IsSoFar}
use Rattle.programs.proofs.Exactly.{step_same}
use Rattle.programs.proofs.Reached.{status_kept, status_mapped, status_sound, is_open, all_kept}
use Rattle.programs.proofs.Runs.{goes, ended_is_last, ended_stays}

-- what was taken away changes nothing else
closed_taken : {T : Type 0} (s : Says T) (ps : List PrintValue) (rs : List PhaseRecord) (st : State T) (ss : List (List ℕ × Segment T))
    (f : Option (ℕ × List ℕ))
    → closed s.path (with_taken ps rs st) ss f ≡ with_taken ps rs (closed s.path st ss f)
closed_taken s ps rs st ss (Some f) = refl
closed_taken s ps rs st ss None =
    let next = closed s.path st ss None in
    λ i.
    record next {
      prints = append_assoc ps st.prints (prints_of st.step ss) i;
      records = append_assoc rs st.records (record_of st.step ss ∷ []) i;
    }

pub superstep_taken : {T : Type 0} (s : Says T) (ps : List PrintValue) (rs : List PhaseRecord) (st : State T)
    → superstep s (with_taken ps rs st) ≡ with_taken ps rs (superstep s st)
superstep_taken s ps rs st =
    closed_taken s ps rs st (segments s st.arrays st.step st.live) (fault_in s.path s.most st.arrays (segments s st.arrays st.step st.live))

module _ {S T : Type 0} (s : Says T) (arrays : List (List ℕ × List ℤ)) (tasks : List T) (meant : S → T) where
  -- before the first superstep
  pub so_far_none : (ts : List S) (limit : ℕ) → map meant ts ≡ tasks → IsSoFar s arrays tasks 0 meant [] [] (begun arrays ts s.most limit)
  so_far_none ts limit e = record {
    state = λ i. record { step = 0; arrays = arrays; live = e i; prints = []; records = []; fault = None };
    sound = refl;
    few = refl;
  }

  -- how it has ended
  pub so_far_ended : {n : ℕ} {ps : List PrintValue} {rs : List PhaseRecord} {v : StepsValue S} → IsSoFar s arrays tasks n meant ps rs v
      → status v.limit (so_far s arrays tasks v.limit n) ≡ ended v
  so_far_ended {n} {ps} {rs} {v} h =
      let st = so_far s arrays tasks v.limit n in
      sym (status_kept v.limit st.step st.fault st.live)
      ∙ ap (status v.limit) (sym h.state)
      ∙ status_mapped meant v.limit v.step v.fault v.tasks
      ∙ sym (status_sound v h.sound)

  -- while it runs all is kept
  pub so_far_whole : {n : ℕ} {ps : List PrintValue} {rs : List PhaseRecord} {v : StepsValue S} → IsSoFar s arrays tasks n meant ps rs v
      → v.fault ≡ None
      → with_taken ps rs (state_in meant v) ≡ so_far s arrays tasks v.limit n
  so_far_whole {n} {ps} {rs} {v} h e =
      let st = so_far s arrays tasks v.limit n in
      let calm : st.fault ≡ None = ap (λ (x : State T). x.fault) (sym h.state) ∙ e in
      h.state ∙ all_kept st calm

  -- after the end nothing changes
  pub so_far_stays : {n : ℕ} {ps : List PrintValue} {rs : List PhaseRecord} {v : StepsValue S} (k : ℕ) (end : Status)
      → IsSoFar s arrays tasks n meant ps rs v → ended v ≡ Some end → IsSoFar s arrays tasks (k + n) meant ps rs v
  so_far_stays {n} {ps} {rs} {v} k end h e = record {
    state = h.state ∙ ap as_kept (sym (ended_stays s arrays tasks v.limit n k end (so_far_ended h ∙ e)));
    sound = h.sound;
    few = h.few;
  }

  -- prints and records are taken away
  pub prints_taken : {n : ℕ} {ps : List PrintValue} {rs : List PhaseRecord} {v : StepsValue S} → IsSoFar s arrays tasks n meant ps rs v
      → IsSoFar s arrays tasks n meant (ps ++ v.prints) rs (record v { prints = [] })
  prints_taken {n} {ps} {rs} {v} h = record {
    state = (λ i. record (with_taken ps rs (state_in meant v)) { prints = append-nil (ps ++ v.prints) i }) ∙ h.state;
    sound = h.sound;
    few = h.few;
  }

  pub records_taken : {n : ℕ} {ps : List PrintValue} {rs : List PhaseRecord} {v : StepsValue S} → IsSoFar s arrays tasks n meant ps rs v
      → IsSoFar s arrays tasks n meant ps (rs ++ v.records) (record v { records = [] })
  records_taken {n} {ps} {rs} {v} h = record {
    state = (λ i. record (with_taken ps rs (state_in meant v)) { records = append-nil (rs ++ v.records) i }) ∙ h.state;
    sound = h.sound;
    few = h.few;
  }

  -- the report of a run that has ended
  pub so_far_reported : {n : ℕ} {ps : List PrintValue} {rs : List PhaseRecord} {v : StepsValue S} (end : Status)
      → IsSoFar s arrays tasks n meant ps rs v → ended v ≡ Some end
      → report_of s arrays tasks v.limit
      ≡ Some (record { prints = ps ++ v.prints; records = rs ++ v.records; arrays = v.arrays; status = end })
  so_far_reported {n} {ps} {rs} {v} end h e =
      let st = so_far s arrays tasks v.limit n in
      let over = so_far_ended h ∙ e in
      let last = ended_is_last s arrays tasks v.limit n end over in
      ap (λ (x : State T). report_with x (status v.limit x)) (sym last) ∙ ap (report_with st) over
      ∙ sym (λ i. Some (record { prints = (h.state i).prints; records = (h.state i).records; arrays = (h.state i).arrays; status = end }))

module _ {S T : Type 0} (f : Frame T) (may : T → List (List ℕ × List ℤ) → ℕ → Segment T → Type 0) (most : ℕ)
    (does : T → List (List ℕ × List ℤ) → ℕ → Segment T)
    (only : (t : T) (arrays : List (List ℕ × List ℤ)) (step : ℕ) (g : Segment T) → may t arrays step g → g ≡ does t arrays step)
    (arrays : List (List ℕ × List ℤ)) (tasks : List T) (meant : S → T) where
  -- one superstep more
  pub so_far_more : {n : ℕ} {ps : List PrintValue} {rs : List PhaseRecord} {v new : StepsValue S}
      → IsSoFar (says_of f most does) arrays tasks n meant ps rs v → IsRunning v
      → is_rising (map f.path (map meant v.tasks)) ≡ true → HasStepped f may meant v new
      → IsSoFar (says_of f most does) arrays tasks (suc n) meant ps rs new
  so_far_more {n} {ps} {rs} {v} {new} h run rises t =
      let s = says_of f most does in
      let o = is_open v run in
      let st = so_far s arrays tasks v.limit n in
      let whole = so_far_whole s arrays tasks meant h o.fault in
      let going : status v.limit st ≡ None = so_far_ended s arrays tasks meant h ∙ run.going in
      let exact : superstep (says_in f v.most t.entries) (state_in meant v) ≡ superstep s (state_in meant v) =
      ap (λ (m : ℕ). superstep (says_in f m t.entries) (state_in meant v)) h.few
      ∙ step_same f may most does only (state_in meant v) t.entries rises t.entered in
      record {
        state =
            ap (with_taken ps rs) (t.state ∙ ap as_kept exact)
            ∙ ap as_kept (sym (superstep_taken s ps rs (state_in meant v)) ∙ ap (superstep s) whole)
            ∙ ap as_kept (sym (goes s arrays tasks (status v.limit st) st (superstep s st) going))
            ∙ ap (λ (m : ℕ). as_kept (so_far s arrays tasks m (suc n))) (sym t.limit);
        sound = t.sound;
        few = t.most ∙ h.few;
      }

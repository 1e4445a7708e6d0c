-- Supersteps of a history.
use Rattle.std.proofs.Common.{◌≡◌, ℕ, zero, suc, ◌+◌, ◌≤◌, ◌<◌, Bool, true, false, nat_lt, List, [], ◌∷◌, ◌++◌, length, Option, Some, None, get_or, refl, sym, ap, ◌∙◌, subst, arith}
use Rattle.std.specs.Prelude.{ℤ, nat_le, if◌then◌else◌}
use Rattle.std.proofs.lemmas.List.{get_or_append_left}
use Rattle.phase_records.specs.Status.{Status, Limit}
use Rattle.programs.specs.Meaning.{Segment, Frame, Says}
use Rattle.programs.specs.Superstep.{State, superstep, closed, segments, fault_in}
use Rattle.programs.specs.Supersteps.{so_far, status, status_of, unless_ended}
use Rattle.programs.specs.History.{Entry, left_of, says_in, says_by, IsEntered}
use Rattle.programs.proofs.History.{AllFormed, all_formed}
use Rattle.std.proofs.lemmas.Bool.Decides.{nat_tests}

module _ {T : Type 0} (f : Frame T) (most : ℕ) where
  abbrev History : Type 0
  History = List (List (Entry T))

  segments_by : (h : History) (arrays : List (List ℕ × List ℤ)) (step : ℕ) (ts : List T)
      → segments (says_by f most h) arrays step ts ≡ segments (says_in f most (get_or h step [])) arrays step ts
  segments_by h arrays step [] = refl
  segments_by h arrays step (t ∷ ts) =
      ap (λ (ss : List (List ℕ × Segment T)). (f.path t, left_of f (get_or h step []) t) ∷ ss) (segments_by h arrays step ts)

  -- a superstep of a history is one of its entries
  pub superstep_by : (h : History) (st : State T) → superstep (says_by f most h) st ≡ superstep (says_in f most (get_or h st.step [])) st
  superstep_by h st =
      ap (λ (ss : List (List ℕ × Segment T)). closed f.path st ss (fault_in f.path most st.arrays ss))
      (segments_by h st.arrays st.step st.live)

  -- one superstep takes at most one step
  step_bound : (s : Says T) (st : State T) (ss : List (List ℕ × Segment T)) (o : Option (ℕ × List ℕ))
      → (closed s.path st ss o).step ≤ st.step + 1
  step_bound s st ss None = omega arith
  step_bound s st ss (Some x) = omega arith

  so_far_bound : (s : Says T) (arrays : List (List ℕ × List ℤ)) (tasks : List T) (limit m : ℕ) → (so_far s arrays tasks limit m).step ≤ m
  so_far_bound s arrays tasks limit zero = omega arith
  so_far_bound s arrays tasks limit (suc m) = by (status limit (so_far s arrays tasks limit m)) (so_far_bound s arrays tasks limit m)
    where
      by : (o : Option Status) → (so_far s arrays tasks limit m).step ≤ m
          → (unless_ended o (so_far s arrays tasks limit m) (superstep s (so_far s arrays tasks limit m))).step ≤ suc m
      by (Some x) le = omega (arith, le)
      by None le =
          let st = so_far s arrays tasks limit m in
          let b =
          step_bound s st (segments s st.arrays st.step st.live)
          (fault_in s.path s.most st.arrays (segments s st.arrays st.step st.live)) in
          omega (arith, b, le)

  -- a longer history says the same of earlier supersteps
  pub so_far_more : (h more : History) (arrays : List (List ℕ × List ℤ)) (tasks : List T) (limit m : ℕ) → m ≤ length h
      → so_far (says_by f most (h ++ more)) arrays tasks limit m ≡ so_far (says_by f most h) arrays tasks limit m
  so_far_more h more arrays tasks limit zero le = refl
  so_far_more h more arrays tasks limit (suc m) le =
      let before = so_far_more h more arrays tasks limit m (omega (arith, le)) in
      let st = so_far (says_by f most h) arrays tasks limit m in
      let b = so_far_bound (says_by f most h) arrays tasks limit m in
      let same : get_or (h ++ more) st.step [] ≡ get_or h st.step [] = get_or_append_left h more [] st.step (omega (arith, b, le)) in
      (λ i. unless_ended (status limit (before i)) (before i) (superstep (says_by f most (h ++ more)) (before i)))
      ∙ ap (unless_ended (status limit st) st)
      (superstep_by (h ++ more) st ∙ ap (λ (es : List (Entry T)). superstep (says_in f most es) st) same ∙ sym (superstep_by h st))

  -- all that is known is well formed
  pub formed_by : (may : T → List (List ℕ × List ℤ) → ℕ → Segment T → Type 0) (arrays : List (List ℕ × List ℤ)) (tasks : List T) (limit : ℕ)
      (h : History)
      → ((n : ℕ) → n < length h → IsEntered f may (so_far (says_by f most h) arrays tasks limit n) (get_or h n [])) → (n : ℕ)
      → AllFormed f (get_or h n [])
  formed_by may arrays tasks limit h entered n = by (nat_lt n (length h)) refl
    where
      past : (hs : History) (k : ℕ) → length hs ≤ k → get_or hs k [] ≡ []
      past [] k le = refl
      past (x ∷ hs) zero le = absurd (omega (arith, le))
      past (x ∷ hs) (suc k) le = past hs k (omega (arith, le))

      by : (b : Bool) → nat_lt n (length h) ≡ b → AllFormed f (get_or h n [])
      by true e =
          let lt : n < length h = grind (arith, nat_tests) in
          let st = so_far (says_by f most h) arrays tasks limit n in
          all_formed f may st.arrays st.step (get_or h n []) (entered n lt).allowed
      by false e = let le : length h ≤ n = grind (arith, nat_tests) in subst (AllFormed f) (sym (past h n le)) tt

  -- before its end a run doesn't depend on its limit
  pub so_far_shorter : (s : Says T) (arrays : List (List ℕ × List ℤ)) (tasks : List T) (limit shorter m : ℕ) → shorter ≤ limit → m ≤ shorter
      → so_far s arrays tasks shorter m ≡ so_far s arrays tasks limit m
  so_far_shorter s arrays tasks limit shorter zero le lm = refl
  so_far_shorter s arrays tasks limit shorter (suc m) le lm =
      let before = so_far_shorter s arrays tasks limit shorter m le (omega (arith, lm)) in
      let st = so_far s arrays tasks limit m in
      let b = so_far_bound s arrays tasks limit m in
      (λ i. unless_ended (status shorter (before i)) (before i) (superstep s (before i)))
      ∙ ap (λ (o : Option Status). unless_ended o st (superstep s st)) (by st.fault st.live (omega (arith, b, lm)))
    where
      st : State T
      st = so_far s arrays tasks limit m

      no_limit : (l : ℕ) → st.step < l → (if nat_le l st.step then Some (Limit st.step) else None) ≡ None
      no_limit l lt = test (nat_le l st.step) refl
        where
          test : (c : Bool) → nat_le l st.step ≡ c → (if c then Some (Limit st.step) else None) ≡ None
          test true e = absurd (let k : l ≤ st.step = grind (arith, nat_tests) in omega (arith, k, lt))
          test false e = refl

      by : (f : Option (ℕ × List ℕ)) (live : List T) → st.step < shorter → status_of shorter st.step f live ≡ status_of limit st.step f live
      by (Some f) live lt = refl
      by None [] lt = refl
      by None (t ∷ ts) lt = no_limit shorter lt ∙ sym (no_limit limit (omega (arith, lt, le)))

-- A superstep that was given was taken, or memory ran out.
use Rattle.std.proofs.Common.{◌≡◌, ◌∙◌, ◌++◌, ℤ, [], List, Option, sym, ap, subst, inl, inr, append-nil}
use Rattle.std.specs.Prelude.{Result, Ok, Err, OnOk, OnErr, IfOk, MatchResult, pos}
use Rattle.std.specs.Option.{option_map}
use Rattle.phase_records.specs.PrintValue.{PrintValue}
use Rattle.phase_records.specs.StatusSeen.{status_seen}
use Rattle.phase_records.specs.declared.record.JobStatus.{JobStatus}
use Rattle.programs.specs.History.{says_in}
use Rattle.programs.specs.Steps.{HasStepped, ended, state_in, as_kept, with_taken}
use Rattle.programs.proofs.Stepped.{superstep_taken}
use Rattle.task_bodies.specs.Bodies.{member_frame}
use Rattle.bsp_steps.specs.declared.given.Deed.{Deed}
use Rattle.bsp_steps.specs.Runs.{RunValue, AsGiven, Takes, placed, closing, after_prints}

abbrev pub Stepped : List Deed → RunValue → RunValue → Type 0
Stepped deeds v w = HasStepped member_frame (AsGiven deeds) (λ t. t) v w

-- a run that had printed something before takes the same superstep
pub stepped_after : (deeds : List Deed) (ps : List PrintValue) (v w : RunValue) → Stepped deeds v w
    → Stepped deeds (after_prints ps v) (after_prints ps w)
stepped_after deeds ps v w h = record {
  entries = h.entries;
  entered = record { tasks = h.entered.tasks; allowed = h.entered.allowed };
  state =
      ap (with_taken ps []) h.state
      ∙ ap as_kept (sym (superstep_taken (says_in member_frame v.most h.entries) ps [] (state_in (λ t. t) v)));
  sound = h.sound;
  most = h.most;
  limit = h.limit;
}

-- what was printed last is moved behind what was printed before: the run is the same
pub joined_same : (v s t : RunValue) (ps qs : List PrintValue) → after_prints ps s ≡ v → t ≡ record s { prints = [] } → qs ≡ ps ++ s.prints
    → after_prints qs t ≡ v
joined_same v s t ps qs is et eq =
    (λ i. after_prints (eq i) (et i))
    ∙ ap (λ (all : List PrintValue). record s { prints = all }) (append-nil (ps ++ s.prints))
    ∙ is

module _ {E : Type 0} where
  -- it was taken, or what was printed last stays behind what was printed before
  pub took : (v s w : RunValue) (qs : List PrintValue) (deeds : List Deed) (status : ℤ) (r : Result (Option JobStatus) E)
      → after_prints qs s ≡ v
      → OnOk r (Stepped deeds (placed s) w)
      → OnErr r (w ≡ s)
      → IfOk r (λ x. option_map status_seen x ≡ ended w)
      → MatchResult r (λ x. status ≡ closing (option_map status_seen x)) (λ e. status ≡ pos 6)
      → Takes v (after_prints qs w) deeds status
  took v s w qs deeds status (Ok x) is stepped memory so reported =
      inl (
        reported ∙ ap closing so,
        subst (λ (q : RunValue). Stepped deeds (placed q) (after_prints qs w)) is (stepped_after deeds qs (placed s) w stepped),
      )
  took v s w qs deeds status (Err e) is stepped memory so reported = inr (reported, ap (after_prints qs) memory ∙ is)

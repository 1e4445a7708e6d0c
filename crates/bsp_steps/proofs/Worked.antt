-- A run through all calls, worked out.
use Rattle.std.proofs.Common.{◌≡◌, ◌∙◌, ℕ, Bool, true, false, List, [], map, length, inl, inr, refl, sym, ap, arith}
use Rattle.std.specs.Prelude.{◌⊎◌, ℤ, pos, IsSome}
use Rattle.superstep_memory.specs.Paths.{is_rising}
use Rattle.programs.specs.Meaning.{Segment}
use Rattle.programs.specs.Superstep.{superstep}
use Rattle.programs.specs.History.{says_in, says_of}
use Rattle.programs.specs.Steps.{IsRunning, HasStepped, ended, state_in, as_kept}
use Rattle.programs.proofs.Exactly.{step_same}
use Rattle.task_bodies.specs.Bodies.{MemberValue, member_frame, path_of, framed}
use Rattle.task_bodies.proofs.Framed.{same_of}
use Rattle.bsp_steps.specs.declared.given.Deed.{Deed}
use Rattle.bsp_steps.specs.declared.given.Origin.{Origin}
use Rattle.bsp_steps.specs.Given.{Fit, given_of}
use Rattle.bsp_steps.specs.Runs.{RunValue, AsGiven, Takes, placed, closing}
use Rattle.bsp_steps.specs.Worked as worked
use Rattle.bsp_steps.proofs.TaskLaws.{leave_what_was_given}
use Rattle.bsp_steps.proofs.WorkedReads.{opening_is_worked_out, reads_are_worked_out, nothing_is_worked_out, report_is_worked_out}

-- what each task leaves: exactly what was given for it
abbrev does : List Deed → MemberValue Origin → List (List ℕ × List ℤ) → ℕ → Segment (MemberValue Origin)
does deeds t arrays step = framed arrays t (given_of deeds t.kept)

abbrev paths_rise : RunValue → Bool
paths_rise v = is_rising (map path_of (map (λ (t : MemberValue Origin). t) (placed v).tasks))

-- the run after a close
abbrev closed_so : List Deed → RunValue → RunValue
closed_so deeds v =
    let st = as_kept (superstep (says_of member_frame v.most (does deeds)) (state_in (λ t. t) (placed v))) in
    record {
      step = st.step;
      arrays = st.arrays;
      tasks = st.live;
      prints = st.prints;
      records = st.records;
      fault = st.fault;
      failed = false;
      most = v.most;
      limit = v.limit;
    }

-- a close leaves one run alone
only_so : (v : RunValue) (deeds : List Deed) (w : RunValue) → paths_rise v ≡ true
    → HasStepped member_frame (AsGiven deeds) (λ t. t) (placed v) w → w ≡ closed_so deeds v
only_so v deeds w rises h =
    let st = state_in (λ (t : MemberValue Origin). t) (placed v) in
    let exact : superstep (says_in member_frame v.most h.entries) st ≡ superstep (says_of member_frame v.most (does deeds)) st =
    step_same member_frame (AsGiven deeds) v.most (does deeds) (leave_what_was_given deeds) st h.entries rises h.entered in
    let state = h.state ∙ ap as_kept exact in
    λ i. record {
      step = (state i).step;
      arrays = (state i).arrays;
      tasks = (sym (same_of w.tasks) ∙ (λ j. (state j).live)) i;
      prints = (state i).prints;
      records = (state i).records;
      fault = (state i).fault;
      failed = h.sound i;
      most = h.most i;
      limit = h.limit i;
    }

gives : (v : RunValue) (deeds : List Deed) (status : ℤ) (next : RunValue) → IsRunning v → Fit deeds (length v.tasks) → paths_rise v ≡ true
    → closed_so deeds v ≡ next → closing (ended next) ≡ status → worked.Gives v deeds status next
gives v deeds status next running fit rises is number w s h = by (h.taken running fit)
  where
    by : Takes v w deeds s → ((s ≡ status) × (w ≡ next)) ⊎ ((s ≡ pos 6) × (w ≡ v))
    by (inl t) =
        let same : w ≡ next = only_so v deeds w rises t.1 ∙ is in
        inl (t.0 ∙ ap (λ (u : RunValue). closing (ended u)) same ∙ number, same)
    by (inr t) = inr t

unfit : (v : RunValue) (deeds : List Deed) → IsRunning v → (Fit deeds (length v.tasks) → ⊥) → worked.Refuses v deeds (pos 11)
unfit v deeds running not w s h = h.unfit running not

over : (v : RunValue) (deeds : List Deed) → IsSome (ended v) → worked.Refuses v deeds (pos 12)
over v deeds some w s h = h.over some

runs_begun : IsRunning worked.begun
runs_begun = record { sound = refl; going = refl }

runs_once : IsRunning worked.once
runs_once = record { sound = refl; going = refl }

runs_twice : IsRunning worked.twice
runs_twice = record { sound = refl; going = refl }

pub closes_are_worked_out : worked.ClosesAreWorkedOut
closes_are_worked_out = record {
  goes_on = gives _ _ _ _ runs_begun (record { count = refl; endings = refl }) refl refl refl;
  goes_on_again = gives _ _ _ _ runs_once (record { count = refl; endings = refl }) refl refl refl;
  limit = gives _ _ _ _ runs_twice (record { count = refl; endings = refl }) refl refl refl;
  ends = gives _ _ _ _ runs_twice (record { count = refl; endings = refl }) refl refl refl;
  own = gives _ _ _ _ runs_twice (record { count = refl; endings = refl }) refl refl refl;
  next = gives _ _ _ _ runs_twice (record { count = refl; endings = refl }) refl refl refl;
  last = gives _ _ _ _ runs_begun (record { count = refl; endings = refl }) refl refl refl;
  own_first = gives _ _ _ _ runs_begun (record { count = refl; endings = refl }) refl refl refl;
  no_cell = gives _ _ _ _ runs_begun (record { count = refl; endings = refl }) refl refl refl;
  no_array = gives _ _ _ _ runs_begun (record { count = refl; endings = refl }) refl refl refl;
  many = gives _ _ _ _ runs_begun (record { count = refl; endings = refl }) refl refl refl;
  sum = gives _ _ _ _ runs_begun (record { count = refl; endings = refl }) refl refl refl;
  few = unfit _ _ runs_twice (λ f. let n = f.count in omega (arith, n));
  more = unfit _ _ runs_twice (λ f. let n = f.count in omega (arith, n));
  two = unfit _ _ runs_twice (λ f. differ f.endings);
  fifteen = unfit _ _ runs_twice (λ f. differ f.endings);
  over = over worked.limited _ refl;
  over_too = over worked.done _ refl;
  after_fault = over (worked.faulted worked.begun 7 []) _ refl;
}
  where
    differ : false ≡ true → ⊥
    differ e = cc

pub calls_are_worked_out : worked.CallsAreWorkedOut
calls_are_worked_out = record {
  opening = opening_is_worked_out;
  closes = closes_are_worked_out;
  reads = reads_are_worked_out;
  nothing = nothing_is_worked_out;
  reports = report_is_worked_out;
}

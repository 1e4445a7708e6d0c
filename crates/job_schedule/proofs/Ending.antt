-- After the end of a job nothing is answered but the end of its tree, after a fault.
use Rattle.std.proofs.Common.{◌≡◌, ℕ, zero, suc, ◌<◌, ◌⊎◌, inl, inr, ⊎_elim, Bool, true, false, List, [], ◌∷◌, length, refl, sym, ap, subst, arith, ◌∙◌, Some, None, Option}
use Rattle.std.specs.Prelude.{if◌then◌else◌, ◌==◌, ◌&&◌, nat_lt, is_some}
use Rattle.std.proofs.lemmas.Bool.{ltb-true, lt-ltb, eqb-true}
use Rattle.std.proofs.lemmas.List.{get_or-set_same, length-set}
use Rattle.phase_records.specs.Status.{Status, Ended as HasEnded, Fault as HasFaulted, Limit as IsAtLimit}
use Rattle.phase_records.specs.ReportValue.{ReportValue}
use Rattle.tier_core.specs.declared.call.Played.{Played}
use Rattle.tier_core.specs.declared.call.Call.TheVariants as call
use Rattle.tier_core.specs.declared.call.Answer.{Answer as TreeAnswer}
use Rattle.tier_core.specs.declared.call.Answer.TheVariants as answer
use Rattle.tier_core.specs.declared.call.Progress.{Progress}
use Rattle.tier_core.specs.declared.call.Progress.TheVariants.{Idle, Begun}
use Rattle.tier_core.specs.declared.call.Step.TheVariants.{Begin, Go}
use Rattle.tier_core.specs.Turn.{turn}
use Rattle.tier_core.specs.Machine.{State as Tree, view_at, call_at, turn_at, played, is_active, is_due}
use Rattle.tier_core.specs.Run.{after, answer_to, may_begin, may_go, may_finish, is_idle, begun, finish_at, plan_ends}
use Rattle.tier_core.proofs.Turns.{not_both}
use Rattle.task_lang.specs.Meaning.{Task}
use Rattle.step_core.specs.Program.{Program}
use Rattle.step_core.specs.Superstep.{State, superstep, live_paths}
use Rattle.step_core.specs.JobMeaning.{initial}
use Rattle.programs.specs.Supersteps.{status, status_of, unless_ended, report_with, report_in}
use Rattle.step_core.specs.OrderValue.{has_synced, spawned_paths}
use Rattle.job_schedule.specs.declared.stage.Mode.{Mode}
use Rattle.job_schedule.specs.declared.stage.Mode.TheVariants as mode
use Rattle.job_schedule.specs.declared.stage.Move.{Move}
use Rattle.job_schedule.specs.declared.stage.Move.TheVariants.{Takes, Delivers, Calls, Advances, Closes, Ends}
use Rattle.job_schedule.specs.declared.step.JobStep.{JobStep}
use Rattle.job_schedule.specs.declared.step.JobStep.TheVariants.{Take, Deliver, Tree as TreeStep, Advance, Close}
use Rattle.job_schedule.specs.AnswerValue.{AnswerValue, Stepped, Finished, NotNow}
use Rattle.job_schedule.specs.ParticipantValue.{participant_at, all_over}
use Rattle.job_schedule.specs.World.{World, with_start, with_starts, empty_world, initial_world, child_from, with_children, noted, deed_of, called_by, advanced_by, ended_by, next_job, mode_after, closed_as, done_by, kind_of, kind_for, if_asked, by_mode, move_of, worker_of, step_of, answer_of, world_after, answers, reached}
use Rattle.job_schedule.specs.Laws.{is_tree_step, behind_the_end, has_faulted, end_of, FinishedIsTheEnd}
use Rattle.job_schedule.proofs.Jobs.{children_keep, initial_job}
use Rattle.job_schedule.proofs.Closing.{closes_by, closes_round, from_mode}

-- this worker may end the tree by this token
pub record CanEnd (w : World) (closer token : ℕ) : Type 0 where
  pub within : closer < 64
  pub known : token < length w.tree.views
  pub listed : token < length w.tree.calls
  pub idle : call_at w.tree.calls token ≡ Idle

-- a job that goes on hasn't faulted; who has advanced the root may end the tree
abbrev pub Ready : World → Mode → Type 0
Ready w mode.Runs = w.job.fault ≡ None
Ready w (mode.Advanced closer token) = (w.job.fault ≡ None) × CanEnd w closer token
Ready w (mode.Forces closer token) = CanEnd w closer token
Ready w mode.Over = Unit {0}

-- The end by force is answered.

begins : (w : World) (closer token : ℕ) → CanEnd w closer token → may_begin w.tree token call.Force ≡ true
begins w closer token can =
    ap (λ (b : Bool). b && (is_idle (call_at w.tree.calls token) && true)) (lt-ltb token (length w.tree.views) can.known)
    ∙ ap (λ (p : Progress). is_idle p && true) can.idle

force_reported : (w : World) (closer token : ℕ) → CanEnd w closer token
    → answer_to (after w.tree (Begin token call.Force)) (Go token) ≡ answer.Played (end_of w.tree)
force_reported w closer token can =
    let now : call_at (begun w.tree token call.Force).calls token ≡ Begun call.Force =
    get_or-set_same w.tree.calls token (Begun call.Force) Idle can.listed in
    let goes : may_go (begun w.tree token call.Force) token ≡ true =
    ap (λ (b : Bool). b && is_active (call_at (begun w.tree token call.Force).calls token)) (lt-ltb token (length w.tree.views) can.known)
    ∙ ap is_active now in
    ap (λ (b : Bool). answer_to (if b then begun w.tree token call.Force else w.tree) (Go token)) (begins w closer token can)
    ∙ ap (λ (b : Bool). if b then answer.Played (turn_at (begun w.tree token call.Force) token).answer else answer.NotNow) goes
    ∙ ap (λ (p : Progress). answer.Played (turn w.tree.parents w.tree.words p (view_at w.tree.views token)).answer) now

abbrev forced : World → ℕ → World
forced w token = record w { tree = after (after w.tree (Begin token call.Force)) (Go token); mode = mode.Over }

pub force_done : (w : World) (worker closer token : ℕ) → CanEnd w closer token
    → done_by w worker (Ends token) ≡ (Stepped (end_of w.tree), forced w token)
force_done w worker closer token can =
    ap (ended_by w (after (after w.tree (Begin token call.Force)) (Go token))) (force_reported w closer token can)

-- After the end.

over_step : (w : World) (x : JobStep) → w.mode ≡ mode.Over → step_of w x ≡ (NotNow, w)
over_step w x e =
    ap (if_asked w x)
    (ap (λ (m : Mode). if nat_lt (worker_of x) 64 then by_mode w (worker_of x) m else None) e ∙ by (nat_lt (worker_of x) 64))
  where
    by : (b : Bool) → ◌≡◌ {A = Option Move} (if b then None else None) None
    by true = refl
    by false = refl

behind_over : (w : World) (closer : ℕ) (end : Played) (ys : List JobStep) → w.mode ≡ mode.Over
    → answers w ys ≡ behind_the_end closer end false ys
behind_over w closer end [] e = refl
behind_over w closer end (y ∷ ys) e =
    ap (λ (r : AnswerValue × World). r.0 ∷ answers r.1 ys) (over_step w y e)
    ∙ ap (λ (reported : List AnswerValue). NotNow ∷ reported) (behind_over w closer end ys e)

-- one step, if the worker that has closed may end the tree
abbrev when_due : World → ℕ → Bool → AnswerValue × World
when_due w token b = if b then (Stepped (end_of w.tree), forced w token) else (NotNow, w)

abbrev ends_where : ℕ → Bool → Bool → Option Move
ends_where token a b = if a then (if b then Some (Ends token) else None) else None

due_step : (w : World) (closer token : ℕ) (x : JobStep) → w.mode ≡ mode.Forces closer token → CanEnd w closer token
    → step_of w x ≡ when_due w token (is_tree_step closer x)
due_step w closer token x e can =
    ap (if_asked w x) (ap (λ (m : Mode). if nat_lt (worker_of x) 64 then by_mode w (worker_of x) m else None) e) ∙ at x
  where
    other : (x : JobStep) (a b : Bool) → (kind_of x == 2) ≡ false → if_asked w x (ends_where token a b) ≡ (NotNow, w)
    other x true true k = ap (λ (c : Bool). if c then done_by w (worker_of x) (Ends token) else (NotNow, w)) k
    other x true false k = refl
    other x false b k = refl

    mine : (worker : ℕ) (b : Bool) → (worker == closer) ≡ b
        → if_asked w (TreeStep worker) (ends_where token (nat_lt worker 64) b) ≡ when_due w token b
    mine worker true q =
        let same : worker ≡ closer = eqb-true worker closer q in
        let here : worker < 64 = (let a = can.within in omega arith) in
        ap (λ (a : Bool). if_asked w (TreeStep worker) (ends_where token a true)) (lt-ltb worker 64 here)
        ∙ force_done w worker closer token can
    mine worker false q = by (nat_lt worker 64)
      where
        by : (a : Bool) → if_asked w (TreeStep worker) (ends_where token a false) ≡ (NotNow, w)
        by true = refl
        by false = refl

    at : (x : JobStep)
        → if_asked w x (ends_where token (nat_lt (worker_of x) 64) (worker_of x == closer)) ≡ when_due w token (is_tree_step closer x)
    at (Take worker) = other (Take worker) (nat_lt worker 64) (worker == closer) refl
    at (Deliver worker) = other (Deliver worker) (nat_lt worker 64) (worker == closer) refl
    at (TreeStep worker) = mine worker (worker == closer) refl
    at (Advance worker) = other (Advance worker) (nat_lt worker 64) (worker == closer) refl
    at (Close worker) = other (Close worker) (nat_lt worker 64) (worker == closer) refl

behind_due : (w : World) (closer token : ℕ) (ys : List JobStep) → w.mode ≡ mode.Forces closer token → CanEnd w closer token
    → answers w ys ≡ behind_the_end closer (end_of w.tree) true ys
behind_due w closer token [] e can = refl
behind_due w closer token (y ∷ ys) e can =
    ap (λ (r : AnswerValue × World). r.0 ∷ answers r.1 ys) (due_step w closer token y e can)
    ∙ by (is_tree_step closer y) (behind_due w closer token ys e can)
  where
    by : (b : Bool) → answers w ys ≡ behind_the_end closer (end_of w.tree) true ys
        → (when_due w token b).0 ∷ answers (when_due w token b).1 ys
        ≡ (if b then Stepped (end_of w.tree) ∷ behind_the_end closer (end_of w.tree) false ys
        else NotNow ∷ behind_the_end closer (end_of w.tree) true ys)
    by true rest =
        ap (λ (reported : List AnswerValue). Stepped (end_of w.tree) ∷ reported)
        (behind_over (forced w token) closer (end_of w.tree) ys refl)
    by false rest = ap (λ (reported : List AnswerValue). NotNow ∷ reported) rest

-- A round that is closed.

unfaulted : (limit step : ℕ) (live : List Task) (s : Status) → status_of limit step None live ≡ Some s → has_faulted s ≡ false
unfaulted limit step [] s e = let is : HasEnded step ≡ s = cc in ap has_faulted (sym is)
unfaulted limit step (t ∷ ts) s e = by _ e
  where
    by : (b : Bool) → (if b then Some (IsAtLimit step) else None) ≡ Some s → has_faulted s ≡ false
    by true k = let is : IsAtLimit step ≡ s = cc in ap has_faulted (sym is)
    by false k = cc

-- what a job that is over leaves says its status
over_reported : (w : World) (report : ReportValue) → w.job.fault ≡ None → is_some (status w.limit w.job) ≡ true
    → report_in w.limit (next_job w) ≡ Some report → has_faulted report.status ≡ false
over_reported w report none over h = by (status w.limit w.job) refl over h
  where
    same : (s : Status) → report_with w.job (Some s) ≡ Some report → s ≡ report.status
    same s k = cc

    by : (o : Option Status) → status w.limit w.job ≡ o → is_some o ≡ true
        → report_in w.limit (unless_ended o w.job (superstep w.program w.job)) ≡ Some report → has_faulted report.status ≡ false
    by None e k r = cc
    by (Some s) e k r =
        ap has_faulted (sym (same s (ap (report_with w.job) (sym e) ∙ r)))
        ∙ unfaulted w.limit w.job.step w.job.live s
        (ap (λ (f : Option (ℕ × List ℕ)). status_of w.limit w.job.step f w.job.live) (sym none) ∙ e)

abbrev IsReadyBy : World → ℕ → ℕ → Type 0
IsReadyBy w worker token = ((w.job.fault ≡ None) × (is_some (status w.limit w.job) ≡ true)) ⊎ CanEnd w worker token

ready_by : (w : World) (worker token : ℕ) (m : Mode) → w.mode ≡ m → Ready w m → move_of w worker ≡ Some (Closes token)
    → IsReadyBy w worker token
ready_by w worker token mode.Runs e ready h = ⊎_elim
    (λ (q : is_some (status w.limit w.job) ≡ true). inl (ready, q))
    (λ q. let bad : mode.Runs ≡ mode.Advanced worker token = sym e ∙ q.0 in cc)
    (from_mode w worker token h)
ready_by w worker token (mode.Advanced closer own) e ready h = ⊎_elim
    (λ (q : is_some (status w.limit w.job) ≡ true). inl (ready.0, q))
    (λ q.
    let is : mode.Advanced closer own ≡ mode.Advanced worker token = sym e ∙ q.0 in
    let who : closer ≡ worker = cc in
    let what : own ≡ token = cc in
    inr (subst (λ (t : ℕ). CanEnd w worker t) what (subst (λ (k : ℕ). CanEnd w k own) who ready.1)))
    (from_mode w worker token h)
ready_by w worker token (mode.Forces closer own) e ready h =
    by (nat_lt worker 64) (worker == closer) (ap (λ (m : Mode). if nat_lt worker 64 then by_mode w worker m else None) (sym e) ∙ h)
  where
    by : (a b : Bool) → (if a then (if b then Some (Ends own) else None) else None) ≡ Some (Closes token) → IsReadyBy w worker token
    by true true k = cc
    by true false k = cc
    by false b k = cc
ready_by w worker token mode.Over e ready h =
    by (nat_lt worker 64) (ap (λ (m : Mode). if nat_lt worker 64 then by_mode w worker m else None) (sym e) ∙ h)
  where
    by : (a : Bool) → (if a then None else None) ≡ Some (Closes token) → IsReadyBy w worker token
    by true k = cc
    by false k = cc

fault_can_end : (w : World) (worker token : ℕ) (report : ReportValue) → IsReadyBy w worker token
    → report_in w.limit (next_job w) ≡ Some report
    → has_faulted report.status ≡ true → CanEnd w worker token
fault_can_end w worker token report ready reported faulted =
    ⊎_elim (λ q. not_both (has_faulted report.status) faulted (over_reported w report q.0 q.1 reported)) (λ q. q) ready

same_tree : (w v : World) (closer token : ℕ) → v.tree ≡ w.tree → CanEnd w closer token → CanEnd v closer token
same_tree w v closer token e can = record {
  within = can.within;
  known = subst (λ (t : Tree). token < length t.views) (sym e) can.known;
  listed = subst (λ (t : Tree). token < length t.calls) (sym e) can.listed;
  idle = ap (λ (t : Tree). call_at t.calls token) e ∙ can.idle;
}

-- Each step keeps this.

within_of : (w : World) (worker : ℕ) (m : Move) → move_of w worker ≡ Some m → worker < 64
within_of w worker m h = by (nat_lt worker 64) refl h
  where
    by : (b : Bool) → nat_lt worker 64 ≡ b → (if b then by_mode w worker w.mode else None) ≡ Some m → worker < 64
    by true e k = ltb-true worker 64 e
    by false e k = cc

-- a move of a superstep
abbrev is_work : Move → Bool
is_work (Takes place) = true
is_work (Delivers place) = true
is_work (Calls place token c) = true
is_work (Advances place) = true
is_work (Closes token) = false
is_work (Ends token) = false

only_in_runs : (w : World) (worker : ℕ) (m : Move) → move_of w worker ≡ Some m → is_work m ≡ true → w.mode ≡ mode.Runs
only_in_runs w worker m h work = by (nat_lt worker 64) w.mode refl h
  where
    idle : (n : Move) → is_work n ≡ false → Some n ≡ Some m → {A : Type 0} → A
    idle n e k = let is : n ≡ m = cc in not_both (is_work m) work (ap is_work (sym is) ∙ e)

    in_mode : (t : Mode) → w.mode ≡ t → by_mode w worker t ≡ Some m → t ≡ mode.Runs
    in_mode mode.Runs e k = refl
    in_mode (mode.Advanced closer token) e k = if_so ((worker == closer) && all_over w.participants) k
      where
        if_so : (b : Bool) → (if b then Some (Closes token) else None) ≡ Some m → mode.Advanced closer token ≡ mode.Runs
        if_so true q = idle (Closes token) refl q
        if_so false q = cc
    in_mode (mode.Forces closer token) e k = if_so (worker == closer) k
      where
        if_so : (b : Bool) → (if b then Some (Ends token) else None) ≡ Some m → mode.Forces closer token ≡ mode.Runs
        if_so true q = idle (Ends token) refl q
        if_so false q = cc
    in_mode mode.Over e k = cc

    by : (b : Bool) (t : Mode) → w.mode ≡ t → (if b then by_mode w worker t else None) ≡ Some m → w.mode ≡ mode.Runs
    by true t e k = e ∙ in_mode t e k
    by false t e k = cc

abbrev IsReady : World → Type 0
IsReady v = Ready v v.mode

goes_on : (v : World) → v.mode ≡ mode.Runs → v.job.fault ≡ None → IsReady v
goes_on v runs none = subst (λ (m : Mode). Ready v m) (sym runs) none

children_mode : (w : World) (place : ℕ) (paths : List (List ℕ)) → (with_children w place paths).mode ≡ w.mode
children_mode w place [] = refl
children_mode w place (path ∷ paths) = children_mode (child_from w place path w.free) place paths ∙ by w.free
  where
    by : (free : List ℕ) → (child_from w place path free).mode ≡ w.mode
    by [] = refl
    by (token ∷ free) = refl

called_ready : (w : World) (worker place : ℕ) (tree : Tree) (a : TreeAnswer) → w.mode ≡ mode.Runs → w.job.fault ≡ None
    → IsReady (called_by w worker place tree a).1
called_ready w worker place tree answer.Begun runs none = goes_on (called_by w worker place tree answer.Begun).1 runs none
called_ready w worker place tree (answer.Played a) runs none = goes_on (called_by w worker place tree (answer.Played a)).1 runs none
called_ready w worker place tree answer.NotNow runs none = goes_on (called_by w worker place tree answer.NotNow).1 runs none

due_is_listed : (calls : List Progress) (token : ℕ) → is_due (call_at calls token) ≡ true → token < length calls
due_is_listed [] token e = cc
due_is_listed (c ∷ calls) zero e = omega arith
due_is_listed (c ∷ calls) (suc token) e = let a = due_is_listed calls token e in omega arith

both : (a b : Bool) → (a && b) ≡ true → (a ≡ true) × (b ≡ true)
both true b h = (refl, h)
both false b h = cc

advanced_ready : (w : World) (worker place : ℕ) → worker < 64 → w.mode ≡ mode.Runs → w.job.fault ≡ None
    → IsReady (done_by w worker (Advances place)).1
advanced_ready w worker place within runs none = by (may_finish w.tree token) refl
  where
    token : ℕ
    token = (participant_at w.participants place).token

    ends : Bool
    ends = plan_ends w.tree

    by : (b : Bool) → may_finish w.tree token ≡ b
        → IsReady (advanced_by w worker place (if b then played w.tree token (finish_at w.tree token ends) else w.tree)
        (if b then answer.Played (finish_at w.tree token ends).answer else answer.NotNow)).1
    by true e =
        let may = both (nat_lt token (length w.tree.views)) (is_due (call_at w.tree.calls token)) e in
        let listed = due_is_listed w.tree.calls token may.1 in
        let known = ltb-true token (length w.tree.views) may.0 in
        let long : length (played w.tree token (finish_at w.tree token ends)).calls ≡ length w.tree.calls =
        length-set w.tree.calls token Idle in
        let wide : length (played w.tree token (finish_at w.tree token ends)).views ≡ length w.tree.views =
        length-set w.tree.views token _ in (
          none,
          record {
            within = within;
            known = omega arith;
            listed = omega arith;
            idle = get_or-set_same w.tree.calls token Idle Idle listed;
          },
        )
    by false e = goes_on (advanced_by w worker place w.tree answer.NotNow).1 runs none

no_fault : (limit : ℕ) (st : State) → report_in limit st ≡ None → st.fault ≡ None
no_fault limit st e = by st.fault (status limit st) refl e
  where
    by : (f : Option (ℕ × List ℕ)) (o : Option Status) → status_of limit st.step f st.live ≡ o → report_with st o ≡ None → f ≡ None
    by None o k r = refl
    by (Some g) None k r = cc
    by (Some g) (Some s) k r = cc

closed_ready : (w : World) (worker token : ℕ) → IsReadyBy w worker token → IsReady (done_by w worker (Closes token)).1
closed_ready w worker token ready = by (report_in w.limit (next_job w)) refl
  where
    after_it : (v : World) (s : Status) → v.tree ≡ w.tree → (has_faulted s ≡ true → CanEnd w worker token)
        → Ready v (mode_after worker token s)
    after_it v (HasEnded steps) e can = tt
    after_it v (HasFaulted code step path) e can = same_tree w v worker token e (can refl)
    after_it v (IsAtLimit steps) e can = tt

    by : (o : Option ReportValue) → report_in w.limit (next_job w) ≡ o → IsReady (closed_as w worker token (next_job w) o).1
    by None e = no_fault w.limit (next_job w) e
    by (Some report) e =
        after_it (closed_as w worker token (next_job w) (Some report)).1 report.status refl (fault_can_end w worker token report ready e)

ended_ready : (w : World) (worker token : ℕ) (m : Mode) → w.mode ≡ m → Ready w m → move_of w worker ≡ Some (Ends token)
    → IsReady (done_by w worker (Ends token)).1
ended_ready w worker token m e ready h = at m e ready (ap (λ (n : Mode). if nat_lt worker 64 then by_mode w worker n else None) (sym e) ∙ h)
  where
    in_runs : (tree : Tree) (a : TreeAnswer) → w.mode ≡ mode.Runs → w.job.fault ≡ None → IsReady (ended_by w tree a).1
    in_runs tree answer.Begun runs none = goes_on (ended_by w tree answer.Begun).1 runs none
    in_runs tree (answer.Played a) runs none = tt
    in_runs tree answer.NotNow runs none = goes_on (ended_by w tree answer.NotNow).1 runs none

    at : (m : Mode) → w.mode ≡ m → Ready w m → (if nat_lt worker 64 then by_mode w worker m else None) ≡ Some (Ends token)
        → IsReady (done_by w worker (Ends token)).1
    at mode.Runs runs r k =
        in_runs (after (after w.tree (Begin token call.Force)) (Go token)) (answer_to (after w.tree (Begin token call.Force)) (Go token))
        runs r
    at (mode.Advanced closer own) q r k = by (nat_lt worker 64) ((worker == closer) && all_over w.participants) k
      where
        by : (a b : Bool) → (if a then (if b then Some (Closes own) else None) else None) ≡ Some (Ends token)
            → IsReady (done_by w worker (Ends token)).1
        by true true q = cc
        by true false q = cc
        by false b q = cc
    at (mode.Forces closer own) q r k = by (nat_lt worker 64) (worker == closer) refl k
      where
        by : (a b : Bool) → (worker == closer) ≡ b → (if a then (if b then Some (Ends own) else None) else None) ≡ Some (Ends token)
            → IsReady (done_by w worker (Ends token)).1
        by true true f q =
            let what : own ≡ token = cc in
            subst (λ (p : AnswerValue × World). IsReady p.1)
            (sym (force_done w worker closer token (subst (λ (t : ℕ). CanEnd w closer t) what r))) tt
        by true false f q = cc
        by false b f q = cc
    at mode.Over q r k = by (nat_lt worker 64) k
      where
        by : (a : Bool) → (if a then None else None) ≡ Some (Ends token) → IsReady (done_by w worker (Ends token)).1
        by true q = cc
        by false q = cc

in_runs : (w : World) → w.mode ≡ mode.Runs → IsReady w → w.job.fault ≡ None
in_runs w runs ready = subst (λ (m : Mode). Ready w m) runs ready

done_ready : (w : World) (worker : ℕ) (m : Move) → move_of w worker ≡ Some m → IsReady w → IsReady (done_by w worker m).1
done_ready w worker (Takes place) e ready =
    let runs = only_in_runs w worker (Takes place) e refl in
    goes_on (done_by w worker (Takes place)).1 runs (in_runs w runs ready)
done_ready w worker (Delivers place) e ready =
    let runs = only_in_runs w worker (Delivers place) e refl in
    let k =
    children_keep (noted w place (has_synced (deed_of w (participant_at w.participants place).path))) place
    (spawned_paths (deed_of w (participant_at w.participants place).path)) in
    goes_on (done_by w worker (Delivers place)).1
    (children_mode (noted w place (has_synced (deed_of w (participant_at w.participants place).path))) place (spawned_paths (deed_of w (participant_at w.participants place).path))
    ∙ runs)
    (ap (λ (st : State). st.fault) k.job ∙ in_runs w runs ready)
done_ready w worker (Calls place token c) e ready =
    let runs = only_in_runs w worker (Calls place token c) e refl in
    called_ready w worker place (after (after w.tree (Begin token c)) (Go token)) (answer_to (after w.tree (Begin token c)) (Go token)) runs
    (in_runs w runs ready)
done_ready w worker (Advances place) e ready =
    let runs = only_in_runs w worker (Advances place) e refl in
    advanced_ready w worker place (within_of w worker (Advances place) e) runs (in_runs w runs ready)
done_ready w worker (Closes token) e ready = closed_ready w worker token (ready_by w worker token w.mode refl ready e)
done_ready w worker (Ends token) e ready = ended_ready w worker token w.mode refl ready e

step_ready : (w : World) (x : JobStep) → IsReady w → IsReady (world_after w x)
step_ready w x ready = by (move_of w (worker_of x)) refl
  where
    if_so : (m : Move) (b : Bool) → move_of w (worker_of x) ≡ Some m → IsReady (if b then done_by w (worker_of x) m else (NotNow, w)).1
    if_so m true e = done_ready w (worker_of x) m e ready
    if_so m false e = ready

    by : (o : Option Move) → move_of w (worker_of x) ≡ o → IsReady (if_asked w x o).1
    by None e = ready
    by (Some m) e = if_so m (kind_of x == kind_for m) e

run_ready : (w : World) (xs : List JobStep) → IsReady w → IsReady (reached w xs)
run_ready w [] ready = ready
run_ready w (x ∷ xs) ready = run_ready (world_after w x) xs (step_ready w x ready)

starts_mode : (w : World) (paths : List (List ℕ)) → (with_starts w paths).mode ≡ w.mode
starts_mode w [] = refl
starts_mode w (path ∷ paths) = starts_mode (with_start w path) paths

pub reached_ready : (p : Program) (parents : List ℕ) (limit : ℕ) (xs : List JobStep)
    → Ready (reached (initial_world p parents limit) xs) (reached (initial_world p parents limit) xs).mode
reached_ready p parents limit xs =
    run_ready (initial_world p parents limit) xs
    (goes_on (initial_world p parents limit) (starts_mode (empty_world p parents limit) (live_paths (initial p)))
    (ap (λ (st : State). st.fault) (initial_job p parents limit)))

-- The law.

behind : (v : World) (worker token : ℕ) (s : Status) (ys : List JobStep) → v.mode ≡ mode_after worker token s
    → (has_faulted s ≡ true → CanEnd v worker token)
    → answers v ys ≡ behind_the_end worker (end_of v.tree) (has_faulted s) ys
behind v worker token (HasEnded steps) ys e can = behind_over v worker (end_of v.tree) ys e
behind v worker token (HasFaulted code step path) ys e can = behind_due v worker token ys e (can refl)
behind v worker token (IsAtLimit steps) ys e can = behind_over v worker (end_of v.tree) ys e

is_behind : (w : World) (x : JobStep) (report : ReportValue) (ys : List JobStep) → IsReady w → answer_of w x ≡ Finished report
    → answers (world_after w x) ys ≡ behind_the_end (worker_of x) (end_of w.tree) (has_faulted report.status) ys
is_behind w x report ys ready h =
    let c = closes_by w x (ap closes_round h) in
    let by_token = ready_by w (worker_of x) c.token w.mode refl ready c.move in
    ap (λ (r : AnswerValue × World). answers r.1 ys) c.reported
    ∙ by c.token by_token (report_in w.limit (next_job w)) refl (ap (λ (r : AnswerValue × World). r.0) (sym c.reported) ∙ h)
  where
    by : (token : ℕ) → IsReadyBy w (worker_of x) token → (o : Option ReportValue) → report_in w.limit (next_job w) ≡ o
        → (closed_as w (worker_of x) token (next_job w) o).0 ≡ Finished report
        → answers (closed_as w (worker_of x) token (next_job w) o).1 ys
        ≡ behind_the_end (worker_of x) (end_of w.tree) (has_faulted report.status) ys
    by token can None e k = cc
    by token can (Some r) e k =
        let same : r ≡ report = cc in
        behind (closed_as w (worker_of x) token (next_job w) (Some r)).1 (worker_of x) token r.status ys refl
        (λ f. same_tree w (closed_as w (worker_of x) token (next_job w) (Some r)).1 (worker_of x) token refl (fault_can_end w (worker_of x) token r can e f))
        ∙ ap (λ (q : ReportValue). behind_the_end (worker_of x) (end_of w.tree) (has_faulted q.status) ys) same

pub finished_is_the_end : FinishedIsTheEnd
finished_is_the_end p parents limit xs ys x report h =
    is_behind (reached (initial_world p parents limit) xs) x report ys (reached_ready p parents limit xs) h

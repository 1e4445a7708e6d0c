-- The job of a world is that of its supersteps so far, whatever the schedule.
use Rattle.std.proofs.Common.{◌≡◌, ℕ, zero, suc, ◌⊎◌, inl, inr, ⊎_elim, Bool, true, false, List, [], ◌∷◌, length, refl, sym, ap, subst, arith, ◌<◌, ◌∙◌, Some, None, Option}
use Rattle.std.specs.Prelude.{if◌then◌else◌, ◌==◌, slice_index_or}
use Rattle.std.specs.List.{Contains}
use Rattle.phase_records.specs.Status.{Status}
use Rattle.phase_records.specs.ReportValue.{ReportValue}
use Rattle.tier_core.specs.Machine.{State as Tree}
use Rattle.tier_core.specs.declared.call.Answer.{Answer as TreeAnswer}
use Rattle.tier_core.specs.declared.call.Answer.TheVariants as answer
use Rattle.tier_core.specs.declared.call.Step.TheVariants.{Begin, Go, Finish}
use Rattle.tier_core.specs.declared.call.Call.TheVariants as call
use Rattle.tier_core.specs.Run.{after, answer_to}
use Rattle.step_core.specs.Program.{Program}
use Rattle.step_core.specs.OrderValue.{has_synced, spawned_paths}
use Rattle.step_core.specs.Superstep.{State, superstep, live_paths, job_says}
use Rattle.step_core.specs.JobMeaning.{initial, so_far, report_of, starts}
use Rattle.programs.specs.Supersteps.{status, unless_ended, report_with, report_in}
use Rattle.programs.proofs.Runs.{ended_is_last}
use Rattle.job_schedule.specs.declared.stage.Move.{Move}
use Rattle.job_schedule.specs.declared.stage.Move.TheVariants.{Takes, Delivers, Calls, Advances, Closes, Ends}
use Rattle.job_schedule.specs.declared.step.JobStep.{JobStep}
use Rattle.job_schedule.specs.AnswerValue.{AnswerValue, Finished, NotNow}
use Rattle.job_schedule.specs.ParticipantValue.{participant_at}
use Rattle.job_schedule.specs.World.{World, with_starts, with_start, empty_world, initial_world, child_from, with_children, noted, deed_of, called_by, advanced_by, ended_by, next_job, closed_as, done_by, kind_of, kind_for, if_asked, move_of, worker_of, step_of, world_after, answer_of, answers, reached}
use Rattle.job_schedule.specs.Laws.{FinishedTellsTheJob}

pub record SameJob (w v : World) : Type 0 where
  pub program : v.program ≡ w.program
  pub limit : v.limit ≡ w.limit
  pub job : v.job ≡ w.job

same : (w : World) → SameJob w w
same w = record { program = refl; limit = refl; job = refl }

and_then : (u v w : World) → SameJob u v → SameJob v w → SameJob u w
and_then u v w h k = record { program = k.program ∙ h.program; limit = k.limit ∙ h.limit; job = k.job ∙ h.job }

starts_keep : (w : World) (paths : List (List ℕ)) → SameJob w (with_starts w paths)
starts_keep w [] = same w
starts_keep w (path ∷ paths) =
    and_then w (with_start w path) (with_starts w (path ∷ paths)) (record { program = refl; limit = refl; job = refl })
    (starts_keep (with_start w path) paths)

child_keeps : (w : World) (place : ℕ) (path free : List ℕ) → SameJob w (child_from w place path free)
child_keeps w place path [] = record { program = refl; limit = refl; job = refl }
child_keeps w place path (token ∷ free) = record { program = refl; limit = refl; job = refl }

pub children_keep : (w : World) (place : ℕ) (paths : List (List ℕ)) → SameJob w (with_children w place paths)
children_keep w place [] = same w
children_keep w place (path ∷ paths) =
    and_then w (child_from w place path w.free) (with_children w place (path ∷ paths)) (child_keeps w place path w.free)
    (children_keep (child_from w place path w.free) place paths)

called_keeps : (w : World) (worker place : ℕ) (tree : Tree) (a : TreeAnswer) → SameJob w (called_by w worker place tree a).1
called_keeps w worker place tree answer.Begun = record { program = refl; limit = refl; job = refl }
called_keeps w worker place tree (answer.Played a) = record { program = refl; limit = refl; job = refl }
called_keeps w worker place tree answer.NotNow = record { program = refl; limit = refl; job = refl }

advanced_keeps : (w : World) (worker place : ℕ) (tree : Tree) (a : TreeAnswer) → SameJob w (advanced_by w worker place tree a).1
advanced_keeps w worker place tree answer.Begun = record { program = refl; limit = refl; job = refl }
advanced_keeps w worker place tree (answer.Played a) = record { program = refl; limit = refl; job = refl }
advanced_keeps w worker place tree answer.NotNow = record { program = refl; limit = refl; job = refl }

ended_keeps : (w : World) (tree : Tree) (a : TreeAnswer) → SameJob w (ended_by w tree a).1
ended_keeps w tree answer.Begun = record { program = refl; limit = refl; job = refl }
ended_keeps w tree (answer.Played a) = record { program = refl; limit = refl; job = refl }
ended_keeps w tree answer.NotNow = record { program = refl; limit = refl; job = refl }

-- the same job, or one superstep more
pub record GoesOn (w v : World) : Type 0 where
  pub program : v.program ≡ w.program
  pub limit : v.limit ≡ w.limit
  pub job : (v.job ≡ w.job) ⊎ (v.job ≡ next_job w)

stays : (w v : World) → SameJob w v → GoesOn w v
stays w v h = record { program = h.program; limit = h.limit; job = inl h.job }

closed_goes : (w : World) (worker token : ℕ) (o : Option ReportValue) → GoesOn w (closed_as w worker token (next_job w) o).1
closed_goes w worker token None = record { program = refl; limit = refl; job = inr refl }
closed_goes w worker token (Some report) = record { program = refl; limit = refl; job = inr refl }

done_goes : (w : World) (worker : ℕ) (m : Move) → GoesOn w (done_by w worker m).1
done_goes w worker (Takes place) = stays w (done_by w worker (Takes place)).1 (record { program = refl; limit = refl; job = refl })
done_goes w worker (Delivers place) =
    let k =
    children_keep (noted w place (has_synced (deed_of w (participant_at w.participants place).path))) place
    (spawned_paths (deed_of w (participant_at w.participants place).path)) in
    stays w (done_by w worker (Delivers place)).1 (record { program = k.program; limit = k.limit; job = k.job })
done_goes w worker (Calls place token c) = stays w (done_by w worker (Calls place token c)).1
    (called_keeps w worker place (after (after w.tree (Begin token c)) (Go token)) (answer_to (after w.tree (Begin token c)) (Go token)))
done_goes w worker (Advances place) = stays w (done_by w worker (Advances place)).1
    (advanced_keeps w worker place (after w.tree (Finish (participant_at w.participants place).token)) (answer_to w.tree (Finish (participant_at w.participants place).token)))
done_goes w worker (Closes token) = closed_goes w worker token (report_in w.limit (next_job w))
done_goes w worker (Ends token) = stays w (done_by w worker (Ends token)).1
    (ended_keeps w (after (after w.tree (Begin token call.Force)) (Go token)) (answer_to (after w.tree (Begin token call.Force)) (Go token)))

pub step_goes : (w : World) (x : JobStep) → GoesOn w (world_after w x)
step_goes w x = by (move_of w (worker_of x))
  where
    if_so : (m : Move) (b : Bool) → GoesOn w (if b then done_by w (worker_of x) m else (NotNow, w)).1
    if_so m true = done_goes w (worker_of x) m
    if_so m false = stays w w (same w)

    by : (o : Option Move) → GoesOn w (if_asked w x o).1
    by None = stays w w (same w)
    by (Some m) = if_so m (kind_of x == kind_for m)

-- its job is that of the program after some supersteps
pub record IsOf (p : Program) (limit : ℕ) (w : World) : Type 0 where
  pub program : w.program ≡ p
  pub limited : w.limit ≡ limit
  pub job : (n : ℕ) × (w.job ≡ so_far p limit n)

one_more : (p : Program) (limit : ℕ) (w : World) (is : IsOf p limit w) → next_job w ≡ so_far p limit (suc is.job.0)
one_more p limit w is =
    ap (λ (st : State). unless_ended (status w.limit st) st (superstep w.program st)) is.job.1
    ∙ ap
    (λ (n : ℕ). unless_ended (status n (so_far p limit is.job.0)) (so_far p limit is.job.0) (superstep w.program (so_far p limit is.job.0)))
    is.limited
    ∙ ap
    (λ (q : Program). unless_ended (status limit (so_far p limit is.job.0)) (so_far p limit is.job.0) (superstep q (so_far p limit is.job.0)))
    is.program

pub step_is_of : (p : Program) (limit : ℕ) (w v : World) → IsOf p limit w → GoesOn w v → IsOf p limit v
step_is_of p limit w v is g = record {
  program = g.program ∙ is.program;
  limited = g.limit ∙ is.limited;
  job =
      ⊎_elim (λ (e : v.job ≡ w.job). (is.job.0, e ∙ is.job.1)) (λ (e : v.job ≡ next_job w). (suc is.job.0, e ∙ one_more p limit w is))
      g.job;
}

pub run_is_of : (p : Program) (limit : ℕ) (w : World) (xs : List JobStep) → IsOf p limit w → IsOf p limit (reached w xs)
run_is_of p limit w [] is = is
run_is_of p limit w (x ∷ xs) is = run_is_of p limit (world_after w x) xs (step_is_of p limit w (world_after w x) is (step_goes w x))

pub initial_is_of : (p : Program) (parents : List ℕ) (limit : ℕ) → IsOf p limit (initial_world p parents limit)
initial_is_of p parents limit =
    let k = starts_keep (empty_world p parents limit) (live_paths (initial p)) in
    record { program = k.program; limited = k.limit; job = (0, k.job) }

not_called : (w : World) (worker place : ℕ) (tree : Tree) (a : TreeAnswer) (report : ReportValue) {A : Type 0}
    → (called_by w worker place tree a).0 ≡ Finished report → A
not_called w worker place tree answer.Begun report h = cc
not_called w worker place tree (answer.Played a) report h = cc
not_called w worker place tree answer.NotNow report h = cc

not_advanced : (w : World) (worker place : ℕ) (tree : Tree) (a : TreeAnswer) (report : ReportValue) {A : Type 0}
    → (advanced_by w worker place tree a).0 ≡ Finished report → A
not_advanced w worker place tree answer.Begun report h = cc
not_advanced w worker place tree (answer.Played a) report h = cc
not_advanced w worker place tree answer.NotNow report h = cc

not_forced : (w : World) (tree : Tree) (a : TreeAnswer) (report : ReportValue) {A : Type 0} → (ended_by w tree a).0 ≡ Finished report → A
not_forced w tree answer.Begun report h = cc
not_forced w tree (answer.Played a) report h = cc
not_forced w tree answer.NotNow report h = cc

finishing : (w : World) (worker : ℕ) (m : Move) (report : ReportValue) → (done_by w worker m).0 ≡ Finished report
    → report_in w.limit (next_job w) ≡ Some report
finishing w worker (Takes place) report h = cc
finishing w worker (Delivers place) report h = cc
finishing w worker (Calls place token c) report h =
    not_called w worker place (after (after w.tree (Begin token c)) (Go token)) (answer_to (after w.tree (Begin token c)) (Go token)) report
    h
finishing w worker (Advances place) report h =
    not_advanced w worker place (after w.tree (Finish (participant_at w.participants place).token))
    (answer_to w.tree (Finish (participant_at w.participants place).token)) report h
finishing w worker (Closes token) report h = by (report_in w.limit (next_job w)) h
  where
    by : (o : Option ReportValue) → (closed_as w worker token (next_job w) o).0 ≡ Finished report → o ≡ Some report
    by None e = cc
    by (Some r) e = let k : r ≡ report = cc in ap Some k
finishing w worker (Ends token) report h =
    not_forced w (after (after w.tree (Begin token call.Force)) (Go token)) (answer_to (after w.tree (Begin token call.Force)) (Go token))
    report h

finished_from : (w : World) (x : JobStep) (report : ReportValue) → (step_of w x).0 ≡ Finished report
    → report_in w.limit (next_job w) ≡ Some report
finished_from w x report h = by (move_of w (worker_of x)) h
  where
    if_so : (m : Move) (b : Bool) → (if b then done_by w (worker_of x) m else (NotNow, w)).0 ≡ Finished report
        → report_in w.limit (next_job w) ≡ Some report
    if_so m true e = finishing w (worker_of x) m report e
    if_so m false e = cc

    by : (o : Option Move) → (if_asked w x o).0 ≡ Finished report → report_in w.limit (next_job w) ≡ Some report
    by None e = cc
    by (Some m) e = if_so m (kind_of x == kind_for m) e

-- a report in some superstep is that of the job
reports : (p : Program) (limit n : ℕ) (report : ReportValue) → report_in limit (so_far p limit n) ≡ Some report
    → report_of p limit ≡ Some report
reports p limit n report h = by (status limit (so_far p limit n)) refl
  where
    by : (o : Option Status) → status limit (so_far p limit n) ≡ o → report_of p limit ≡ Some report
    by None e = let bad : report_with (so_far p limit n) None ≡ Some report = ap (report_with (so_far p limit n)) (sym e) ∙ h in cc
    by (Some s) e = ap (report_in limit) (sym (ended_is_last (job_says p.plans) p.arrays (starts p) limit n s e)) ∙ h

finishes : (p : Program) (limit : ℕ) (w : World) (x : JobStep) (report : ReportValue) → IsOf p limit w → answer_of w x ≡ Finished report
    → report_of p limit ≡ Some report
finishes p limit w x report is h =
    reports p limit (suc is.job.0) report
    (ap (report_in limit) (sym (one_more p limit w is))
    ∙ (ap (λ (n : ℕ). report_in n (next_job w)) (sym is.limited) ∙ finished_from w x report h))

pub finished_tells_the_job : FinishedTellsTheJob
finished_tells_the_job p parents limit xs x report h =
    finishes p limit (reached (initial_world p parents limit) xs) x report
    (run_is_of p limit (initial_world p parents limit) xs (initial_is_of p parents limit)) h

-- wherever it is among the answers
listed : (p : Program) (limit : ℕ) (w : World) (xs : List JobStep) (k : ℕ) (report : ReportValue) → IsOf p limit w
    → k < length (answers w xs)
    → slice_index_or (answers w xs) k (Finished report) ≡ Finished report → report_of p limit ≡ Some report
listed p limit w [] k report is h e = absurd (omega arith)
listed p limit w (x ∷ xs) zero report is h e = finishes p limit w x report is e
listed p limit w (x ∷ xs) (suc k) report is h e =
    listed p limit (world_after w x) xs k report (step_is_of p limit w (world_after w x) is (step_goes w x)) (omega arith) e

pub answers_report : (p : Program) (parents : List ℕ) (limit : ℕ) (xs : List JobStep) (reported : List AnswerValue) (report : ReportValue)
    → reported ≡ answers (initial_world p parents limit) xs → Contains reported (Finished report) → report_of p limit ≡ Some report
answers_report p parents limit xs reported report e h =
    let here : Contains (answers (initial_world p parents limit) xs) (Finished report) =
    subst (λ (xs : List AnswerValue). Contains xs (Finished report)) e h in
    listed p limit (initial_world p parents limit) xs here.0 report (initial_is_of p parents limit) here.1 here.2

pub initial_job : (p : Program) (parents : List ℕ) (limit : ℕ) → (initial_world p parents limit).job ≡ initial p
initial_job p parents limit = (starts_keep (empty_world p parents limit) (live_paths (initial p))).job

-- An advance is followed by a close.
use Rattle.std.proofs.Common.{◌≡◌, ◌≢◌, ℕ, Bool, true, false, List, [], ◌∷◌, ◌++◌, refl, sym, ◌∙◌, ap, subst, Some, None, Option}
use Rattle.std.specs.Prelude.{if◌then◌else◌, ◌==◌}
use Rattle.phase_records.specs.ReportValue.{ReportValue}
use Rattle.tier_core.specs.declared.call.Played.{Played}
use Rattle.tier_core.specs.declared.call.Answer.{Answer as TreeAnswer}
use Rattle.tier_core.specs.declared.call.Answer.TheVariants as answer
use Rattle.tier_core.specs.declared.call.Call.TheVariants as call
use Rattle.tier_core.specs.declared.call.Step.TheVariants.{Begin, Go, Finish}
use Rattle.tier_core.specs.Machine.{State as Tree}
use Rattle.tier_core.specs.Run.{after, answer_to}
use Rattle.programs.specs.Supersteps.{report_in}
use Rattle.job_schedule.specs.declared.stage.Mode.TheVariants as mode
use Rattle.job_schedule.specs.declared.stage.Move.{Move}
use Rattle.job_schedule.specs.declared.stage.Move.TheVariants.{Takes, Delivers, Calls, Advances, Closes, Ends}
use Rattle.job_schedule.specs.declared.step.JobStep.{JobStep}
use Rattle.job_schedule.specs.declared.step.JobStep.TheVariants.{Close}
use Rattle.job_schedule.specs.AnswerValue.{Advanced, NotNow}
use Rattle.job_schedule.specs.ParticipantValue.{participant_at}
use Rattle.job_schedule.specs.World.{World, advanced_by, next_job, closed_as, done_by, kind_of, kind_for, if_asked, move_of, worker_of, answer_of, world_after, reached, initial_world}
use Rattle.job_laws.specs.Laws.{ClosesFollowAdvances}
use Rattle.job_laws.proofs.Claiming.{not_called, not_forced, not_closed, closing_misses_nothing}

abbrev IsAdvanced : ℕ → World → Type 0
IsAdvanced worker v = (token : ℕ) × (v.mode ≡ mode.Advanced worker token)

advanced_is : (w : World) (worker place : ℕ) (tree : Tree) (a : TreeAnswer) (played : Played)
    → (advanced_by w worker place tree a).0 ≡ Advanced played
    → IsAdvanced worker (advanced_by w worker place tree a).1
advanced_is w worker place tree answer.Begun played h = cc
advanced_is w worker place tree (answer.Played a) played h = ((participant_at w.participants place).token, refl)
advanced_is w worker place tree answer.NotNow played h = cc

move_advances : (w : World) (worker : ℕ) (m : Move) (played : Played) → (done_by w worker m).0 ≡ Advanced played
    → IsAdvanced worker (done_by w worker m).1
move_advances w worker (Takes place) played h = cc
move_advances w worker (Delivers place) played h = cc
move_advances w worker (Calls place token c) played h =
    not_called w worker place (after (after w.tree (Begin token c)) (Go token)) (answer_to (after w.tree (Begin token c)) (Go token)) played
    h
move_advances w worker (Advances place) played h =
    advanced_is w worker place (after w.tree (Finish (participant_at w.participants place).token))
    (answer_to w.tree (Finish (participant_at w.participants place).token)) played h
move_advances w worker (Closes token) played h = not_closed w worker token (next_job w) (report_in w.limit (next_job w)) played h
move_advances w worker (Ends token) played h =
    not_forced w (after (after w.tree (Begin token call.Force)) (Go token)) (answer_to (after w.tree (Begin token call.Force)) (Go token))
    played h

step_advances : (w : World) (x : JobStep) (played : Played) → answer_of w x ≡ Advanced played → IsAdvanced (worker_of x) (world_after w x)
step_advances w x played h = by (move_of w (worker_of x)) h
  where
    if_so : (m : Move) (b : Bool) → (if b then done_by w (worker_of x) m else (NotNow, w)).0 ≡ Advanced played
        → IsAdvanced (worker_of x) (if b then done_by w (worker_of x) m else (NotNow, w)).1
    if_so m true k = move_advances w (worker_of x) m played k
    if_so m false k = cc

    by : (o : Option Move) → (if_asked w x o).0 ≡ Advanced played → IsAdvanced (worker_of x) (if_asked w x o).1
    by None k = cc
    by (Some m) k = if_so m (kind_of x == kind_for m) k

-- a close that is its worker's move is answered
pub closed_answer : {A : Type 0} (w : World) (worker token : ℕ) (o : Option ReportValue)
    → (closed_as w worker token (next_job w) o).0 ≡ NotNow → A
closed_answer w worker token None h = cc
closed_answer w worker token (Some r) h = cc

close_answers : (w : World) (worker token : ℕ) → move_of w worker ≡ Some (Closes token) → answer_of w (Close worker) ≢ NotNow
close_answers w worker token e h =
    closed_answer w worker token (report_in w.limit (next_job w)) (ap (λ (o : Option Move). (if_asked w (Close worker) o).0) (sym e) ∙ h)

reached_last : (w : World) (xs : List JobStep) (x : JobStep) → reached w (xs ++ x ∷ []) ≡ world_after (reached w xs) x
reached_last w [] x = refl
reached_last w (y ∷ xs) x = reached_last (world_after w y) xs x

pub closes_follow_advances : ClosesFollowAdvances
closes_follow_advances p parents limit xs x played driven h =
    let w : World = reached (initial_world p parents limit) xs in
    let last = reached_last (initial_world p parents limit) xs x in
    let is = step_advances (reached (initial_world p parents limit) xs) x played h in
    let whole = closing_misses_nothing p parents limit (xs ++ x ∷ []) (worker_of x) is.0 driven (ap (λ (v : World). v.mode) last ∙ is.1) in
    close_answers (world_after w x) (worker_of x) is.0
    (subst (λ (v : World). move_of v (worker_of x) ≡ Some (Closes is.0)) last whole.closes)

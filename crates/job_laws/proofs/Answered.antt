-- The next step of a worker is answered.
use Rattle.std.proofs.Common.{◌≡◌, ◌≢◌, ℕ, ◌<◌, ◌≤◌, ⊎_elim, Bool, true, false, List, length, refl, sym, ◌∙◌, ap, subst, arith, Some, None, Option}
use Rattle.std.specs.Prelude.{if◌then◌else◌, ◌==◌, ◌&&◌, nat_lt, slice_index_or, is_some}
use Rattle.std.proofs.lemmas.Bool.{ltb-true, ltb-false, eq-eqb}
use Rattle.tier_core.specs.declared.call.Call.{Call}
use Rattle.tier_core.specs.declared.call.Call.TheVariants as call
use Rattle.tier_core.specs.declared.call.Played.{Played}
use Rattle.tier_core.specs.declared.call.Answer.{Answer as TreeAnswer}
use Rattle.tier_core.specs.declared.call.Answer.TheVariants as answer
use Rattle.tier_core.specs.declared.call.Step.TheVariants.{Begin, Go, Finish}
use Rattle.tier_core.specs.Run.{after, answer_to, may_finish, finish_at, plan_ends}
use Rattle.programs.specs.Supersteps.{status, report_in}
use Rattle.job_laws.specs.Roles.{Role}
use Rattle.job_schedule.specs.declared.stage.Stage.{Stage}
use Rattle.job_schedule.specs.declared.stage.Stage.TheVariants.{Waits, Taken, Polling, Joining, Arriving, Leaving, Over}
use Rattle.job_schedule.specs.declared.stage.Mode.{Mode}
use Rattle.job_schedule.specs.declared.stage.Mode.TheVariants as mode
use Rattle.job_schedule.specs.declared.stage.Move.{Move}
use Rattle.job_schedule.specs.declared.stage.Move.TheVariants.{Takes, Calls, Advances, Closes, Ends}
use Rattle.job_schedule.specs.AnswerValue.{AnswerValue, Stepped, Advanced, NotNow}
use Rattle.job_schedule.specs.ParticipantValue.{ParticipantValue, participant_at, child_at, all_over}
use Rattle.job_schedule.specs.Moves.{by_stage}
use Rattle.job_schedule.specs.World.{World, called_by, advanced_by, next_job, done_by, kind_of, kind_for, if_asked, by_participant, by_hand, by_mode, move_of, worker_of, reached, initial_world}
use Rattle.job_schedule.proofs.Ending.{Ready, force_done, reached_ready}
use Rattle.job_laws.specs.Working.{IsWorking, IsKept}
use Rattle.job_laws.specs.Laws.{NextStepsAreAnswered}
use Rattle.job_laws.proofs.Sharing.{no_participant_beyond}
use Rattle.job_laws.proofs.Calling.{IsCalled}
use Rattle.job_laws.proofs.Moving.{sits_at, poll_step, child_step, arrival_step, own_step, passage_call}
use Rattle.job_laws.proofs.Room.{AreFew, has_room}
use Rattle.job_laws.proofs.Claiming.{kept, light}
use Rattle.job_laws.proofs.Following.{closed_answer}

abbrev IsReported : World → ℕ → Option Move → Type 0
IsReported w worker None = Unit {0}
IsReported w worker (Some m) = (done_by w worker m).0 ≢ NotNow

stepped_reported : (a : AnswerValue) (played : Played) → a ≡ Stepped played → a ≢ NotNow
stepped_reported a played e h = let bad : Stepped played ≡ NotNow = sym e ∙ h in cc

module _ (parents : List ℕ) (w : World) (worker : ℕ) (tiers : length parents ≤ 64)
    (few : is_some (status w.limit w.job) ≡ false → AreFew w) where
  call_reported : (roles : List Role) (place i : ℕ) (c : Call) (role next : Role) (a : Played) → IsCalled w.tree roles i c role next a
      → (done_by w worker (Calls place i c)).0 ≢ NotNow
  call_reported roles place i c role next a called =
      stepped_reported (done_by w worker (Calls place i c)).0 a
      (ap (λ (t : TreeAnswer). (called_by w worker place (after (after w.tree (Begin i c)) (Go i)) t).0) called.reported)

  advance_reported : (place : ℕ) → may_finish w.tree (participant_at w.participants place).token ≡ true
      → (done_by w worker (Advances place)).0 ≢ NotNow
  advance_reported place due h =
      let token : ℕ = (participant_at w.participants place).token in
      let a : Played = (finish_at w.tree (participant_at w.participants place).token (plan_ends w.tree)).answer in
      let is : answer_to w.tree (Finish (participant_at w.participants place).token)
      ≡ answer.Played (finish_at w.tree (participant_at w.participants place).token (plan_ends w.tree)).answer =
      ap
      (λ (b : Bool). if b then answer.Played (finish_at w.tree (participant_at w.participants place).token (plan_ends w.tree)).answer
      else answer.NotNow)
      due in
      let reported : (done_by w worker (Advances place)).0
      ≡ Advanced (finish_at w.tree (participant_at w.participants place).token (plan_ends w.tree)).answer =
      ap (λ (t : TreeAnswer). (advanced_by w worker place (after w.tree (Finish (participant_at w.participants place).token)) t).0) is in
      let bad : Advanced (finish_at w.tree (participant_at w.participants place).token (plan_ends w.tree)).answer ≡ NotNow =
      sym reported ∙ h in
      cc

  stage_reported : (roles : List Role) (place : ℕ) (due : Bool) (stage : Stage) → IsWorking parents w roles
      → is_some (status w.limit w.job) ≡ false
      → place < length w.participants → (participant_at w.participants place).stage ≡ stage
      → may_finish w.tree (participant_at w.participants place).token ≡ due
      → IsReported w worker (by_stage (participant_at w.participants place) place due stage)
  stage_reported roles place due Waits is below h at e = tt
  stage_reported roles place due Taken is below h at e = λ k. cc
  stage_reported roles place due Polling is below h at e =
      let step = poll_step parents w roles worker place is h at in
      call_reported roles place (participant_at w.participants place).token call.Poll _ step.0 step.1.0 step.1.1
  stage_reported roles place due (Joining n) is below h at e =
      let capacity = has_room parents w roles place tiers (few below) is h (sits_at parents w roles worker place is h (Joining n) at).own in
      let step = child_step parents w roles worker place is h n at capacity in
      call_reported roles place (child_at (participant_at w.participants place).children n).token
      (call.Join (child_at (participant_at w.participants place).children n).home 1) step.role step.next step.a step.called
  stage_reported roles place due (Arriving n) is below h at e =
      let step = arrival_step parents w roles worker place is h n at in
      call_reported roles place (child_at (participant_at w.participants place).children n).token call.Arrive step.0 step.1.1.0 step.1.1.1.0
      step.1.1.1.1
  stage_reported roles place true Leaving is below h at e = advance_reported place e
  stage_reported roles place false Leaving is below h at e =
      let step = own_step parents w roles worker place is h at e in
      subst (λ (c : Call). (done_by w worker (Calls place (participant_at w.participants place).token c)).0 ≢ NotNow)
      (sym (passage_call parents w roles worker place is h (participant_at w.participants place).synced))
      (call_reported roles place (participant_at w.participants place).token _ step.0 step.1.1.0 step.1.1.1.0 step.1.1.1.1)
  stage_reported roles place due Over is below h at e = tt

  close_reported : (token : ℕ) → IsReported w worker (Some (Closes token))
  close_reported token h = closed_answer w worker token (report_in w.limit (next_job w)) h

  taking_reported : (b c : Bool) → IsReported w worker (if b then Some (Takes w.taken) else (if c then Some (Closes 0) else None))
  taking_reported true c = λ k. cc
  taking_reported false true = close_reported 0
  taking_reported false false = tt

  hand_reported : (hand : Option ℕ) → IsKept parents w mode.Runs → IsReported w worker (by_hand w hand)
  hand_reported None k = taking_reported (nat_lt w.taken (length w.participants)) (is_some (status w.limit w.job))
  hand_reported (Some place) k = by (nat_lt place (length w.participants)) refl
    where
      by : (b : Bool) → nat_lt place (length w.participants) ≡ b → IsReported w worker (by_hand w (Some place))
      by true e = ⊎_elim
          (λ q. let l = ltb-true place (length w.participants) e in let z = q.1 in absurd (omega arith))
          (λ q. stage_reported q.1.0 place _ (participant_at w.participants place).stage q.1.1 q.0 (ltb-true place (length w.participants) e) refl refl)
          k
      by false e =
          subst (λ (g : ParticipantValue). IsReported w worker (by_participant w g place))
          (sym (no_participant_beyond w.participants place (ltb-false place (length w.participants) e))) tt

  mode_reported : (m : Mode) → IsKept parents w m → Ready w m → IsReported w worker (by_mode w worker m)
  mode_reported mode.Runs k ready = hand_reported (slice_index_or w.hands worker None) k
  mode_reported (mode.Advanced closer token) k ready = by ((worker == closer) && all_over w.participants)
    where
      by : (b : Bool) → IsReported w worker (if b then Some (Closes token) else None)
      by true = close_reported token
      by false = tt
  mode_reported (mode.Forces closer token) k ready = by (worker == closer)
    where
      by : (b : Bool) → IsReported w worker (if b then Some (Ends token) else None)
      by true =
          stepped_reported (done_by w worker (Ends token)).0 _
          (ap (λ (r : AnswerValue × World). r.0) (force_done w worker closer token ready))
      by false = tt
  mode_reported mode.Over k ready = tt

  move_reported : IsKept parents w w.mode → Ready w w.mode → IsReported w worker (move_of w worker)
  move_reported k ready = by (nat_lt worker 64)
    where
      by : (b : Bool) → IsReported w worker (if b then by_mode w worker w.mode else None)
      by true = mode_reported w.mode k ready
      by false = tt

pub next_steps_are_answered : NextStepsAreAnswered
next_steps_are_answered p parents limit xs x m driven e same h =
    let w : World = reached (initial_world p parents limit) xs in
    let reported =
    move_reported parents w (worker_of x) driven.tiers.few (light p parents limit driven xs) (kept p parents limit driven xs)
    (reached_ready p parents limit xs) in
    let mine : IsReported w (worker_of x) (Some m) = subst (λ (o : Option Move). IsReported w (worker_of x) o) e reported in
    mine
    (sym
    (ap (λ (o : Option Move). (if_asked w x o).0) e
    ∙ ap (λ (b : Bool). (if b then done_by w (worker_of x) m else (NotNow, w)).0) (eq-eqb (kind_of x) (kind_for m) same))
    ∙ h)

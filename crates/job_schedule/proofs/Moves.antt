-- Each move that a worker may take is of a participant that is there, and of a call that may be begun.
use Rattle.std.proofs.Common.{◌≡◌, ℕ, zero, suc, ◌<◌, ◌≤◌, Bool, true, false, List, [], ◌∷◌, length, refl, sym, ap, ◌∙◌, subst, arith, Some, None, Option}
use Rattle.std.specs.Prelude.{nat_lt, if◌then◌else◌, ◌==◌, ◌&&◌, slice_index_or, is_some}
use Rattle.programs.specs.Supersteps.{status}
use Rattle.std.proofs.lemmas.Bool.{ltb-true, ltb-false}
use Rattle.job_schedule.specs.declared.stage.Mode.{Mode}
use Rattle.job_schedule.specs.declared.stage.Mode.TheVariants as mode
use Rattle.job_schedule.specs.declared.stage.Move.{Move}
use Rattle.job_schedule.specs.declared.stage.Move.TheVariants.{Takes, Closes, Ends}
use Rattle.job_schedule.specs.declared.stage.Stage.{Stage}
use Rattle.job_schedule.specs.declared.stage.Stage.TheVariants.{Waits, Taken, Polling, Joining, Arriving, Leaving, Over}
use Rattle.job_schedule.specs.ParticipantValue.{ParticipantValue, no_participant, participant_at, all_over, is_delivered}
use Rattle.job_schedule.specs.Moves.{passing, by_stage, kind_for, asked}
use Rattle.job_schedule.specs.declared.step.JobStep.{JobStep}
use Rattle.job_schedule.specs.AnswerValue.{NotNow}
use Rattle.job_schedule.specs.World.{World, by_participant, by_hand, by_mode, move_of, kind_of, worker_of, done_by, if_asked, step_of}
use Rattle.job_schedule.specs.Parts.{IsAllowed}

abbrev pub Allowed : World → Option Move → Type 0
Allowed w None = Unit {0}
Allowed w (Some m) = IsAllowed w m

no_participant_beyond : (gs : List ParticipantValue) (place : ℕ) → length gs ≤ place → participant_at gs place ≡ no_participant
no_participant_beyond [] place h = refl
no_participant_beyond (g ∷ gs) zero h = absurd (omega arith)
no_participant_beyond (g ∷ gs) (suc place) h = no_participant_beyond gs place (omega arith)

stage_allowed : (w : World) (g : ParticipantValue) (place : ℕ) (due : Bool) (stage : Stage) → place < length w.participants
    → w.mode ≡ mode.Runs
    → (participant_at w.participants place).stage ≡ stage → Allowed w (by_stage g place due stage)
stage_allowed w g place due Waits h m at = tt
stage_allowed w g place due Taken h m at = (h, at, m)
stage_allowed w g place due Polling h m at = ((h, tt), ap is_delivered at)
stage_allowed w g place due (Joining joined) h m at = ((h, (omega arith, omega arith)), ap is_delivered at)
stage_allowed w g place due (Arriving arrived) h m at = ((h, tt), ap is_delivered at)
stage_allowed w g place due Leaving h m at = by due g.synced
  where
    by : (due synced : Bool) → Allowed w (passing due place g.token synced)
    by true synced = (h, ap is_delivered at)
    by false true = ((h, tt), ap is_delivered at)
    by false false = ((h, tt), ap is_delivered at)
stage_allowed w g place due Over h m at = tt

hand_allowed : (w : World) (hand : Option ℕ) → w.mode ≡ mode.Runs → Allowed w (by_hand w hand)
hand_allowed w None m = by (nat_lt w.taken (length w.participants)) (is_some (status w.limit w.job)) refl refl
  where
    by : (b c : Bool) → nat_lt w.taken (length w.participants) ≡ b → is_some (status w.limit w.job) ≡ c
        → Allowed w (if b then Some (Takes w.taken) else (if c then Some (Closes 0) else None))
    by true c e f = (ltb-true w.taken (length w.participants) e, refl)
    by false true e f = λ on. let bad : false ≡ true = sym (ap is_some on) ∙ f in cc
    by false false e f = tt
hand_allowed w (Some place) m = by (nat_lt place (length w.participants)) refl
  where
    by : (b : Bool) → nat_lt place (length w.participants) ≡ b → Allowed w (by_hand w (Some place))
    by true e =
        stage_allowed w (participant_at w.participants place) place _ (participant_at w.participants place).stage
        (ltb-true place (length w.participants) e) m refl
    by false e =
        subst (λ (g : ParticipantValue). Allowed w (by_participant w g place))
        (sym (no_participant_beyond w.participants place (ltb-false place (length w.participants) e))) tt

pub move_allowed : (w : World) (worker : ℕ) → Allowed w (move_of w worker)
move_allowed w worker = by (nat_lt worker 64)
  where
    in_mode : (m : Mode) → w.mode ≡ m → Allowed w (by_mode w worker m)
    in_mode mode.Runs at = hand_allowed w (slice_index_or w.hands worker None) at
    in_mode (mode.Advanced closer token) at = if_so (worker == closer) (all_over w.participants) refl
      where
        if_so : (a b : Bool) → all_over w.participants ≡ b → Allowed w (if a && b then Some (Closes token) else None)
        if_so true true over = λ on. over
        if_so true false over = tt
        if_so false b over = tt
    in_mode (mode.Forces closer token) at = if_so (worker == closer)
      where
        if_so : (b : Bool) → Allowed w (if b then Some (Ends token) else None)
        if_so true = tt
        if_so false = tt
    in_mode mode.Over at = tt

    by : (b : Bool) → Allowed w (if b then by_mode w worker w.mode else None)
    by true = in_mode w.mode refl
    by false = tt

pub asked_allowed : (w : World) (kind : ℕ) (o : Option Move) (m : Move) → Allowed w o → Some m ≡ asked kind o → IsAllowed w m
asked_allowed w kind None m a e = cc
asked_allowed w kind (Some n) m a e = by (kind == kind_for n) e
  where
    by : (b : Bool) → Some m ≡ (if b then Some n else None) → IsAllowed w m
    by true e = let is : n ≡ m = cc in subst (IsAllowed w) is a
    by false e = cc

taken_step : (w : World) (x : JobStep) (o : Option Move) (m : Move) → Some m ≡ asked (kind_of x) o
    → done_by w (worker_of x) m ≡ if_asked w x o
taken_step w x None m e = absurd cc
taken_step w x (Some n) m e = by (kind_of x == kind_for n) e
  where
    by : (b : Bool) → Some m ≡ (if b then Some n else None)
        → done_by w (worker_of x) m ≡ (if b then done_by w (worker_of x) n else (NotNow, w))
    by true e = let is : n ≡ m = cc in ap (done_by w (worker_of x)) (sym is)
    by false e = absurd cc

-- the move that a step takes is what the step does
pub step_taken : (w : World) (x : JobStep) (kind worker : ℕ) (o : Option Move) (m : Move) → kind ≡ kind_of x → worker ≡ worker_of x
    → o ≡ move_of w worker
    → Some m ≡ asked kind o → done_by w worker m ≡ step_of w x
step_taken w x kind worker o m k who next e =
    ap (λ (n : ℕ). done_by w n m) who
    ∙ taken_step w x (move_of w (worker_of x)) m (e ∙ (ap (λ (n : ℕ). asked n o) k ∙ ap (asked (kind_of x)) (next ∙ ap (move_of w) who)))

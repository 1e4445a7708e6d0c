-- A round is closed by the worker that advanced the root last, and by nobody else.
use Rattle.std.proofs.Common.{◌≡◌, ℕ, ◌⊎◌, inl, inr, ⊎_elim, Bool, true, false, refl, sym, ap, ◌∙◌, Some, None, Option}
use Rattle.std.specs.Prelude.{if◌then◌else◌, ◌==◌, ◌&&◌, nat_lt, is_some, length, slice_index_or}
use Rattle.std.proofs.lemmas.Bool.{eqb-true}
use Rattle.phase_records.specs.Status.{Status}
use Rattle.phase_records.specs.ReportValue.{ReportValue}
use Rattle.tier_core.specs.Machine.{State as Tree}
use Rattle.tier_core.specs.declared.call.Answer.{Answer as TreeAnswer}
use Rattle.tier_core.specs.declared.call.Answer.TheVariants as answer
use Rattle.tier_core.specs.declared.call.Step.TheVariants.{Begin, Go, Finish}
use Rattle.tier_core.specs.declared.call.Call.TheVariants as call
use Rattle.tier_core.specs.Run.{after, answer_to}
use Rattle.tier_core.proofs.Turns.{not_both}
use Rattle.step_core.specs.Superstep.{superstep}
use Rattle.programs.specs.Supersteps.{status, unless_ended, report_with, report_in}
use Rattle.job_schedule.specs.declared.stage.Mode.{Mode}
use Rattle.job_schedule.specs.declared.stage.Mode.TheVariants as mode
use Rattle.job_schedule.specs.declared.stage.Move.{Move}
use Rattle.job_schedule.specs.declared.stage.Move.TheVariants.{Takes, Delivers, Calls, Advances, Closes, Ends}
use Rattle.job_schedule.specs.declared.step.JobStep.{JobStep}
use Rattle.job_schedule.specs.declared.step.JobStep.TheVariants.{Take, Deliver, Tree as TreeStep, Advance, Close}
use Rattle.job_schedule.specs.AnswerValue.{AnswerValue, Took, Delivered, Stepped, Advanced, Closed, Finished, NotNow}
use Rattle.job_schedule.specs.declared.stage.Stage.{Stage}
use Rattle.job_schedule.specs.declared.stage.Stage.TheVariants.{Waits, Taken, Polling, Joining, Arriving, Leaving, Over}
use Rattle.job_schedule.specs.ParticipantValue.{ParticipantValue, participant_at, all_over}
use Rattle.job_schedule.specs.Moves.{by_stage, passing}
use Rattle.job_schedule.specs.World.{World, called_by, advanced_by, ended_by, next_job, closed_as, done_by, kind_of, kind_for, if_asked, move_of, worker_of, step_of, answer_of, by_mode, by_hand, initial_world, reached}
use Rattle.job_schedule.specs.Laws.{IsClosing, IsFinishing, RoundsAreClosedOnce}

not_called : (w : World) (worker place : ℕ) (tree : Tree) (a : TreeAnswer) {A : Type 0} → (called_by w worker place tree a).0 ≡ Closed → A
not_called w worker place tree answer.Begun h = cc
not_called w worker place tree (answer.Played a) h = cc
not_called w worker place tree answer.NotNow h = cc

not_advanced : (w : World) (worker place : ℕ) (tree : Tree) (a : TreeAnswer) {A : Type 0} → (advanced_by w worker place tree a).0 ≡ Closed
    → A
not_advanced w worker place tree answer.Begun h = cc
not_advanced w worker place tree (answer.Played a) h = cc
not_advanced w worker place tree answer.NotNow h = cc

not_forced : (w : World) (tree : Tree) (a : TreeAnswer) {A : Type 0} → (ended_by w tree a).0 ≡ Closed → A
not_forced w tree answer.Begun h = cc
not_forced w tree (answer.Played a) h = cc
not_forced w tree answer.NotNow h = cc

-- the move closes, and the job goes on
pub record Closes_ (w : World) (m : Move) (v : World) : Type 0 where
  pub token : ℕ
  pub move : m ≡ Closes token
  pub on : report_in w.limit (next_job w) ≡ None
  pub job : v.job ≡ next_job w
  pub runs : v.mode ≡ mode.Runs

closing_move : (w : World) (worker : ℕ) (m : Move) → (done_by w worker m).0 ≡ Closed → Closes_ w m (done_by w worker m).1
closing_move w worker (Takes place) h = cc
closing_move w worker (Delivers place) h = cc
closing_move w worker (Calls place token c) h =
    not_called w worker place (after (after w.tree (Begin token c)) (Go token)) (answer_to (after w.tree (Begin token c)) (Go token)) h
closing_move w worker (Advances place) h =
    not_advanced w worker place (after w.tree (Finish (participant_at w.participants place).token))
    (answer_to w.tree (Finish (participant_at w.participants place).token)) h
closing_move w worker (Closes token) h = by (report_in w.limit (next_job w)) refl h
  where
    by : (o : Option ReportValue) → report_in w.limit (next_job w) ≡ o → (closed_as w worker token (next_job w) o).0 ≡ Closed
        → Closes_ w (Closes token) (closed_as w worker token (next_job w) o).1
    by None e k = record { token = token; move = refl; on = e; job = refl; runs = refl }
    by (Some r) e k = cc
closing_move w worker (Ends token) h =
    not_forced w (after (after w.tree (Begin token call.Force)) (Go token)) (answer_to (after w.tree (Begin token call.Force)) (Go token)) h

abbrev pub FromMode : World → ℕ → ℕ → Mode → Type 0
FromMode w worker token m = (is_some (status w.limit w.job) ≡ true) ⊎ ((m ≡ mode.Advanced worker token) × (all_over w.participants ≡ true))

no_stage : (g : ParticipantValue) (place : ℕ) (due : Bool) (stage : Stage) (token : ℕ) {A : Type 0}
    → by_stage g place due stage ≡ Some (Closes token) → A
no_stage g place due Waits token h = cc
no_stage g place due Taken token h = cc
no_stage g place due Polling token h = cc
no_stage g place due (Joining joined) token h = cc
no_stage g place due (Arriving arrived) token h = cc
no_stage g place due Leaving token {A} h = by due h
  where
    by : (b : Bool) → passing b place g.token g.synced ≡ Some (Closes token) → A
    by true e = cc
    by false e = cc
no_stage g place due Over token h = cc

in_mode : (w : World) (worker token : ℕ) (m : Mode) → by_mode w worker m ≡ Some (Closes token) → FromMode w worker token m
in_mode w worker token mode.Runs h = by_the_hand (slice_index_or w.hands worker None) h
  where
    by : (b c : Bool) → (if b then Some (Takes w.taken) else (if c then Some (Closes 0) else None)) ≡ Some (Closes token) → c ≡ true
    by true c e = cc
    by false true e = refl
    by false false e = cc

    by_the_hand : (hand : Option ℕ) → by_hand w hand ≡ Some (Closes token) → FromMode w worker token mode.Runs
    by_the_hand None e = inl (by (nat_lt w.taken (length w.participants)) (is_some (status w.limit w.job)) e)
    by_the_hand (Some place) e = no_stage (participant_at w.participants place) place _ (participant_at w.participants place).stage token e
in_mode w worker token (mode.Advanced closer owner) h = by (worker == closer) (all_over w.participants) refl refl h
  where
    by : (b c : Bool) → (worker == closer) ≡ b → all_over w.participants ≡ c
        → (if b && c then Some (Closes owner) else None) ≡ Some (Closes token)
        → FromMode w worker token (mode.Advanced closer owner)
    by true true e f k =
        let same : worker ≡ closer = eqb-true worker closer e in
        let one : owner ≡ token = cc in
        inr (ap (λ (n : ℕ). mode.Advanced n owner) (sym same) ∙ ap (mode.Advanced worker) one, f)
    by true false e f k = cc
    by false c e f k = cc
in_mode w worker token (mode.Forces closer owner) h = by (worker == closer) h
  where
    by : (b : Bool) → (if b then Some (Ends owner) else None) ≡ Some (Closes token) → FromMode w worker token (mode.Forces closer owner)
    by true e = cc
    by false e = cc
in_mode w worker token mode.Over h = cc

pub from_mode : (w : World) (worker token : ℕ) → move_of w worker ≡ Some (Closes token) → FromMode w worker token w.mode
from_mode w worker token h = by (nat_lt worker 64) h
  where
    by : (b : Bool) → (if b then by_mode w worker w.mode else None) ≡ Some (Closes token) → FromMode w worker token w.mode
    by true e = in_mode w worker token w.mode e
    by false e = cc

-- the job goes on only if it hadn't ended, by one superstep
pub one_superstep : (w : World) → report_in w.limit (next_job w) ≡ None
    → (next_job w ≡ superstep w.program w.job) × (is_some (status w.limit w.job) ≡ false)
one_superstep w h = by (status w.limit w.job) refl h
  where
    ended : (o : Option Status) (s : Status) → o ≡ Some s → report_with w.job o ≡ None
        → (w.job ≡ superstep w.program w.job) × (true ≡ false)
    ended None s e k = cc
    ended (Some t) s e k = cc

    by : (o : Option Status) → status w.limit w.job ≡ o → report_in w.limit (unless_ended o w.job (superstep w.program w.job)) ≡ None
        → (unless_ended o w.job (superstep w.program w.job) ≡ superstep w.program w.job) × (is_some o ≡ false)
    by None e k = (refl, refl)
    by (Some s) e k = ended (status w.limit w.job) s e k

is_close : (x : JobStep) (token : ℕ) → (kind_of x == kind_for (Closes token)) ≡ true → x ≡ Close (worker_of x)
is_close (Take worker) token h = cc
is_close (Deliver worker) token h = cc
is_close (TreeStep worker) token h = cc
is_close (Advance worker) token h = cc
is_close (Close worker) token h = refl

abbrev Is : World → JobStep → World → Type 0
Is w x v = (x ≡ Close (worker_of x)) × ((token : ℕ) × (w.mode ≡ mode.Advanced (worker_of x) token)) × (all_over w.participants ≡ true)
    × (v.mode ≡ mode.Runs) × (v.job ≡ superstep w.program w.job)

is_closing : (w : World) (x : JobStep) → answer_of w x ≡ Closed → IsClosing w x
is_closing w x h =
    let all = whole (move_of w (worker_of x)) refl h in
    record { by = all.0; advanced = all.1; over = all.2; runs = all.3; step = all.4 }
  where
    at : (m : Move) → move_of w (worker_of x) ≡ Some m → (kind_of x == kind_for m) ≡ true → Closes_ w m (done_by w (worker_of x) m).1
        → Is w x (done_by w (worker_of x) m).1
    at m e k c =
        let one = one_superstep w c.on in
        let from = from_mode w (worker_of x) c.token (e ∙ ap (λ (n : Move). Some n) c.move) in
        let here : (w.mode ≡ mode.Advanced (worker_of x) c.token) × (all_over w.participants ≡ true) =
        ⊎_elim (λ (q : is_some (status w.limit w.job) ≡ true). let bad : true ≡ false = sym q ∙ one.1 in cc) (λ q. q) from in (
          is_close x c.token (ap (λ (n : Move). kind_of x == kind_for n) (sym c.move) ∙ k),
          (c.token, here.0),
          here.1,
          c.runs,
          c.job ∙ one.0,
        )

    if_so : (m : Move) (b : Bool) → move_of w (worker_of x) ≡ Some m → (kind_of x == kind_for m) ≡ b
        → (if b then done_by w (worker_of x) m else (NotNow, w)).0 ≡ Closed
        → Is w x (if b then done_by w (worker_of x) m else (NotNow, w)).1
    if_so m true e k c = at m e k (closing_move w (worker_of x) m c)
    if_so m false e k c = cc

    whole : (o : Option Move) → move_of w (worker_of x) ≡ o → (if_asked w x o).0 ≡ Closed → Is w x (if_asked w x o).1
    whole None e c = cc
    whole (Some m) e c = if_so m (kind_of x == kind_for m) e refl c

-- the answers of a step that closes a round
abbrev pub closes_round : AnswerValue → Bool
closes_round (Took path) = false
closes_round Delivered = false
closes_round (Stepped played) = false
closes_round (Advanced played) = false
closes_round Closed = true
closes_round (Finished report) = true
closes_round NotNow = false

call_closes_none : (w : World) (worker place : ℕ) (tree : Tree) (a : TreeAnswer) → closes_round (called_by w worker place tree a).0 ≡ false
call_closes_none w worker place tree answer.Begun = refl
call_closes_none w worker place tree (answer.Played a) = refl
call_closes_none w worker place tree answer.NotNow = refl

advance_closes_none : (w : World) (worker place : ℕ) (tree : Tree) (a : TreeAnswer)
    → closes_round (advanced_by w worker place tree a).0 ≡ false
advance_closes_none w worker place tree answer.Begun = refl
advance_closes_none w worker place tree (answer.Played a) = refl
advance_closes_none w worker place tree answer.NotNow = refl

force_closes_none : (w : World) (tree : Tree) (a : TreeAnswer) → closes_round (ended_by w tree a).0 ≡ false
force_closes_none w tree answer.Begun = refl
force_closes_none w tree (answer.Played a) = refl
force_closes_none w tree answer.NotNow = refl

closing_token : (w : World) (worker : ℕ) (m : Move) → closes_round (done_by w worker m).0 ≡ true → (token : ℕ) × (m ≡ Closes token)
closing_token w worker (Takes place) h = cc
closing_token w worker (Delivers place) h = cc
closing_token w worker (Calls place token c) h =
    not_both (closes_round (done_by w worker (Calls place token c)).0) h
    (call_closes_none w worker place (after (after w.tree (Begin token c)) (Go token)) (answer_to (after w.tree (Begin token c)) (Go token)))
closing_token w worker (Advances place) h =
    not_both (closes_round (done_by w worker (Advances place)).0) h
    (advance_closes_none w worker place (after w.tree (Finish (participant_at w.participants place).token)) (answer_to w.tree (Finish (participant_at w.participants place).token)))
closing_token w worker (Closes token) h = (token, refl)
closing_token w worker (Ends token) h =
    not_both (closes_round (done_by w worker (Ends token)).0) h
    (force_closes_none w (after (after w.tree (Begin token call.Force)) (Go token)) (answer_to (after w.tree (Begin token call.Force)) (Go token)))

-- a step that closes, and its result
pub record ClosesBy (w : World) (x : JobStep) (made : AnswerValue × World) : Type 0 where
  pub token : ℕ
  pub by : x ≡ Close (worker_of x)
  pub move : move_of w (worker_of x) ≡ Some (Closes token)
  pub reported : made ≡ done_by w (worker_of x) (Closes token)

pub closes_by : (w : World) (x : JobStep) → closes_round (answer_of w x) ≡ true → ClosesBy w x (step_of w x)
closes_by w x h = whole (move_of w (worker_of x)) refl h
  where
    if_so : (m : Move) (b : Bool) → move_of w (worker_of x) ≡ Some m → (kind_of x == kind_for m) ≡ b
        → closes_round (if b then done_by w (worker_of x) m else (NotNow, w)).0 ≡ true
        → ClosesBy w x (if b then done_by w (worker_of x) m else (NotNow, w))
    if_so m true e k c =
        let t = closing_token w (worker_of x) m c in
        record {
          token = t.0;
          by = is_close x t.0 (ap (λ (n : Move). kind_of x == kind_for n) (sym t.1) ∙ k);
          move = e ∙ ap (λ (n : Move). Some n) t.1;
          reported = ap (done_by w (worker_of x)) t.1;
        }
    if_so m false e k c = cc

    whole : (o : Option Move) → move_of w (worker_of x) ≡ o → closes_round (if_asked w x o).0 ≡ true → ClosesBy w x (if_asked w x o)
    whole None e c = cc
    whole (Some m) e c = if_so m (kind_of x == kind_for m) e refl c

pub closed_job : (w : World) (worker token : ℕ) (o : Option ReportValue) → (closed_as w worker token (next_job w) o).1.job ≡ next_job w
closed_job w worker token None = refl
closed_job w worker token (Some r) = refl

is_finishing : (w : World) (x : JobStep) (report : ReportValue) → answer_of w x ≡ Finished report → IsFinishing w x
is_finishing w x report h =
    let c = closes_by w x (ap closes_round h) in
    record {
      by = c.by;
      from = ⊎_elim (λ q. inl q) (λ q. inr ((c.token, q.0), q.1)) (from_mode w (worker_of x) c.token c.move);
      step =
          ap (λ (r : AnswerValue × World). r.1.job) c.reported
          ∙ closed_job w (worker_of x) c.token (report_in w.limit (next_job w));
    }

pub rounds_are_closed_once : RoundsAreClosedOnce
rounds_are_closed_once p parents limit xs x = (
  λ h. is_closing (reached (initial_world p parents limit) xs) x h,
  λ report h. is_finishing (reached (initial_world p parents limit) xs) x report h,
)

-- Each step of a worker keeps what is true of its world.
use Rattle.std.proofs.Common.{◌+◌, ◌≡◌, ℕ, ◌<◌, ◌≤◌, inr, ⊎_elim, Bool, true, false, List, [], ◌∷◌, length, map, refl, sym, ◌∙◌, ap, subst, arith, Some, None, Option}
use Rattle.std.specs.Prelude.{if◌then◌else◌, ◌==◌, ◌&&◌, nat_lt, slice_index_or, is_some}
use Rattle.std.proofs.lemmas.Bool.{ltb-true, ltb-false}
use Rattle.phase_records.specs.Status.{Status, Ended as HasEnded, Fault as HasFaulted, Limit as IsAtLimit}
use Rattle.phase_records.specs.ReportValue.{ReportValue}
use Rattle.tier_core.specs.declared.call.Answer.{Answer as TreeAnswer}
use Rattle.tier_core.specs.declared.call.Answer.TheVariants as answer
use Rattle.tier_steps.specs.Tally.{word_at}
use Rattle.tier_core.specs.declared.call.Call.{Call}
use Rattle.tier_core.specs.declared.call.Call.TheVariants as call
use Rattle.tier_core.specs.declared.call.Step.TheVariants.{Begin, Go, Finish}
use Rattle.tier_core.specs.Machine.{State as Tree}
use Rattle.tier_core.specs.Run.{after, answer_to, may_finish}
use Rattle.tier_core.proofs.Turns.{not_both}
use Rattle.step_core.specs.Superstep.{State, superstep, live_paths}
use Rattle.programs.specs.Supersteps.{status, report_with, report_in, unless_ended}
use Rattle.step_core.specs.OrderValue.{has_synced, spawned_paths}
use Rattle.job_laws.specs.Roles.{Role}
use Rattle.job_laws.specs.Cast.{turned}
use Rattle.job_schedule.specs.declared.stage.Stage.{Stage}
use Rattle.job_schedule.specs.declared.stage.Stage.TheVariants.{Waits, Taken, Polling, Joining, Arriving, Leaving, Over}
use Rattle.job_schedule.specs.declared.stage.Mode.{Mode}
use Rattle.job_schedule.specs.declared.stage.Mode.TheVariants as mode
use Rattle.job_schedule.specs.declared.stage.Move.{Move}
use Rattle.job_schedule.specs.declared.stage.Move.TheVariants.{Takes, Delivers, Calls, Advances, Closes, Ends}
use Rattle.job_schedule.specs.declared.step.JobStep.{JobStep}
use Rattle.job_schedule.specs.AnswerValue.{NotNow}
use Rattle.job_schedule.specs.ParticipantValue.{ParticipantValue, participant_at, participant_path, child_at, all_over}
use Rattle.job_schedule.specs.Moves.{by_stage}
use Rattle.job_schedule.specs.World.{World, deed_of, child_from, with_children, noted, called_by, advanced_by, ended_by, next_job, mode_after, closed_as, done_by, kind_of, kind_for, if_asked, by_participant, by_hand, by_mode, move_of, worker_of, world_after, reached}
use Rattle.job_laws.specs.Working.{IsWorking, IsKept}
use Rattle.job_laws.proofs.Sharing.{no_participant_beyond}
use Rattle.job_laws.proofs.Moving.{Works, sits_at, polling_works, joining_works, arriving_works, leaving_works}
use Rattle.job_laws.proofs.Room.{AreFew, has_room}
use Rattle.job_laws.proofs.Delivering.{taking_works, delivering_works}
use Rattle.job_laws.proofs.Advancing.{advancing_turns, advancing_mode}
use Rattle.job_laws.proofs.Renewing.{closing_works, no_status}

-- the same mode and job
pub record IsSame (w v : World) : Type 0 where
  pub mode : v.mode ≡ w.mode
  pub limit : v.limit ≡ w.limit
  pub job : v.job ≡ w.job

and_then : (u v w : World) → IsSame u v → IsSame v w → IsSame u w
and_then u v w h k = record { mode = k.mode ∙ h.mode; limit = k.limit ∙ h.limit; job = k.job ∙ h.job }

child_same : (w : World) (place : ℕ) (path free : List ℕ) → IsSame w (child_from w place path free)
child_same w place path [] = record { mode = refl; limit = refl; job = refl }
child_same w place path (token ∷ free) = record { mode = refl; limit = refl; job = refl }

children_same : (w : World) (place : ℕ) (paths : List (List ℕ)) → IsSame w (with_children w place paths)
children_same w place [] = record { mode = refl; limit = refl; job = refl }
children_same w place (path ∷ paths) =
    and_then w (child_from w place path w.free) (with_children w place (path ∷ paths)) (child_same w place path w.free)
    (children_same (child_from w place path w.free) place paths)

called_same : (w : World) (worker place : ℕ) (tree : Tree) (a : TreeAnswer) → IsSame w (called_by w worker place tree a).1
called_same w worker place tree answer.Begun = record { mode = refl; limit = refl; job = refl }
called_same w worker place tree (answer.Played a) = record { mode = refl; limit = refl; job = refl }
called_same w worker place tree answer.NotNow = record { mode = refl; limit = refl; job = refl }

abbrev Below : World → State → Type 0
Below w st = is_some (status w.limit st) ≡ false

advanced_status : (w : World) (worker place : ℕ) (tree : Tree) (a : TreeAnswer) → Below w w.job
    → Below (advanced_by w worker place tree a).1 (advanced_by w worker place tree a).1.job
advanced_status w worker place tree answer.Begun h = h
advanced_status w worker place tree (answer.Played a) h = h
advanced_status w worker place tree answer.NotNow h = h

abbrev Kept : List ℕ → World → Type 0
Kept parents v = IsKept parents v v.mode

-- a superstep that goes on
works_kept : (parents : List ℕ) (w v : World) → w.mode ≡ mode.Runs → Below w w.job → IsSame w v → Works parents v → Kept parents v
works_kept parents w v runs below same is =
    subst (λ (m : Mode). IsKept parents v m) (sym (same.mode ∙ runs))
    (inr (ap (λ (n : ℕ). is_some (status n v.job)) same.limit ∙ (ap (λ (st : State). is_some (status w.limit st)) same.job ∙ below), is))

-- a job that is over
over_kept : (parents : List ℕ) (v : World) (worker token : ℕ) (s : Status) → IsKept parents v (mode_after worker token s)
over_kept parents v worker token (HasEnded steps) = tt
over_kept parents v worker token (HasFaulted code step path) = tt
over_kept parents v worker token (IsAtLimit steps) = tt

-- once a job goes on, its participants are those of its live tasks
abbrev pub Stands : World → Type 0
Stands v = is_some (status v.limit v.job) ≡ false → map participant_path v.participants ≡ live_paths v.job

abbrev Keeps : List ℕ → World → ℕ → Option Move → Type 0
Keeps parents w worker None = Unit {0}
Keeps parents w worker (Some m) = Stands (done_by w worker m).1 → Kept parents (done_by w worker m).1

module _ (parents : List ℕ) (w : World) (worker : ℕ) (few : w.limit ≤ 2147483648) (within : worker < 64) (tiers : length parents ≤ 64)
    (light : is_some (status w.limit w.job) ≡ false → AreFew w) where
  module _ (roles : List Role) (is : IsWorking parents w roles) (below : Below w w.job) (runs : w.mode ≡ mode.Runs) where
    call_kept : (place token : ℕ) (c : Call) → Works parents (done_by w worker (Calls place token c)).1
        → Kept parents (done_by w worker (Calls place token c)).1
    call_kept place token c works =
        works_kept parents w (done_by w worker (Calls place token c)).1 runs below
        (called_same w worker place (after (after w.tree (Begin token c)) (Go token)) (answer_to (after w.tree (Begin token c)) (Go token)))
        works

    join_room : (place n : ℕ) → place < length w.participants → (participant_at w.participants place).stage ≡ Joining n
        → (word_at w.tree.words (participant_at w.participants place).home).parties + 1 ≤ 65535
    join_room place n h at =
        has_room parents w roles place tiers (light below) is h (sits_at parents w roles worker place is h (Joining n) at).own

    stage_keeps : (place : ℕ) (due : Bool) (stage : Stage) → place < length w.participants
        → (participant_at w.participants place).stage ≡ stage
        → may_finish w.tree (participant_at w.participants place).token ≡ due
        → Keeps parents w worker (by_stage (participant_at w.participants place) place due stage)
    stage_keeps place due Waits h at e = tt
    stage_keeps place due Taken h at e = λ s.
        works_kept parents w (done_by w worker (Delivers place)).1 runs below
        (let k =
        children_same (noted w place (has_synced (deed_of w (participant_at w.participants place).path))) place
        (spawned_paths (deed_of w (participant_at w.participants place).path)) in
        record { mode = k.mode; limit = k.limit; job = k.job })
        (delivering_works parents w roles worker place is h at)
    stage_keeps place due Polling h at e =
        λ s. call_kept place (participant_at w.participants place).token call.Poll (polling_works parents w roles worker place is h at)
    stage_keeps place due (Joining n) h at e =
        λ s. call_kept place (child_at (participant_at w.participants place).children n).token
        (call.Join (child_at (participant_at w.participants place).children n).home 1)
        (joining_works parents w roles worker place is h n at (join_room place n h at))
    stage_keeps place due (Arriving n) h at e =
        λ s. call_kept place (child_at (participant_at w.participants place).children n).token call.Arrive
        (arriving_works parents w roles worker place is h n at)
    stage_keeps place true Leaving h at e = λ s.
        subst (λ (m : Mode). IsKept parents (done_by w worker (Advances place)).1 m)
        (sym (advancing_mode parents w roles worker place is h at e)) (
          advanced_status w worker place (after w.tree (Finish (participant_at w.participants place).token))
              (answer_to w.tree (Finish (participant_at w.participants place).token)) below,
          within,
          advancing_turns parents w roles worker place is h at e few below,
        )
    stage_keeps place false Leaving h at e =
        λ s. call_kept place (participant_at w.participants place).token
        (if (participant_at w.participants place).synced then call.Arrive else call.Leave)
        (leaving_works parents w roles worker place is h at e)
    stage_keeps place due Over h at e = tt

    hand_keeps : (hand : Option ℕ) → Keeps parents w worker (by_hand w hand)
    hand_keeps None = by (nat_lt w.taken (length w.participants)) (is_some (status w.limit w.job)) refl below
      where
        by : (b c : Bool) → nat_lt w.taken (length w.participants) ≡ b → c ≡ false
            → Keeps parents w worker (if b then Some (Takes w.taken) else (if c then Some (Closes 0) else None))
        by true c e f =
            λ s. works_kept parents w (done_by w worker (Takes w.taken)).1 runs below (record { mode = refl; limit = refl; job = refl })
            (roles, taking_works parents w roles worker is (ltb-true w.taken (length w.participants) e))
        by false true e f = not_both true refl f
        by false false e f = tt
    hand_keeps (Some place) = by (nat_lt place (length w.participants)) refl
      where
        by : (b : Bool) → nat_lt place (length w.participants) ≡ b → Keeps parents w worker (by_hand w (Some place))
        by true e = stage_keeps place _ (participant_at w.participants place).stage (ltb-true place (length w.participants) e) refl refl
        by false e =
            subst (λ (g : ParticipantValue). Keeps parents w worker (by_participant w g place))
            (sym (no_participant_beyond w.participants place (ltb-false place (length w.participants) e))) tt

  -- a job that was over as it began
  idle_keeps : (hand : Option ℕ) → is_some (status w.limit w.job) ≡ true → length w.participants ≡ 0
      → Keeps parents w worker (by_hand w hand)
  idle_keeps None over none = by (nat_lt w.taken (length w.participants)) (is_some (status w.limit w.job)) refl
    where
      report : (o : Option Status) → status w.limit w.job ≡ o → is_some o ≡ true
          → Kept parents
          (closed_as w worker 0 (unless_ended o w.job (superstep w.program w.job)) (report_in w.limit (unless_ended o w.job (superstep w.program w.job)))).1
      report None e k = not_both false k refl
      report (Some s) e k =
          subst (λ (q : Option Status). Kept parents (closed_as w worker 0 w.job (report_with w.job q)).1) (sym e)
          (over_kept parents (closed_as w worker 0 w.job (report_with w.job (Some s))).1 worker 0 s)

      by : (b c : Bool) → nat_lt w.taken (length w.participants) ≡ b
          → Keeps parents w worker (if b then Some (Takes w.taken) else (if c then Some (Closes 0) else None))
      by true c e = let l = ltb-true w.taken (length w.participants) e in absurd (omega arith)
      by false true e = λ s. report (status w.limit w.job) refl over
      by false false e = tt
  idle_keeps (Some place) over none =
      subst (λ (g : ParticipantValue). Keeps parents w worker (by_participant w g place))
      (sym (no_participant_beyond w.participants place (omega arith))) tt

  mode_keeps : (m : Mode) → w.mode ≡ m → IsKept parents w m → Keeps parents w worker (by_mode w worker m)
  mode_keeps mode.Runs e k = ⊎_elim
      (λ q. idle_keeps (slice_index_or w.hands worker None) q.0 q.1)
      (λ q. hand_keeps q.1.0 q.1.1 q.0 e (slice_index_or w.hands worker None))
      k
  mode_keeps (mode.Advanced closer token) e k = by ((worker == closer) && all_over w.participants)
    where
      closes : (o : Option ReportValue) → report_in w.limit (next_job w) ≡ o → Stands (closed_as w worker token (next_job w) o).1
          → Kept parents (closed_as w worker token (next_job w) o).1
      closes (Some r) f s = over_kept parents (closed_as w worker token (next_job w) (Some r)).1 worker token r.status
      closes None f s =
          let next = closing_works parents w k.2.0 k.2.1 f (s (no_status (status w.limit (next_job w)) (next_job w) f)) in
          inr (next.0, (map turned k.2.0, next.1))

      by : (b : Bool) → Keeps parents w worker (if b then Some (Closes token) else None)
      by true = closes (report_in w.limit (next_job w)) refl
      by false = tt
  mode_keeps (mode.Forces closer token) e k = by (worker == closer)
    where
      ends : (tree : Tree) (a : TreeAnswer) → Kept parents (ended_by w tree a).1
      ends tree answer.Begun = subst (λ (m : Mode). IsKept parents (record w { tree = tree }) m) (sym e) tt
      ends tree (answer.Played a) = tt
      ends tree answer.NotNow = subst (λ (m : Mode). IsKept parents (record w { tree = tree }) m) (sym e) tt

      by : (b : Bool) → Keeps parents w worker (if b then Some (Ends token) else None)
      by true =
          λ s. ends (after (after w.tree (Begin token call.Force)) (Go token))
          (answer_to (after w.tree (Begin token call.Force)) (Go token))
      by false = tt
  mode_keeps mode.Over e k = tt

move_keeps : (parents : List ℕ) (w : World) (worker : ℕ) → w.limit ≤ 2147483648 → length parents ≤ 64
    → (is_some (status w.limit w.job) ≡ false → AreFew w) → Kept parents w → Keeps parents w worker (move_of w worker)
move_keeps parents w worker few tiers light k = by (nat_lt worker 64) refl
  where
    by : (b : Bool) → nat_lt worker 64 ≡ b → Keeps parents w worker (if b then by_mode w worker w.mode else None)
    by true e = mode_keeps parents w worker few (ltb-true worker 64 e) tiers light w.mode refl k
    by false e = tt

step_kept : (parents : List ℕ) (w : World) (x : JobStep) → w.limit ≤ 2147483648 → length parents ≤ 64
    → (is_some (status w.limit w.job) ≡ false → AreFew w) → Stands (world_after w x) → Kept parents w → Kept parents (world_after w x)
step_kept parents w x few tiers light s k = by (move_of w (worker_of x)) (move_keeps parents w (worker_of x) few tiers light k) s
  where
    if_so : (m : Move) (b : Bool) → Keeps parents w (worker_of x) (Some m) → Stands (if b then done_by w (worker_of x) m else (NotNow, w)).1
        → Kept parents (if b then done_by w (worker_of x) m else (NotNow, w)).1
    if_so m true h t = h t
    if_so m false h t = k

    by : (o : Option Move) → Keeps parents w (worker_of x) o → Stands (if_asked w x o).1 → Kept parents (if_asked w x o).1
    by None h t = k
    by (Some m) h t = if_so m (kind_of x == kind_for m) h t

pub run_kept : (parents : List ℕ) (w : World) (xs : List JobStep) → length parents ≤ 64
    → ((ys : List JobStep) → (reached w ys).limit ≤ 2147483648)
    → ((ys : List JobStep) → is_some (status (reached w ys).limit (reached w ys).job) ≡ false → AreFew (reached w ys))
    → ((ys : List JobStep) → Stands (reached w ys)) → Kept parents w → Kept parents (reached w xs)
run_kept parents w [] tiers few light s k = k
run_kept parents w (x ∷ xs) tiers few light s k =
    run_kept parents (world_after w x) xs tiers (λ ys. few (x ∷ ys)) (λ ys. light (x ∷ ys)) (λ ys. s (x ∷ ys))
    (step_kept parents w x (few []) tiers (light []) (s (x ∷ [])) k)

-- A spawned task is never refused at the tier of its spawner.
use Rattle.std.proofs.Common.{◌≡◌, ℕ, ◌<◌, ◌≤◌, ⊎_elim, Bool, true, false, List, length, refl, sym, ◌∙◌, ap, subst, arith, Some, None, Option}
use Rattle.std.specs.Prelude.{if◌then◌else◌, ◌==◌, ◌&&◌, nat_lt, slice_index_or, is_some}
use Rattle.std.proofs.lemmas.Bool.{ltb-true, ltb-false}
use Rattle.tier_core.specs.declared.call.Call.{Call}
use Rattle.tier_core.specs.declared.call.Call.TheVariants as call
use Rattle.tier_core.specs.declared.call.Played.{Played}
use Rattle.tier_core.specs.declared.call.Played.TheVariants.{GoesOn, Done, Passed, Waiting, Held, Full, AlreadyArrived, Ended, MustAdvance}
use Rattle.tier_core.specs.declared.call.Answer.{Answer as TreeAnswer}
use Rattle.tier_core.specs.declared.call.Answer.TheVariants as answer
use Rattle.tier_core.specs.declared.call.Step.TheVariants.{Begin, Go}
use Rattle.tier_core.specs.Machine.{State as Tree}
use Rattle.tier_core.specs.Run.{after, answer_to}
use Rattle.programs.specs.Supersteps.{status}
use Rattle.job_laws.specs.Roles.{Role}
use Rattle.job_schedule.specs.declared.stage.Stage.{Stage}
use Rattle.job_schedule.specs.declared.stage.Stage.TheVariants.{Waits, Taken, Polling, Joining, Arriving, Leaving, Over}
use Rattle.job_schedule.specs.declared.stage.Mode.{Mode}
use Rattle.job_schedule.specs.declared.stage.Mode.TheVariants as mode
use Rattle.job_schedule.specs.declared.stage.Move.{Move}
use Rattle.job_schedule.specs.declared.stage.Move.TheVariants.{Takes, Calls, Closes, Ends}
use Rattle.job_schedule.specs.declared.step.JobStep.{JobStep}
use Rattle.job_schedule.specs.AnswerValue.{Stepped, NotNow}
use Rattle.job_schedule.specs.ParticipantValue.{ParticipantValue, participant_at, child_at, is_refused, all_over}
use Rattle.job_schedule.specs.Moves.{by_stage}
use Rattle.job_schedule.specs.World.{World, called_by, done_by, kind_of, kind_for, if_asked, by_participant, by_hand, by_mode, move_of, worker_of, answer_of, reached, initial_world}
use Rattle.job_laws.specs.Working.{IsWorking, IsKept}
use Rattle.job_laws.specs.Laws.{SpawnsHaveRoomAtHome}
use Rattle.job_laws.proofs.Sharing.{no_participant_beyond}
use Rattle.job_laws.proofs.Moving.{home_admits, sits_at}
use Rattle.job_laws.proofs.Room.{AreFew, has_room}
use Rattle.job_laws.proofs.Claiming.{kept, light}

-- what a step of a call was answered
stepped_is : (w : World) (worker place : ℕ) (tree : Tree) (a : TreeAnswer) (played : Played)
    → (called_by w worker place tree a).0 ≡ Stepped played
    → a ≡ answer.Played played
stepped_is w worker place tree answer.Begun played h = cc
stepped_is w worker place tree (answer.Played a) played h = let e : a ≡ played = cc in ap answer.Played e
stepped_is w worker place tree answer.NotNow played h = cc

abbrev Admits : World → ℕ → Option Move → Type 0
Admits w worker o =
    (place token : ℕ) (played : Played) → o ≡ Some (Calls place token (call.Join (participant_at w.participants place).home 1))
    → (done_by w worker (Calls place token (call.Join (participant_at w.participants place).home 1))).0 ≡ Stepped played
    → is_refused played ≡ false

same_place : (a b i j : ℕ) (c d : Call) → ◌≡◌ {A = Option Move} (Some (Calls a i c)) (Some (Calls b j d)) → (a ≡ b) × (i ≡ j) × (c ≡ d)
same_place a b i j c d e = (cc, cc, cc)

same_home : (a b : ℕ) → ◌≡◌ {A = Call} (call.Join a 1) (call.Join b 1) → a ≡ b
same_home a b e = cc

module _ (parents : List ℕ) (w : World) (worker : ℕ) (tiers : length parents ≤ 64)
    (few : is_some (status w.limit w.job) ≡ false → AreFew w) where
  join_admits : (roles : List Role) (at n : ℕ) → IsWorking parents w roles → is_some (status w.limit w.job) ≡ false
      → at < length w.participants
      → (participant_at w.participants at).stage ≡ Joining n
      → Admits w worker
      (Some (Calls at (child_at (participant_at w.participants at).children n).token (call.Join (child_at (participant_at w.participants at).children n).home 1)))
  join_admits roles at n is below h stage place token played e reported =
      let same =
      same_place at place (child_at (participant_at w.participants at).children n).token token
      (call.Join (child_at (participant_at w.participants at).children n).home 1)
      (call.Join (participant_at w.participants place).home 1) e in
      let home : (child_at (participant_at w.participants at).children n).home ≡ (participant_at w.participants at).home =
      same_home (child_at (participant_at w.participants at).children n).home (participant_at w.participants place).home same.2
      ∙ ap (λ (q : ℕ). (participant_at w.participants q).home) (sym same.0) in
      let i : ℕ = (child_at (participant_at w.participants at).children n).token in
      let c : Call = call.Join (child_at (participant_at w.participants at).children n).home 1 in
      let here : (done_by w worker (Calls at (child_at (participant_at w.participants at).children n).token (call.Join (child_at (participant_at w.participants at).children n).home 1))).0
      ≡ Stepped played =
      ap (λ (q : ℕ). (done_by w worker (Calls q i c)).0) same.0
      ∙ ap (λ (j : ℕ). (done_by w worker (Calls place j c)).0) same.1
      ∙ ap (λ (d : Call). (done_by w worker (Calls place token d)).0) same.2
      ∙ reported in
      let capacity = has_room parents w roles at tiers (few below) is h (sits_at parents w roles worker at is h (Joining n) stage).own in
      home_admits parents w roles worker at is h n played stage capacity home
      (stepped_is w worker at (after (after w.tree (Begin i c)) (Go i)) (answer_to (after w.tree (Begin i c)) (Go i)) played here)

  stage_admits : (roles : List Role) (at : ℕ) (due : Bool) (stage : Stage) → IsWorking parents w roles
      → is_some (status w.limit w.job) ≡ false
      → at < length w.participants → (participant_at w.participants at).stage ≡ stage
      → Admits w worker (by_stage (participant_at w.participants at) at due stage)
  stage_admits roles at due Waits is below h e place token played f reported = cc
  stage_admits roles at due Taken is below h e place token played f reported = cc
  stage_admits roles at due Polling is below h e place token played f reported = cc
  stage_admits roles at due (Joining n) is below h e place token played f reported =
      join_admits roles at n is below h e place token played f reported
  stage_admits roles at due (Arriving n) is below h e place token played f reported = cc
  stage_admits roles at true Leaving is below h e place token played f reported = cc
  stage_admits roles at false Leaving is below h e place token played f reported = by (participant_at w.participants at).synced f
    where
      by : (b : Bool)
          → ◌≡◌ {A = Option Move} (Some (Calls at (participant_at w.participants at).token (if b then call.Arrive else call.Leave)))
          (Some (Calls place token (call.Join (participant_at w.participants place).home 1))) → is_refused played ≡ false
      by true k = cc
      by false k = cc
  stage_admits roles at due Over is below h e place token played f reported = cc

  taking_admits : (b c : Bool) → Admits w worker (if b then Some (Takes w.taken) else (if c then Some (Closes 0) else None))
  taking_admits true c place token played f reported = cc
  taking_admits false true place token played f reported = cc
  taking_admits false false place token played f reported = cc

  hand_admits : (hand : Option ℕ) → IsKept parents w mode.Runs → Admits w worker (by_hand w hand)
  hand_admits None k = taking_admits (nat_lt w.taken (length w.participants)) (is_some (status w.limit w.job))
  hand_admits (Some at) k = by (nat_lt at (length w.participants)) refl
    where
      none : Admits w worker None
      none place token played f reported = cc

      by : (b : Bool) → nat_lt at (length w.participants) ≡ b → Admits w worker (by_hand w (Some at))
      by true e = ⊎_elim
          (λ q. let l = ltb-true at (length w.participants) e in let z = q.1 in absurd (omega arith))
          (λ q. stage_admits q.1.0 at _ (participant_at w.participants at).stage q.1.1 q.0 (ltb-true at (length w.participants) e) refl)
          k
      by false e =
          subst (λ (g : ParticipantValue). Admits w worker (by_participant w g at))
          (sym (no_participant_beyond w.participants at (ltb-false at (length w.participants) e))) none

  mode_admits : (m : Mode) → IsKept parents w m → Admits w worker (by_mode w worker m)
  mode_admits mode.Runs k = hand_admits (slice_index_or w.hands worker None) k
  mode_admits (mode.Advanced closer owner) k = by ((worker == closer) && all_over w.participants)
    where
      by : (b : Bool) → Admits w worker (if b then Some (Closes owner) else None)
      by true = λ place token played f reported. cc
      by false = λ place token played f reported. cc
  mode_admits (mode.Forces closer owner) k = by (worker == closer)
    where
      by : (b : Bool) → Admits w worker (if b then Some (Ends owner) else None)
      by true = λ place token played f reported. cc
      by false = λ place token played f reported. cc
  mode_admits mode.Over k = λ place token played f reported. cc

  move_admits : IsKept parents w w.mode → Admits w worker (move_of w worker)
  move_admits k = by (nat_lt worker 64)
    where
      by : (b : Bool) → Admits w worker (if b then by_mode w worker w.mode else None)
      by true = mode_admits w.mode k
      by false = λ place token played f reported. cc

-- a step that is taken does its worker's move
asked : (w : World) (x : JobStep) (m : Move) (played : Played) → move_of w (worker_of x) ≡ Some m → answer_of w x ≡ Stepped played
    → (done_by w (worker_of x) m).0 ≡ Stepped played
asked w x m played e h = by (kind_of x == kind_for m) (ap (λ (o : Option Move). (if_asked w x o).0) (sym e) ∙ h)
  where
    by : (b : Bool) → (if b then done_by w (worker_of x) m else (NotNow, w)).0 ≡ Stepped played
        → (done_by w (worker_of x) m).0 ≡ Stepped played
    by true k = k
    by false k = cc

pub spawns_have_room_at_home : SpawnsHaveRoomAtHome
spawns_have_room_at_home p parents limit xs x place token played driven e h =
    let w : World = reached (initial_world p parents limit) xs in
    move_admits parents w (worker_of x) driven.tiers.few (light p parents limit driven xs) (kept p parents limit driven xs) place token
    played e
    (asked w x (Calls place token (call.Join (participant_at (reached (initial_world p parents limit) xs).participants place).home 1)) played e h)

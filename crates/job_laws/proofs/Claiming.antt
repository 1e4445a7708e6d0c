-- What schedules keep, for the advance and for the close.
use Rattle.std.proofs.Common.{◌≡◌, ℕ, zero, suc, ◌+◌, ◌<◌, ◌≤◌, ◌⊎◌, ⊎_elim, Bool, true, false, List, [], ◌∷◌, ◌++◌, length, set, map, refl, sym, ◌∙◌, ap, subst, arith, Some, None, Option}
use Rattle.std.specs.Prelude.{if◌then◌else◌, ◌==◌, ◌&&◌, nat_lt, slice_index_or, is_some}
use Rattle.std.proofs.lemmas.Bool.{ltb-true, ltb-false, lt-ltb, eq-eqb}
use Rattle.std.proofs.lemmas.List.{length-map, length-append}
use Rattle.flat_phaser.specs.Flat.{registered}
use Rattle.superstep_memory.specs.Paths.{is_rising}
use Rattle.phase_records.specs.ReportValue.{ReportValue}
use Rattle.tier_core.specs.declared.call.Played.{Played}
use Rattle.tier_core.specs.declared.call.Answer.{Answer as TreeAnswer}
use Rattle.tier_core.specs.declared.call.Answer.TheVariants as answer
use Rattle.tier_core.specs.declared.call.Call.{Call}
use Rattle.tier_core.specs.declared.call.Call.TheVariants as call
use Rattle.tier_core.specs.declared.call.Step.TheVariants.{Begin, Go}
use Rattle.tier_core.specs.Machine.{State as Tree}
use Rattle.tier_core.specs.Run.{after, answer_to, may_finish}
use Rattle.tier_core.proofs.Turns.{not_both}
use Rattle.tier_laws.specs.Frame.{flat_of}
use Rattle.task_lang.specs.Meaning.{Task, Segment, After}
use Rattle.programs.specs.Meaning.{Synced, Stopped, Faulted}
use Rattle.step_core.specs.Program.{Program}
use Rattle.step_core.specs.Superstep.{State, live_paths}
use Rattle.programs.specs.Superstep.{first_fault, or_later, left, spawned, stopped}
use Rattle.programs.specs.Supersteps.{status, report_in}
use Rattle.step_core.specs.OrderValue.{is_synced, spawned_paths}
use Rattle.step_core.specs.Laws.{paths_on, synced_path}
use Rattle.step_core.proofs.Apart.{live-paths-rise}
use Rattle.job_laws.specs.Roles.{Role}
use Rattle.job_schedule.specs.declared.stage.Stage.{Stage}
use Rattle.job_schedule.specs.declared.stage.Stage.TheVariants.{Waits, Taken, Polling, Joining, Arriving, Leaving, Over}
use Rattle.job_schedule.specs.declared.stage.Mode.{Mode}
use Rattle.job_schedule.specs.declared.stage.Mode.TheVariants as mode
use Rattle.job_schedule.specs.declared.stage.Move.{Move}
use Rattle.job_schedule.specs.declared.stage.Move.TheVariants.{Takes, Calls, Closes, Ends}
use Rattle.job_schedule.specs.declared.step.JobStep.{JobStep}
use Rattle.job_schedule.specs.AnswerValue.{Advanced, NotNow}
use Rattle.job_schedule.specs.ParticipantValue.{ParticipantValue, participant_at, participant_path, all_over, is_delivered, child_at, own_participant, child_participant, living_participants}
use Rattle.job_schedule.specs.Moves.{at_stage, by_stage}
use Rattle.job_schedule.specs.World.{World, called_by, ended_by, next_job, closed_as, done_by, kind_of, kind_for, if_asked, by_participant, by_hand, by_mode, move_of, worker_of, answer_of, reached, initial_world}
use Rattle.job_schedule.specs.Laws.{IsStanding}
use Rattle.job_schedule.proofs.Jobs.{IsOf, run_is_of, initial_is_of}
use Rattle.job_schedule.proofs.Participants.{living_paths}
use Rattle.job_schedule.proofs.Standing.{participants_are_the_live_tasks}
use Rattle.job_laws.specs.Working.{IsWorking, IsKept}
use Rattle.job_laws.specs.Laws.{IsDriven, WorldsAreKept, IsWhole, ClosingMissesNothing, deeds, IsCounted, AdvancesAreCounted}
use Rattle.job_laws.proofs.Sharing.{no_participant_beyond}
use Rattle.job_laws.proofs.Advancing.{members_live_on, all_delivered}
use Rattle.job_laws.proofs.Renewing.{over_at}
use Rattle.job_laws.proofs.Few.{are_few}
use Rattle.job_laws.proofs.Room.{AreFew}
use Rattle.job_laws.proofs.Initial.{initial_kept}
use Rattle.job_laws.proofs.Keeping.{run_kept}

-- what all reached worlds keep

module _ (p : Program) (parents : List ℕ) (limit : ℕ) (driven : IsDriven p parents limit) where
  limited : (xs : List JobStep) → (reached (initial_world p parents limit) xs).limit ≡ limit
  limited xs = (run_is_of p limit (initial_world p parents limit) xs (initial_is_of p parents limit)).limited

  not_some : {X : Type 0} (o : Option X) → is_some o ≡ false → o ≡ None
  not_some None e = refl
  not_some (Some x) e = not_both true refl e

  standing : (xs : List JobStep)
      → is_some (status (reached (initial_world p parents limit) xs).limit (reached (initial_world p parents limit) xs).job) ≡ false
      → IsStanding (reached (initial_world p parents limit) xs)
  standing xs e =
      participants_are_the_live_tasks p parents limit xs
      (not_some (status limit (reached (initial_world p parents limit) xs).job)
      (ap (λ (n : ℕ). is_some (status n (reached (initial_world p parents limit) xs).job)) (sym (limited xs)) ∙ e))

  pub light : (xs : List JobStep)
      → is_some (status (reached (initial_world p parents limit) xs).limit (reached (initial_world p parents limit) xs).job) ≡ false
      → AreFew (reached (initial_world p parents limit) xs)
  light xs e =
      are_few p limit (reached (initial_world p parents limit) xs) driven.starts
      (run_is_of p limit (initial_world p parents limit) xs (initial_is_of p parents limit)) (standing xs e)

  pub kept : (xs : List JobStep)
      → IsKept parents (reached (initial_world p parents limit) xs) (reached (initial_world p parents limit) xs).mode
  kept xs =
      run_kept parents (initial_world p parents limit) xs driven.tiers.few
      (λ ys. subst (λ (n : ℕ). n ≤ 2147483648) (sym (limited ys)) driven.few)
      light
      (λ ys e. (standing ys e).paths)
      (initial_kept p parents limit driven)

pub worlds_are_kept : WorldsAreKept
worlds_are_kept p parents limit xs driven = kept p parents limit driven xs

-- Closing misses nothing.

whole : (parents : List ℕ) (w : World) (worker token : ℕ) → w.mode ≡ mode.Advanced worker token → IsKept parents w w.mode
    → IsWhole w worker token
whole parents w worker token e k =
    let t : IsKept parents w (mode.Advanced worker token) = subst (λ (m : Mode). IsKept parents w m) e k in
    let over : all_over w.participants ≡ true = t.2.1.over in
    record {
      delivered = λ place l. ap is_delivered (over_at w.participants place over l);
      closes =
          ap (λ (b : Bool). if b then by_mode w worker w.mode else None) (lt-ltb worker 64 t.1)
          ∙ ap (by_mode w worker) e
          ∙ ap (λ (b : Bool). if (b && all_over w.participants) then Some (Closes token) else None) (eq-eqb worker worker refl)
          ∙ ap (λ (b : Bool). if b then Some (Closes token) else None) over;
    }

pub closing_misses_nothing : ClosingMissesNothing
closing_misses_nothing p parents limit xs worker token driven e =
    whole parents (reached (initial_world p parents limit) xs) worker token e (kept p parents limit driven xs)

-- The advance is counted.

one_path : (s : List ℕ × Segment) (a : After) (later : Option (ℕ × List ℕ)) → s.1.after ≡ a → or_later later s.0 a ≡ None
    → (length (synced_path s) + stopped a ≡ 1) × (later ≡ None)
one_path s (Synced t) later e h = (by, h)
  where
    by : length (synced_path s) + 0 ≡ 1
    by = ap (λ (a : After). length (if (is_synced a) then s.0 ∷ [] else []) + 0) e
one_path s Stopped later e h = (ap (λ (a : After). length (if (is_synced a) then s.0 ∷ [] else []) + 1) e, h)
one_path s (Faulted f) later e h = cc

parties : (ss : List (List ℕ × Segment)) → first_fault ss ≡ None → length (paths_on ss) + left ss ≡ length ss + spawned ss
parties [] e = refl
parties (s ∷ ss) e =
    let one = one_path s s.1.after (first_fault ss) refl e in
    let more = parties ss one.1 in
    let a = length-append (synced_path s) (spawned_paths s.1) in
    let b = length-append (synced_path s ++ spawned_paths s.1) (paths_on ss) in
    let c = spawned_long s.1 in
    let d = one.0 in
    omega arith
  where
    spawned_long : (g : Segment) → length (spawned_paths g) ≡ length g.spawns
    spawned_long g = length-map g.spawns (λ (t : Task). t.path)

-- the participants of one task at another stage live on alike
living_same : (gs : List ParticipantValue) (place : ℕ) (stage : Stage)
    → living_participants (set gs place (at_stage (participant_at gs place) stage)) ≡ living_participants gs
living_same [] place stage = refl
living_same (g ∷ gs) zero stage = refl
living_same (g ∷ gs) (suc place) stage =
    ap (λ (xs : List ParticipantValue). (own_participant g ++ map child_participant g.children) ++ xs) (living_same gs place stage)

over_delivered : (stage : Stage) → (stage ≡ Over) ⊎ (stage ≡ Leaving) → is_delivered stage ≡ true
over_delivered stage e = ⊎_elim (λ q. ap is_delivered q) (λ q. ap is_delivered q) e

counted : (parents : List ℕ) (p : Program) (limit : ℕ) (w : World) (roles : List Role) (worker place : ℕ) → IsWorking parents w roles
    → IsStanding w → IsOf p limit w
    → place < length w.participants → (participant_at w.participants place).stage ≡ Leaving
    → may_finish w.tree (participant_at w.participants place).token ≡ true → IsCounted w
counted parents p limit w roles worker place is stands of h at due = record {
  phase = is.phase;
  members = λ none.
      let ss : List (List ℕ × Segment) = deeds w in
      let rising : is_rising (live_paths w.job) ≡ true =
      ap (λ (st : State). is_rising (live_paths st)) of.job.1 ∙ live-paths-rise p limit of.job.0 in
      let paths : map participant_path (living_participants w.participants) ≡ paths_on (deeds w) =
      living_paths w.program w.job.arrays w.job.step w.participants w.job.live stands.paths rising
      (λ q l. let n =
      stands.noted q l
      (over_delivered (participant_at w.participants q).stage (all_delivered parents w roles worker place is h at due q l)) in
      record { synced = n.synced; children = n.children }) in
      let a : registered (flat_of w.tree) ≡ length (living_participants w.participants) =
      members_live_on parents w roles worker place is h at due ∙ ap length (living_same w.participants place Over) in
      let b : length (map participant_path (living_participants w.participants)) ≡ length (living_participants w.participants) =
      length-map (living_participants w.participants) participant_path in
      let c : length (map participant_path (living_participants w.participants)) ≡ length (paths_on (deeds w)) = ap length paths in
      let d = parties (deeds w) none in
      omega arith;
}

abbrev Tells : World → ℕ → Option Move → Type 0
Tells w worker None = Unit {0}
Tells w worker (Some m) = (played : Played) → (done_by w worker m).0 ≡ Advanced played → IsCounted w

pub not_called : {A : Type 0} (w : World) (worker place : ℕ) (tree : Tree) (a : TreeAnswer) (played : Played)
    → (called_by w worker place tree a).0 ≡ Advanced played → A
not_called w worker place tree answer.Begun played h = cc
not_called w worker place tree (answer.Played a) played h = cc
not_called w worker place tree answer.NotNow played h = cc

pub not_forced : {A : Type 0} (w : World) (tree : Tree) (a : TreeAnswer) (played : Played) → (ended_by w tree a).0 ≡ Advanced played → A
not_forced w tree answer.Begun played h = cc
not_forced w tree (answer.Played a) played h = cc
not_forced w tree answer.NotNow played h = cc

pub not_closed : {A : Type 0} (w : World) (worker token : ℕ) (job : State) (o : Option ReportValue) (played : Played)
    → (closed_as w worker token job o).0 ≡ Advanced played → A
not_closed w worker token job None played h = cc
not_closed w worker token job (Some r) played h = cc

module _ (parents : List ℕ) (p : Program) (limit : ℕ) (w : World) (worker : ℕ) (of : IsOf p limit w)
    (stands : is_some (status w.limit w.job) ≡ false → IsStanding w) where
  calls_tell : (place token : ℕ) (c : Call) → Tells w worker (Some (Calls place token c))
  calls_tell place token c = λ played h.
      not_called w worker place (after (after w.tree (Begin token c)) (Go token)) (answer_to (after w.tree (Begin token c)) (Go token))
      played h

  stage_tells : (roles : List Role) (place : ℕ) (due : Bool) (stage : Stage) → IsWorking parents w roles
      → is_some (status w.limit w.job) ≡ false
      → place < length w.participants → (participant_at w.participants place).stage ≡ stage
      → may_finish w.tree (participant_at w.participants place).token ≡ due
      → Tells w worker (by_stage (participant_at w.participants place) place due stage)
  stage_tells roles place due Waits is below h at e = tt
  stage_tells roles place due Taken is below h at e = λ played k. cc
  stage_tells roles place due Polling is below h at e = calls_tell place (participant_at w.participants place).token call.Poll
  stage_tells roles place due (Joining n) is below h at e =
      calls_tell place (child_at (participant_at w.participants place).children n).token
      (call.Join (child_at (participant_at w.participants place).children n).home 1)
  stage_tells roles place due (Arriving n) is below h at e =
      calls_tell place (child_at (participant_at w.participants place).children n).token call.Arrive
  stage_tells roles place true Leaving is below h at e =
      λ played k. counted parents p limit w roles worker place is (stands below) of h at e
  stage_tells roles place false Leaving is below h at e =
      calls_tell place (participant_at w.participants place).token
      (if (participant_at w.participants place).synced then call.Arrive else call.Leave)
  stage_tells roles place due Over is below h at e = tt

  taking_tells : (b c : Bool) → Tells w worker (if b then Some (Takes w.taken) else (if c then Some (Closes 0) else None))
  taking_tells true c = λ played k. cc
  taking_tells false true = λ played k. not_closed w worker 0 (next_job w) (report_in w.limit (next_job w)) played k
  taking_tells false false = tt

  hand_tells : (hand : Option ℕ) → IsKept parents w mode.Runs → Tells w worker (by_hand w hand)
  hand_tells None k = taking_tells (nat_lt w.taken (length w.participants)) (is_some (status w.limit w.job))
  hand_tells (Some place) k = by (nat_lt place (length w.participants)) refl
    where
      by : (b : Bool) → nat_lt place (length w.participants) ≡ b → Tells w worker (by_hand w (Some place))
      by true e = ⊎_elim
          (λ q. let l = ltb-true place (length w.participants) e in let z = q.1 in absurd (omega arith))
          (λ q. stage_tells q.1.0 place _ (participant_at w.participants place).stage q.1.1 q.0 (ltb-true place (length w.participants) e) refl refl)
          k
      by false e =
          subst (λ (g : ParticipantValue). Tells w worker (by_participant w g place))
          (sym (no_participant_beyond w.participants place (ltb-false place (length w.participants) e))) tt

  mode_tells : (m : Mode) → IsKept parents w m → Tells w worker (by_mode w worker m)
  mode_tells mode.Runs k = hand_tells (slice_index_or w.hands worker None) k
  mode_tells (mode.Advanced closer token) k = by ((worker == closer) && all_over w.participants)
    where
      by : (b : Bool) → Tells w worker (if b then Some (Closes token) else None)
      by true = λ played h. not_closed w worker token (next_job w) (report_in w.limit (next_job w)) played h
      by false = tt
  mode_tells (mode.Forces closer token) k = by (worker == closer)
    where
      by : (b : Bool) → Tells w worker (if b then Some (Ends token) else None)
      by true = λ played h.
          not_forced w (after (after w.tree (Begin token call.Force)) (Go token))
          (answer_to (after w.tree (Begin token call.Force)) (Go token)) played h
      by false = tt
  mode_tells mode.Over k = tt

  step_tells : (x : JobStep) (played : Played) → worker ≡ worker_of x → IsKept parents w w.mode → answer_of w x ≡ Advanced played
      → IsCounted w
  step_tells x played mine k h =
      by (move_of w worker) (moves (nat_lt worker 64)) (ap (λ (n : ℕ). (if_asked w x (move_of w n)).0) mine ∙ h)
    where
      moves : (b : Bool) → Tells w worker (if b then by_mode w worker w.mode else None)
      moves true = mode_tells w.mode k
      moves false = tt

      if_so : (m : Move) (b : Bool) → Tells w worker (Some m) → (if b then done_by w worker m else (NotNow, w)).0 ≡ Advanced played
          → IsCounted w
      if_so m true t e = t played e
      if_so m false t e = cc

      by : (o : Option Move) → Tells w worker o → (if_asked w x o).0 ≡ Advanced played → IsCounted w
      by None t e = cc
      by (Some m) t e =
          if_so m (kind_of x == kind_for m) t
          (ap (λ (n : ℕ). (if (kind_of x == kind_for m) then done_by w n m else (NotNow, w)).0) mine ∙ e)

pub advances_are_counted : AdvancesAreCounted
advances_are_counted p parents limit xs x played driven h =
    let w : World = reached (initial_world p parents limit) xs in
    step_tells parents p limit w (worker_of x) (run_is_of p limit (initial_world p parents limit) xs (initial_is_of p parents limit))
    (standing p parents limit driven xs) x played refl (kept p parents limit driven xs) h

-- A step that answers NotNow leaves the world as it was.
use Rattle.std.proofs.Common.{◌≡◌, ℕ, zero, suc, ◌<◌, ◌≤◌, Bool, true, false, List, [], ◌∷◌, length, refl, ap, arith, ◌∙◌, Some, None, Option}
use Rattle.std.specs.Prelude.{if◌then◌else◌, ◌==◌, ◌&&◌, nat_lt}
use Rattle.std.proofs.lemmas.Bool.{ltb-true}
use Rattle.std.proofs.lemmas.List.{get_or-set_same}
use Rattle.tier_shape.specs.Parents.{IsShape}
use Rattle.tier_core.specs.declared.call.Call.{Call}
use Rattle.tier_core.specs.declared.call.Call.TheVariants as call
use Rattle.tier_core.specs.declared.call.Progress.TheVariants.{Idle, Begun}
use Rattle.tier_core.specs.declared.call.Answer.{Answer as TreeAnswer}
use Rattle.tier_core.specs.declared.call.Answer.TheVariants as answer
use Rattle.tier_core.specs.declared.call.Step.{Step}
use Rattle.tier_core.specs.declared.call.Step.TheVariants.{Begin, Go, Finish}
use Rattle.tier_core.specs.Machine.{State as Tree, IsCore, call_at, turn_at, played, is_active, with_token}
use Rattle.tier_core.specs.Run.{after, answer_to, may_begin, may_go, may_finish, may_call, is_idle, begun, finish_at, plan_ends, IsStepOfCalls}
use Rattle.tier_core.proofs.Turns.{not_both}
use Rattle.tier_core.proofs.Runs.{step_moves}
use Rattle.tier_core.proofs.Opening.{opened_core, token_core}
use Rattle.tier_steps.specs.Image.{image}
use Rattle.phase_records.specs.ReportValue.{ReportValue}
use Rattle.step_core.specs.Program.{Program}
use Rattle.step_core.specs.Superstep.{live_paths}
use Rattle.step_core.specs.JobMeaning.{initial}
use Rattle.programs.specs.Supersteps.{report_in}
use Rattle.step_core.specs.OrderValue.{has_synced, spawned_paths}
use Rattle.job_schedule.specs.declared.stage.Move.{Move}
use Rattle.job_schedule.specs.declared.stage.Move.TheVariants.{Takes, Delivers, Calls, Advances, Closes, Ends}
use Rattle.job_schedule.specs.declared.step.JobStep.{JobStep}
use Rattle.job_schedule.specs.AnswerValue.{NotNow}
use Rattle.job_schedule.specs.ParticipantValue.{participant_at}
use Rattle.tier_shape.specs.Preferred.{leaf_at}
use Rattle.job_schedule.specs.World.{World, gone, joined_at, plan_for, empty_world, initial_world, with_start, with_starts, child_from, with_children, noted, deed_of, called_by, advanced_by, ended_by, next_job, closed_as, done_by, kind_of, kind_for, if_asked, move_of, worker_of, answer_of, world_after, reached}
use Rattle.job_schedule.specs.Parts.{IsAllowed}
use Rattle.job_schedule.specs.Laws.{RefusedStepsChangeNothing}
use Rattle.job_schedule.proofs.Moves.{Allowed, move_allowed}

core_after : (s : Tree) (x : Step) → IsCore s → IsStepOfCalls x → IsCore (after s x)
core_after s x core is = (step_moves s x (image s.words s.views) core is record {
  phase = refl;
  ended = refl;
  going = λ _. record { phase = refl; ended = refl; due = refl; members = λ _. refl; arrived = λ _. refl };
}).2

-- the part of the tree itself

abbrev is_played : TreeAnswer → Bool
is_played answer.Begun = false
is_played (answer.Played a) = true
is_played answer.NotNow = false

go_refused : (s : Tree) (token : ℕ) → is_played (answer_to s (Go token)) ≡ false → after s (Go token) ≡ s
go_refused s token h = by (may_go s token) h
  where
    by : (b : Bool) → is_played (if b then answer.Played (turn_at s token).answer else answer.NotNow) ≡ false
        → (if b then played s token (turn_at s token) else s) ≡ s
    by true k = not_both true refl k
    by false k = refl

finish_refused : (s : Tree) (token : ℕ) → is_played (answer_to s (Finish token)) ≡ false → after s (Finish token) ≡ s
finish_refused s token h = by (may_finish s token) h
  where
    by : (b : Bool) → is_played (if b then answer.Played (finish_at s token (plan_ends s)).answer else answer.NotNow) ≡ false
        → (if b then played s token (finish_at s token (plan_ends s)) else s) ≡ s
    by true k = not_both true refl k
    by false k = refl

first_of : (a b : Bool) → (a && b) ≡ true → a ≡ true
first_of true b h = refl
first_of false b h = h

-- a call that has begun has a step to take
goes_then : (s : Tree) (token : ℕ) (c : Call) → IsCore s → may_begin s token c ≡ true → may_go (begun s token c) token ≡ true
goes_then s token c core h =
    let known : nat_lt token (length s.views) ≡ true =
    first_of (nat_lt token (length s.views)) (is_idle (call_at s.calls token) && may_call (length s.parents) c _) h in
    let there : token < length s.calls = (let a = ltb-true token (length s.views) known in let b = core.long in omega arith) in
    let now : call_at (begun s token c).calls token ≡ Begun c = get_or-set_same s.calls token (Begun c) Idle there in
    ap (λ (b : Bool). b && is_active (call_at (begun s token c).calls token)) known ∙ ap is_active now

call_refused : (s : Tree) (token : ℕ) (c : Call) → IsCore s → is_played (answer_to (after s (Begin token c)) (Go token)) ≡ false
    → after (after s (Begin token c)) (Go token) ≡ s
call_refused s token c core h = by (may_begin s token c) refl h
  where
    by : (b : Bool) → may_begin s token c ≡ b → is_played (answer_to (if b then begun s token c else s) (Go token)) ≡ false
        → after (if b then begun s token c else s) (Go token) ≡ s
    by true e k =
        let went : is_played (answer_to (begun s token c) (Go token)) ≡ true =
        ap (λ (b : Bool). is_played (if b then answer.Played (turn_at (begun s token c) token).answer else answer.NotNow))
        (goes_then s token c core e) in
        not_both (is_played (answer_to (begun s token c) (Go token))) went k
    by false e k = go_refused s token k

-- the world's

called_refused : (w : World) (worker place : ℕ) (tree : Tree) (a : TreeAnswer) → (called_by w worker place tree a).0 ≡ NotNow
    → (is_played a ≡ false) × ((called_by w worker place tree a).1 ≡ record w { tree = tree })
called_refused w worker place tree answer.Begun h = (refl, refl)
called_refused w worker place tree (answer.Played a) h = cc
called_refused w worker place tree answer.NotNow h = (refl, refl)

advanced_refused : (w : World) (worker place : ℕ) (tree : Tree) (a : TreeAnswer) → (advanced_by w worker place tree a).0 ≡ NotNow
    → (is_played a ≡ false) × ((advanced_by w worker place tree a).1 ≡ record w { tree = tree })
advanced_refused w worker place tree answer.Begun h = (refl, refl)
advanced_refused w worker place tree (answer.Played a) h = cc
advanced_refused w worker place tree answer.NotNow h = (refl, refl)

ended_refused : (w : World) (tree : Tree) (a : TreeAnswer) → (ended_by w tree a).0 ≡ NotNow
    → (is_played a ≡ false) × ((ended_by w tree a).1 ≡ record w { tree = tree })
ended_refused w tree answer.Begun h = (refl, refl)
ended_refused w tree (answer.Played a) h = cc
ended_refused w tree answer.NotNow h = (refl, refl)

same_tree : (w : World) (tree : Tree) → tree ≡ w.tree → record w { tree = tree } ≡ w
same_tree w tree e = ap (λ (t : Tree). record w { tree = t }) e

move_refused : (w : World) (worker : ℕ) (m : Move) → IsCore w.tree → (done_by w worker m).0 ≡ NotNow → (done_by w worker m).1 ≡ w
move_refused w worker (Takes place) core h = cc
move_refused w worker (Delivers place) core h = cc
move_refused w worker (Calls place token c) core h =
    let tree : Tree = after (after w.tree (Begin token c)) (Go token) in
    let r =
    called_refused w worker place (after (after w.tree (Begin token c)) (Go token)) (answer_to (after w.tree (Begin token c)) (Go token))
    h in
    r.1 ∙ same_tree w (after (after w.tree (Begin token c)) (Go token)) (call_refused w.tree token c core r.0)
move_refused w worker (Advances place) core h =
    let r =
    advanced_refused w worker place (after w.tree (Finish (participant_at w.participants place).token))
    (answer_to w.tree (Finish (participant_at w.participants place).token)) h in
    r.1
    ∙ same_tree w (after w.tree (Finish (participant_at w.participants place).token))
    (finish_refused w.tree (participant_at w.participants place).token r.0)
move_refused w worker (Closes token) core h = by (report_in w.limit (next_job w)) h
  where
    by : (o : Option ReportValue) → (closed_as w worker token (next_job w) o).0 ≡ NotNow → (closed_as w worker token (next_job w) o).1 ≡ w
    by None k = cc
    by (Some r) k = cc
move_refused w worker (Ends token) core h =
    let r =
    ended_refused w (after (after w.tree (Begin token call.Force)) (Go token))
    (answer_to (after w.tree (Begin token call.Force)) (Go token)) h in
    r.1 ∙ same_tree w (after (after w.tree (Begin token call.Force)) (Go token)) (call_refused w.tree token call.Force core r.0)

step_refused : (w : World) (x : JobStep) → IsCore w.tree → answer_of w x ≡ NotNow → world_after w x ≡ w
step_refused w x core h = by (move_of w (worker_of x)) h
  where
    if_so : (m : Move) (b : Bool) → (if b then done_by w (worker_of x) m else (NotNow, w)).0 ≡ NotNow
        → (if b then done_by w (worker_of x) m else (NotNow, w)).1 ≡ w
    if_so m true k = move_refused w (worker_of x) m core k
    if_so m false k = refl

    by : (o : Option Move) → (if_asked w x o).0 ≡ NotNow → (if_asked w x o).1 ≡ w
    by None k = refl
    by (Some m) k = if_so m (kind_of x == kind_for m) k

-- each world's tree is one of the machine

gone_core : (n token : ℕ) (s : Tree) → IsCore s → IsCore (gone n token s)
gone_core zero token s core = core
gone_core (suc n) token s core = gone_core n token (after s (Go token)) (core_after s (Go token) core tt)

joined_core : (s : Tree) (home : ℕ) → IsCore s → IsCore (joined_at s home)
joined_core s home core =
    gone_core 16 (length s.views) (after (with_token s) (Begin (length s.views) (call.Join home 1)))
    (core_after (with_token s) (Begin (length s.views) (call.Join home 1)) (token_core s core) (omega arith, omega arith))

starts_core : (w : World) (paths : List (List ℕ)) → IsCore w.tree → IsCore (with_starts w paths).tree
starts_core w [] core = core
starts_core w (path ∷ paths) core =
    starts_core (with_start w path) paths (joined_core w.tree (leaf_at w.leaves (length w.participants)) core)

child_core : (w : World) (place : ℕ) (path free : List ℕ) → IsCore w.tree → IsCore (child_from w place path free).tree
child_core w place path [] core = token_core w.tree core
child_core w place path (token ∷ free) core = core

children_core : (w : World) (place : ℕ) (paths : List (List ℕ)) → IsCore w.tree → IsCore (with_children w place paths).tree
children_core w place [] core = core
children_core w place (path ∷ paths) core = children_core (child_from w place path w.free) place paths (child_core w place path w.free core)

called_core : (w : World) (worker place : ℕ) (tree : Tree) (a : TreeAnswer) → IsCore tree → IsCore (called_by w worker place tree a).1.tree
called_core w worker place tree answer.Begun core = core
called_core w worker place tree (answer.Played a) core = core
called_core w worker place tree answer.NotNow core = core

advanced_core : (w : World) (worker place : ℕ) (tree : Tree) (a : TreeAnswer) → IsCore tree
    → IsCore (advanced_by w worker place tree a).1.tree
advanced_core w worker place tree answer.Begun core = core
advanced_core w worker place tree (answer.Played a) core = core
advanced_core w worker place tree answer.NotNow core = core

ended_core : (w : World) (tree : Tree) (a : TreeAnswer) → IsCore tree → IsCore (ended_by w tree a).1.tree
ended_core w tree answer.Begun core = core
ended_core w tree (answer.Played a) core = core
ended_core w tree answer.NotNow core = core

move_core : (w : World) (worker : ℕ) (m : Move) → IsAllowed w m → IsCore w.tree → IsCore (done_by w worker m).1.tree
move_core w worker (Takes place) is core = core
move_core w worker (Delivers place) is core =
    children_core (noted w place (has_synced (deed_of w (participant_at w.participants place).path))) place
    (spawned_paths (deed_of w (participant_at w.participants place).path)) core
move_core w worker (Calls place token c) is core =
    called_core w worker place (after (after w.tree (Begin token c)) (Go token)) (answer_to (after w.tree (Begin token c)) (Go token))
    (core_after (after w.tree (Begin token c)) (Go token) (core_after w.tree (Begin token c) core is.0.1) tt)
move_core w worker (Advances place) is core =
    advanced_core w worker place (after w.tree (Finish (participant_at w.participants place).token))
    (answer_to w.tree (Finish (participant_at w.participants place).token))
    (core_after w.tree (Finish (participant_at w.participants place).token) core tt)
move_core w worker (Closes token) is core = by (report_in w.limit (next_job w))
  where
    by : (o : Option ReportValue) → IsCore (closed_as w worker token (next_job w) o).1.tree
    by None = core
    by (Some r) = core
move_core w worker (Ends token) is core =
    ended_core w (after (after w.tree (Begin token call.Force)) (Go token)) (answer_to (after w.tree (Begin token call.Force)) (Go token))
    (core_after (after w.tree (Begin token call.Force)) (Go token) (core_after w.tree (Begin token call.Force) core tt) tt)

step_core_of : (w : World) (x : JobStep) → IsCore w.tree → IsCore (world_after w x).tree
step_core_of w x core = by (move_of w (worker_of x)) (move_allowed w (worker_of x))
  where
    if_so : (m : Move) (b : Bool) → IsAllowed w m → IsCore (if b then done_by w (worker_of x) m else (NotNow, w)).1.tree
    if_so m true is = move_core w (worker_of x) m is core
    if_so m false is = core

    by : (o : Option Move) → Allowed w o → IsCore (if_asked w x o).1.tree
    by None is = core
    by (Some m) is = if_so m (kind_of x == kind_for m) is

reached_core : (w : World) (xs : List JobStep) → IsCore w.tree → IsCore (reached w xs).tree
reached_core w [] core = core
reached_core w (x ∷ xs) core = reached_core (world_after w x) xs (step_core_of w x core)

pub world_core : (p : Program) (parents : List ℕ) (limit : ℕ) (xs : List JobStep) → IsShape parents → length parents ≤ 65535
    → IsCore (reached (initial_world p parents limit) xs).tree
world_core p parents limit xs shape few =
    reached_core (initial_world p parents limit) xs
    (starts_core (empty_world p parents limit) (live_paths (initial p)) (opened_core parents 0 (plan_for limit) shape few (omega arith)))

pub refused_steps_change_nothing : RefusedStepsChangeNothing
refused_steps_change_nothing p parents limit xs x shape few h =
    step_refused (reached (initial_world p parents limit) xs) x (world_core p parents limit xs shape few) h

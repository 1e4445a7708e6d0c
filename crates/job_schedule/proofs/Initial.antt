-- The world before the first step of a worker.
use Rattle.std.proofs.Common.{◌≡◌, ℕ, zero, suc, ◌-◌, ◌<◌, List, [], ◌∷◌, ◌++◌, length, reverse, sym, ap, ◌∙◌, arith, None, Option, Result, Ok, Err}
use Rattle.std.specs.Prelude.{OnOk, replicate}
use Rattle.task_code.specs.JobValue.{JobValue}
use Rattle.tier_shape.specs.Leaves.{leaves_of}
use Rattle.tier_core.specs.declared.call.Call.TheVariants as call
use Rattle.tier_core.specs.declared.call.Step.TheVariants.{Begin, Go}
use Rattle.tier_core.specs.Machine.{State as Tree, opened, with_token}
use Rattle.tier_core.specs.Run.{after}
use Rattle.step_core.specs.Program.{program_of}
use Rattle.step_core.specs.Superstep.{State, live_paths}
use Rattle.step_core.specs.JobMeaning.{initial}
use Rattle.step_core.specs.RoundValue.{RoundValue, Opens, state_of}
use Rattle.job_schedule.specs.declared.stage.Mode.TheVariants as mode
use Rattle.job_schedule.specs.ParticipantValue.{ParticipantValue, waiting}
use Rattle.tier_shape.specs.Preferred.{leaf_at}
use Rattle.job_schedule.specs.World.{World, gone, joined_at, with_start, with_starts, plan_for, empty_world, initial_world}

pub gone_one : (n token : ℕ) (tree : Tree) → 0 < n → gone n token tree ≡ gone (n - 1) token (after tree (Go token))
gone_one zero token tree h = absurd (omega arith)
gone_one (suc n) token tree h = let e : suc n - 1 ≡ n = omega arith in sym (ap (λ (m : ℕ). gone m token (after tree (Go token))) e)

abbrev pub with_both : World → Tree → List ParticipantValue → World
with_both w tree participants = record w { tree = tree; participants = participants }

pub started : (w : World) (token home : ℕ) (first begun last : Tree) (path : List ℕ) (gs : List ParticipantValue)
    → first ≡ with_token w.tree → token ≡ length w.tree.views
    → home ≡ leaf_at w.leaves (length w.participants) → begun ≡ after first (Begin token (call.Join home 1)) → last ≡ gone 16 token begun
    → gs ≡ w.participants ++ waiting path token home ∷ [] → with_both w last gs ≡ with_start w path
started w token home first begun last path gs a b c d e f =
    let core : last ≡ joined_at w.tree home =
    e
    ∙ ap (gone 16 token) (d ∙ ap (λ (t : Tree). after t (Begin token (call.Join home 1))) a)
    ∙ ap (λ (n : ℕ). gone 16 n (after (with_token w.tree) (Begin n (call.Join home 1)))) b in
    let participants : gs ≡ w.participants ++ waiting path (length w.tree.views) home ∷ [] =
    f ∙ ap (λ (n : ℕ). w.participants ++ waiting path n home ∷ []) b in
    ap (λ (t : Tree). with_both w t gs) core
    ∙ ap (with_both w (joined_at w.tree home)) participants
    ∙ ap (λ (n : ℕ). with_both w (joined_at w.tree n) (w.participants ++ waiting path (length w.tree.views) n ∷ [])) c

abbrev pub built : RoundValue → Tree → List ℕ → List (Option ℕ) → World
built r core leaves hands = record {
  program = program_of r.job;
  limit = r.limit;
  job = state_of r;
  tree = core;
  leaves = leaves;
  participants = [];
  taken = 0;
  hands = hands;
  free = [];
  mode = mode.Runs;
}

built_empty : (r : RoundValue) (job : JobValue) (limit : ℕ) (shape : List ℕ) (core : Tree) (leaves : List ℕ) (hands : List (Option ℕ))
    → Opens r job limit (initial (program_of job)) → core ≡ opened shape 0 (plan_for limit) → leaves ≡ leaves_of shape
    → hands ≡ replicate 64 None
    → built r core leaves hands ≡ empty_world (program_of job) shape limit
built_empty r job limit shape core leaves hands is a b c =
    ap (λ (t : Tree). built r t leaves hands) a
    ∙ ap (λ (ls : List ℕ). built r (opened shape 0 (plan_for limit)) ls hands) b
    ∙ ap (λ (hs : List (Option ℕ)). built r (opened shape 0 (plan_for limit)) (leaves_of shape) hs) c
    ∙ ap (λ (st : State). record (built r (opened shape 0 (plan_for limit)) (leaves_of shape) (replicate 64 None)) { job = st }) is.state
    ∙ ap
    (λ (n : ℕ). record (built r (opened shape 0 (plan_for limit)) (leaves_of shape) (replicate 64 None)) { job = initial (program_of job); limit = n })
    is.limit
    ∙ ap (λ (j : JobValue). record (built r (opened shape 0 (plan_for limit)) (leaves_of shape) (replicate 64 None)) {
      job = initial (program_of job);
      limit = limit;
      program = program_of j;
    }) is.job

-- no participants yet, and no free tokens
abbrev pub empty_built : World → List ParticipantValue → List ℕ → World
empty_built w participants free = record w { participants = participants; free = reverse free }

pub empty_opens : (r : RoundValue) (job : JobValue) (limit : ℕ) (shape : List ℕ) (core : Tree) (leaves : List ℕ) (hands : List (Option ℕ))
    (participants : List ParticipantValue) (free : List ℕ)
    → Opens r job limit (initial (program_of job)) → core ≡ opened shape 0 (plan_for limit) → leaves ≡ leaves_of shape
    → hands ≡ replicate 64 None
    → participants ≡ [] → free ≡ [] → empty_built (built r core leaves hands) participants free ≡ empty_world (program_of job) shape limit
empty_opens r job limit shape core leaves hands participants free is a b c f g =
    ap (λ (gs : List ParticipantValue). empty_built (built r core leaves hands) gs free) f
    ∙ ap (λ (fs : List ℕ). empty_built (built r core leaves hands) [] fs) g
    ∙ built_empty r job limit shape core leaves hands is a b c

-- the start tasks of an empty world come in
pub all_live : {A E : Type 0} (result : Result A E) (w v : World) (paths : List (List ℕ)) → paths ≡ live_paths w.job
    → OnOk result (v ≡ with_starts w paths) → OnOk result (v ≡ with_starts w (live_paths w.job))
all_live (Ok a) w v paths b e = e ∙ ap (with_starts w) b
all_live (Err x) w v paths b e = e

pub opens : (job : JobValue) (limit : ℕ) (shape : List ℕ) (w v : World) → w ≡ empty_world (program_of job) shape limit
    → v ≡ with_starts w (live_paths w.job)
    → v ≡ initial_world (program_of job) shape limit
opens job limit shape w v a e = e ∙ ap (λ (u : World). with_starts u (live_paths u.job)) a

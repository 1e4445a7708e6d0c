-- Each start task joins its leaf, one after another.
use Rattle.std.proofs.Common.{◌≡◌, ℕ, zero, suc, ◌+◌, ◌<◌, ◌≤◌, ◌⊎◌, inl, inr, ⊎_elim, Bool, true, false, List, [], ◌∷◌, ◌++◌, length, map, refl, sym, ◌∙◌, ap, subst, arith, Some, None}
use Rattle.std.specs.Prelude.{sum_by, if◌then◌else◌, ◌&&◌, ◌%◌, nat_lt, nat_le, replicate, is_some}
use Rattle.std.specs.List.{AllByRecursion, filter, range_with_len}
use Rattle.std.proofs.lemmas.Bool.{ltb-true, leb-true, cases_lt}
use Rattle.std.proofs.lemmas.List.{length-append, length-map}
use Rattle.std.proofs.lemmas.List.Sums.{sum_by_push}
use Rattle.tier_shape.specs.Leaves.{is_leaf_of}
use Rattle.tier_shape.specs.Paths.{IsTiers}
use Rattle.tier_steps.specs.declared.view.View.{View}
use Rattle.tier_steps.specs.View.{new_view}
use Rattle.tier_steps.specs.Tally.{word_at}
use Rattle.tier_core.specs.declared.call.Call.TheVariants as call
use Rattle.tier_core.specs.declared.call.Progress.TheVariants.{Idle}
use Rattle.tier_core.specs.declared.call.Step.TheVariants.{Begin, Go}
use Rattle.tier_core.specs.Machine.{State as Tree, IsCore, view_at, call_at, is_active, turn_at, played, opened, with_token}
use Rattle.tier_core.specs.Run.{after}
use Rattle.tier_core.proofs.Turns.{not_both}
use Rattle.tier_core.proofs.Opening.{opened_core, token_core, entry_before, entry_last}
use Rattle.tier_laws.specs.Frame.{flat_of}
use Rattle.tier_laws.specs.Fresh.{IsFresh, IsJoined, join_alone}
use Rattle.tier_laws.specs.Moments.{Takes, run_of, moments}
use Rattle.tier_laws.specs.Calls.{IsPlaced}
use Rattle.tier_laws.proofs.Opens.{joins_are_done_alone, new_trees_are_fresh, new_tokens_keep_it_fresh}
use Rattle.tier_laws.proofs.Holding.{is_awaited as awaited_by}
use Rattle.tier_laws.proofs.Stepping.{fitting}
use Rattle.phase_records.specs.Status.{Limit as IsAtLimit}
use Rattle.step_core.specs.Program.{Program}
use Rattle.step_core.specs.Superstep.{live_paths}
use Rattle.step_core.specs.JobMeaning.{initial, start_tasks}
use Rattle.programs.specs.Supersteps.{status, status_of}
use Rattle.task_lang.specs.Meaning.{Plan, Task}
use Rattle.task_code.specs.declared.job.Start.{Start}
use Rattle.job_laws.specs.Roles.{Role, Out, Late, Plays}
use Rattle.job_laws.specs.Cast.{role_at}
use Rattle.job_schedule.specs.ParticipantValue.{ParticipantValue, no_participant, participant_at, waiting}
use Rattle.tier_shape.specs.Preferred.{leaf_at}
use Rattle.job_schedule.specs.World.{World, gone, joined_at, plan_for, empty_world, with_start, with_starts, initial_world}
use Rattle.job_laws.specs.Working.{Sits, of_participant, of_all, AreShared, IsBuilt, IsWorking, IsKept}
use Rattle.job_laws.specs.Laws.{IsDriven}
use Rattle.job_laws.proofs.Keeping.{IsSame}
use Rattle.job_laws.proofs.Calling.{one_step}
use Rattle.job_laws.proofs.Delivering.{leaf_within}

-- sixteen steps, while fourteen are enough

gone_run : (n token : ℕ) (t : Tree) → gone n token t ≡ run_of (replicate n (Takes (Go token))) t
gone_run zero token t = refl
gone_run (suc n) token t = gone_run n token (after t (Go token))

gone_last : (n token : ℕ) (t : Tree) → gone (suc n) token t ≡ after (gone n token t) (Go token)
gone_last zero token t = refl
gone_last (suc n) token t = gone_last n token (after t (Go token))

idle_stays : (t : Tree) (token : ℕ) → call_at t.calls token ≡ Idle → after t (Go token) ≡ t
idle_stays t token e = by (nat_lt token (length t.views)) (is_active (call_at t.calls token)) (ap is_active e)
  where
    by : (b c : Bool) → c ≡ false → (if (b && c) then played t token (turn_at t token) else t) ≡ t
    by true true e = not_both true refl e
    by true false e = refl
    by false c e = refl

gone_same : (n token : ℕ) (t : Tree) → ((gone n token t).parents ≡ t.parents) × ((gone n token t).plan ≡ t.plan)
gone_same zero token t = (refl, refl)
gone_same (suc n) token t =
    let a = one_step t (Go token) in let b = gone_same n token (after t (Go token)) in (b.0 ∙ a.parents, b.1 ∙ a.plan)

-- the leaves are tiers
leaves_within : (parents xs : List ℕ) → AllByRecursion (λ leaf. leaf < length parents) (filter (is_leaf_of parents) xs)
leaves_within parents [] = tt
leaves_within parents (x ∷ xs) = by (is_leaf_of parents x) refl (leaves_within parents xs)
  where
    first : (b c : Bool) → (b && c) ≡ true → b ≡ true
    first true c e = refl
    first false c e = not_both false e refl

    by : (b : Bool) → is_leaf_of parents x ≡ b → AllByRecursion (λ leaf. leaf < length parents) (filter (is_leaf_of parents) xs)
        → AllByRecursion (λ leaf. leaf < length parents) (if b then x ∷ filter (is_leaf_of parents) xs else filter (is_leaf_of parents) xs)
    by true e rest = (ltb-true x (length parents) (first (nat_lt x (length parents)) _ e), rest)
    by false e rest = rest

-- a start task with its token
abbrev IsStart : Tree → ℕ → ParticipantValue → Type 0
IsStart tree j g = (path : List ℕ) × (home : ℕ) × (g ≡ waiting path j home) × IsPlaced home 1 0 (view_at tree.views j)

record IsStarting (parents : List ℕ) (w : World) : Type 0 where
  built : IsBuilt parents w
  core : IsCore w.tree
  fresh : IsFresh w.tree
  phase : (flat_of w.tree).phase ≡ 0
  long : length w.participants ≡ length w.tree.views
  each : (j : ℕ) → j < length w.participants → IsStart w.tree j (participant_at w.participants j)
  sizes : sum_by (λ (v : View). v.size) w.tree.views ≡ length w.participants
  shared : AreShared w.participants w.free (length w.tree.views)
  free : w.free ≡ []
  taken : w.taken ≡ 0

one_starts : (parents : List ℕ) (w : World) (path : List ℕ) → IsTiers parents → IsStarting parents w → length w.participants < 4096
    → IsStarting parents (with_start w path)
one_starts parents w path tiers is few =
    let n : ℕ = length w.tree.views in
    let home : ℕ = leaf_at w.leaves (length w.participants) in
    let s : Tree = with_token w.tree in
    let begun : Tree = after (with_token w.tree) (Begin (length w.tree.views) (call.Join (leaf_at w.leaves (length w.participants)) 1)) in
    let new : Tree = joined_at w.tree (leaf_at w.leaves (length w.participants)) in
    let core : IsCore s = token_core w.tree is.core in
    let fresh : IsFresh s = new_tokens_keep_it_fresh w.tree is.core is.fresh in
    let many : length s.views ≡ length w.tree.views + 1 = length-append w.tree.views (new_view (word_at w.tree.words 0).phase ∷ []) in
    let at : view_at s.views n ≡ new_view (word_at w.tree.words 0).phase =
    entry_last w.tree.views (new_view (word_at w.tree.words 0).phase) (new_view 0) (length w.tree.views) refl in
    let some : 0 < length parents = tiers.shape.some in
    let tier : home < length parents =
    leaf_within w.leaves (length w.participants % length w.leaves) (length parents) is.built.leaves some in
    let same : length s.parents ≡ length parents = ap length is.built.shape in
    let capacity : sum_by (λ (v : View). v.size) s.views ≡ sum_by (λ (v : View). v.size) w.tree.views + 0 =
    sum_by_push (λ (v : View). v.size) w.tree.views (new_view (word_at w.tree.words 0).phase) in
    let e1 = is.sizes in let e2 = tiers.few in
    let joined : IsJoined s (run_of (join_alone n home 1) s) n home 1 (moments n (join_alone n home 1) s (flat_of s) []) =
    joins_are_done_alone s n home 1 (subst IsTiers (sym is.built.shape) tiers) core fresh (omega arith) (ap (λ (v : View). v.size) at)
    (omega arith) (omega arith) (omega arith) in
    let last : Tree = run_of (join_alone n home 1) s in
    let long' : length last.views ≡ length w.tree.views + 1 = joined.tokens ∙ many in
    let rests : call_at last.calls n ≡ Idle = joined.fresh.idle n (omega arith) in
    let there : new ≡ last =
    gone_last 15 n begun
    ∙ ap (λ (t : Tree). after t (Go n)) (gone_last 14 n begun)
    ∙ ap (λ (t : Tree). after (after t (Go n)) (Go n)) (gone_run 14 n begun)
    ∙ ap (λ (t : Tree). after t (Go n)) (idle_stays last n rests)
    ∙ idle_stays last n rests in
    let kept = gone_same 16 n begun in
    let start = one_step s (Begin n (call.Join home 1)) in
    let g : ParticipantValue = waiting path n home in
    let participants' : List ParticipantValue =
    w.participants ++ waiting path (length w.tree.views) (leaf_at w.leaves (length w.participants)) ∷ [] in
    let l1 : length participants' ≡ length w.participants + 1 =
    length-append w.participants (waiting path (length w.tree.views) (leaf_at w.leaves (length w.participants)) ∷ []) in
    let l2 = is.long in
    let views : length new.views ≡ length w.tree.views + 1 = ap (λ (t : Tree). length t.views) there ∙ long' in
    let now : (flat_of s).phase ≡ 0 = is.phase in
    record {
      built =
          record { shape = kept.0 ∙ start.parents ∙ is.built.shape; plan = kept.1 ∙ start.plan ∙ is.built.plan; leaves = is.built.leaves };
      core = subst IsCore (sym there) joined.core;
      fresh = subst IsFresh (sym there) joined.fresh;
      phase = ap (λ (t : Tree). (flat_of t).phase) there ∙ joined.phase ∙ now;
      long = omega arith;
      each = λ j l. ⊎_elim
          (λ (q : j < length w.participants).
          let old = is.each j q in
          let k : j < length w.tree.views = omega arith in
          let v : view_at new.views j ≡ view_at w.tree.views j =
          ap (λ (t : Tree). view_at t.views j) there ∙ joined.others j (λ e. absurd (omega arith))
          ∙ entry_before w.tree.views (new_view (word_at w.tree.words 0).phase) (new_view 0) j k in (
            old.0,
            old.1,
            entry_before w.participants g no_participant j q ∙ old.2,
            subst (λ (x : View). IsPlaced old.1 1 0 x) (sym v) old.3,
          ))
          (λ (q : length w.participants ≤ j).
          let e : j ≡ length w.participants = omega arith in
          let f : j ≡ length w.tree.views = omega arith in (
            path,
            home,
            entry_last w.participants g no_participant j e
                ∙ ap (λ (m : ℕ). waiting path m (leaf_at w.leaves (length w.participants))) (sym f),
            subst (λ (m : ℕ). IsPlaced home 1 0 (view_at new.views m)) (sym f)
                (subst (λ (t : Tree). IsPlaced home 1 0 (view_at t.views n)) (sym there)
                (subst (λ (p : ℕ). IsPlaced home 1 p (view_at last.views n)) now joined.placed)),
          ))
          (cases_lt j (length w.participants));
      sizes =
          let a = joined.sizes in
          let b : sum_by (λ (v : View). v.size) new.views ≡ sum_by (λ (v : View). v.size) last.views =
          ap (λ (t : Tree). sum_by (λ (v : View). v.size) t.views) there in
          omega arith;
      shared = λ m.
          let a = is.shared m in
          let b =
          sum_by_push (of_participant m) w.participants (waiting path (length w.tree.views) (leaf_at w.leaves (length w.participants))) in
          let one : length w.tree.views + 1 ≡ suc (length w.tree.views) = omega arith in
          let c : of_all (length new.views) m ≡ of_all (length w.tree.views) m + m n = ap (λ (k : ℕ). of_all k m) (views ∙ one) in
          omega arith;
      free = is.free;
      taken = is.taken;
    }

all_start : (parents : List ℕ) (w : World) (paths : List (List ℕ)) → IsTiers parents → IsStarting parents w
    → length w.participants + length paths ≤ 4096
    → IsStarting parents (with_starts w paths)
all_start parents w [] tiers is few = is
all_start parents w (path ∷ paths) tiers is few =
    let l1 : length (with_start w path).participants ≡ length w.participants + 1 = length-append w.participants _ in
    all_start parents (with_start w path) paths tiers (one_starts parents w path tiers is (omega arith)) (omega arith)

-- what starts works
late_at : (gs : List ParticipantValue) (j : ℕ) → j < length gs
    → role_at (map (λ (g : ParticipantValue). Late g.home) gs) j ≡ Late (participant_at gs j).home
late_at [] j h = absurd (omega arith)
late_at (g ∷ gs) zero h = refl
late_at (g ∷ gs) (suc j) h = late_at gs j (omega arith)

start_works : (parents : List ℕ) (w : World) → IsStarting parents w → w.job.step ≡ 0
    → IsWorking parents w (map (λ (g : ParticipantValue). Late g.home) w.participants)
start_works parents w is first =
    let roles : List Role = map (λ (g : ParticipantValue). Late g.home) w.participants in
    let l1 : length roles ≡ length w.participants = length-map w.participants (λ (g : ParticipantValue). Late g.home) in
    let l2 = is.long in
    record {
      built = is.built;
      cast = record {
        core = is.core;
        going = is.fresh.going;
        long = l1 ∙ is.long;
        plays = λ j h.
            let k : j < length w.participants = omega arith in
            let one = is.each j k in
            let idle = is.fresh.idle j h in
            let tier = one.3.tier in
            let size = one.3.size in
            let none = one.3.arrived in
            subst (λ (r : Role). Plays w.tree j r) (sym (late_at w.participants j k ∙ ap (λ (g : ParticipantValue). Late g.home) one.2)) (
              record {
                awaited = awaited_by w.tree j is.core h (fitting w.tree j Idle is.core h idle) (omega arith);
                tier = one.3.tier;
                one = one.3.size;
              },
              idle,
            );
      };
      phase = is.phase ∙ sym first;
      sits = λ j h.
          let one = is.each j h in
          let e : role_at roles j ≡ Late one.1 = late_at w.participants j h ∙ ap (λ (g : ParticipantValue). Late g.home) one.2 in
          subst (λ (g : ParticipantValue). Sits roles (length parents) g) (sym one.2)
          (record { own = e; each = λ k l. absurd (omega arith); turn = tt; homes = λ k l. absurd (omega arith) });
      shared = is.shared;
      free = subst (λ (ts : List ℕ). AllByRecursion (λ t. role_at roles t ≡ Out) ts) (sym is.free) tt;
      waits = λ j a h. ap (λ (g : ParticipantValue). g.stage) (is.each j h).2;
    }

pub starts_long : (plans : List Plan) (number : ℕ) (ss : List Start) → length (start_tasks plans number ss) ≡ length ss
starts_long plans number [] = refl
starts_long plans number (s ∷ ss) = ap suc (starts_long plans (suc number) ss)

participants_long : (w : World) (paths : List (List ℕ)) → length (with_starts w paths).participants ≡ length w.participants + length paths
participants_long w [] = omega arith
participants_long w (path ∷ paths) =
    let a = participants_long (with_start w path) paths in
    let b : length (with_start w path).participants ≡ length w.participants + 1 = length-append w.participants _ in
    omega arith

starts_same : (w : World) (paths : List (List ℕ)) → IsSame w (with_starts w paths)
starts_same w [] = record { mode = refl; limit = refl; job = refl }
starts_same w (path ∷ paths) = let k = starts_same (with_start w path) paths in record { mode = k.mode; limit = k.limit; job = k.job }

pub initial_kept : (p : Program) (parents : List ℕ) (limit : ℕ) → IsDriven p parents limit
    → IsKept parents (initial_world p parents limit) (initial_world p parents limit).mode
initial_kept p parents limit driven =
    subst (λ m. IsKept parents (initial_world p parents limit) m)
    (sym (starts_same (empty_world p parents limit) (live_paths (initial p))).mode)
    (by (initial p).live refl)
  where
    w : World
    w = initial_world p parents limit

    paths_long : length (live_paths (initial p)) ≡ length p.starts
    paths_long = length-map (initial p).live (λ (t : Task). t.path) ∙ starts_long p.plans 0 p.starts

    same : IsSame (empty_world p parents limit) w
    same = starts_same (empty_world p parents limit) (live_paths (initial p))

    now : status w.limit w.job ≡ status limit (initial p)
    now = ap (λ st. status w.limit st) same.job ∙ ap (λ (n : ℕ). status n (initial p)) same.limit

    empty : IsStarting parents (empty_world p parents limit)
    empty = record {
      built = record { shape = refl; plan = refl; leaves = leaves_within parents (range_with_len 0 (length parents)) };
      core = opened_core parents 0 (plan_for limit) driven.tiers.shape (let a = driven.tiers.few in omega arith) (omega arith);
      fresh = new_trees_are_fresh parents 0 (plan_for limit) driven.tiers.shape;
      phase = first_phase parents driven.tiers.shape.some;
      long = refl;
      each = λ j h. absurd (omega arith);
      sizes = refl;
      shared = λ m. refl;
      free = refl;
      taken = refl;
    }
      where
        first_phase : (ps : List ℕ) → 0 < length ps → (flat_of (opened ps 0 (plan_for limit))).phase ≡ 0
        first_phase [] h = absurd (omega arith)
        first_phase (x ∷ xs) h = refl

    none : (initial p).live ≡ [] → length w.participants ≡ 0
    none e =
        let a = participants_long (empty_world p parents limit) (live_paths (initial p)) in
        let b : length (live_paths (initial p)) ≡ 0 = ap (λ (ts : List Task). length (map (λ (t : Task). t.path) ts)) e in omega arith

    by : (live : List Task) → (initial p).live ≡ live
        → ((is_some (status w.limit w.job) ≡ true) × (length w.participants ≡ 0))
        ⊎ ((is_some (status w.limit w.job) ≡ false) × ((roles : List Role) × IsWorking parents w roles))
    by [] e = inl (
      ap is_some now ∙ ap (λ (ts : List Task). is_some (status_of limit 0 None ts)) e,
      none e,
    )
    by (t ∷ ts) e = inr (
      ap is_some now ∙ ap (λ (xs : List Task). is_some (status_of limit 0 None xs)) e ∙ goes (nat_le limit 0) refl,
      (
        map (λ (g : ParticipantValue). Late g.home) w.participants,
        start_works parents w
            (all_start parents (empty_world p parents limit) (live_paths (initial p)) driven.tiers empty
            (let a = paths_long in let b = driven.starts in omega arith))
            (ap (λ st. st.step) same.job),
      ),
    )
      where
        goes : (b : Bool) → nat_le limit 0 ≡ b → is_some (if b then Some (IsAtLimit 0) else None) ≡ false
        goes true e = let a = leb-true limit 0 e in let b = driven.some in absurd (omega arith)
        goes false e = refl

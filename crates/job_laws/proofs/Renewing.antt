-- The round is closed: the next tasks wait, each with the token of its task or the one that joined for it.
use Rattle.std.proofs.Common.{◌≡◌, ℕ, zero, suc, ◌+◌, ◌<◌, ◌≤◌, ⊎_elim, Bool, true, false, List, [], ◌∷◌, ◌++◌, length, map, refl, sym, ◌∙◌, ap, subst, arith, Some, None, Option}
use Rattle.std.specs.Prelude.{sum_by, if◌then◌else◌, ◌&&◌, nat_lt, is_some}
use Rattle.std.specs.List.{AllByRecursion}
use Rattle.std.proofs.lemmas.List.{length-map}
use Rattle.std.proofs.lemmas.List.Sums.{sum_by-cons, sum_by-append}
use Rattle.superstep_memory.specs.Paths.{path_lt}
use Rattle.superstep_memory.specs.PathOrder.{put_in, in_path_order}
use Rattle.phase_records.specs.Status.{Status}
use Rattle.tier_steps.specs.declared.view.Passage.TheVariants.{Arrival}
use Rattle.tier_core.proofs.Turns.{not_both}
use Rattle.tier_laws.specs.Frame.{flat_of}
use Rattle.task_lang.specs.Meaning.{Task, Segment}
use Rattle.step_core.specs.Program.{Program}
use Rattle.step_core.specs.Superstep.{State, segments, fault_in, superstep, closed, next_live, live_paths}
use Rattle.programs.specs.Supersteps.{status, status_of, report_with, report_in}
use Rattle.job_laws.specs.Roles.{Role, Out, Late, Past}
use Rattle.job_laws.specs.Cast.{role_at, turned}
use Rattle.job_schedule.specs.declared.stage.Stage.{Stage}
use Rattle.job_schedule.specs.declared.stage.Stage.TheVariants.{Waits, Taken, Polling, Joining, Arriving, Leaving, Over}
use Rattle.job_schedule.specs.ParticipantValue.{ChildValue, ParticipantValue, participant_at, child_at, participant_path, is_over, all_over, waiting, own_participant, child_participant, living_participants, next_participants, freed}
use Rattle.job_schedule.specs.World.{World, next_job, renewed}
use Rattle.job_schedule.proofs.Closing.{one_superstep}
use Rattle.job_laws.specs.Working.{passage_if, SitsAt, Sits, of_participant, IsWorking, IsTurning}
use Rattle.job_laws.proofs.Advancing.{AllOver, running_step}

-- in path order: the same sums, and what is true of each

sum_put : (f : ParticipantValue → ℕ) (g : ParticipantValue) (gs : List ParticipantValue)
    → sum_by f (put_in participant_path g gs) ≡ f g + sum_by f gs
sum_put f g [] = sum_by-cons f g []
sum_put f g (x ∷ gs) = by (path_lt x.path g.path) (sum_put f g gs)
  where
    by : (b : Bool) → sum_by f (put_in participant_path g gs) ≡ f g + sum_by f gs
        → sum_by f (if b then x ∷ put_in participant_path g gs else g ∷ x ∷ gs) ≡ f g + sum_by f (x ∷ gs)
    by true b = let a = sum_by-cons f x (put_in participant_path g gs) in let c = sum_by-cons f x gs in omega arith
    by false b = sum_by-cons f g (x ∷ gs)

sum_order : (f : ParticipantValue → ℕ) (gs : List ParticipantValue) → sum_by f (in_path_order participant_path gs) ≡ sum_by f gs
sum_order f [] = refl
sum_order f (g ∷ gs) =
    let a = sum_put f g (in_path_order participant_path gs) in let b = sum_order f gs in let c = sum_by-cons f g gs in omega arith

module _ (P : ParticipantValue → Type 0) where
  all_put : (g : ParticipantValue) (gs : List ParticipantValue) → P g → AllByRecursion P gs
      → AllByRecursion P (put_in participant_path g gs)
  all_put g [] h a = (h, tt)
  all_put g (x ∷ gs) h a = by (path_lt x.path g.path) (all_put g gs h a.1)
    where
      by : (b : Bool) → AllByRecursion P (put_in participant_path g gs)
          → AllByRecursion P (if b then x ∷ put_in participant_path g gs else g ∷ x ∷ gs)
      by true more = (a.0, more)
      by false more = (h, a)

  all_order : (gs : List ParticipantValue) → AllByRecursion P gs → AllByRecursion P (in_path_order participant_path gs)
  all_order [] a = tt
  all_order (g ∷ gs) a = all_put g (in_path_order participant_path gs) a.0 (all_order gs a.1)

  all_at : (gs : List ParticipantValue) (q : ℕ) → AllByRecursion P gs → q < length gs → P (participant_at gs q)
  all_at [] q a l = absurd (omega arith)
  all_at (g ∷ gs) zero a l = a.0
  all_at (g ∷ gs) (suc q) a l = all_at gs q a.1 (omega arith)

  all_append : (xs ys : List ParticipantValue) → AllByRecursion P xs → AllByRecursion P ys → AllByRecursion P (xs ++ ys)
  all_append [] ys a b = b
  all_append (x ∷ xs) ys a b = (a.0, all_append xs ys a.1 b)

-- what lives on counts the same, with what is freed

children_sum : (m : ℕ → ℕ) (ks : List ChildValue)
    → sum_by (of_participant m) (map child_participant ks) ≡ sum_by (λ (k : ChildValue). m k.token) ks
children_sum m [] = refl
children_sum m (k ∷ ks) =
    let a = sum_by-cons (of_participant m) (child_participant k) (map child_participant ks) in
    let b = sum_by-cons (λ (k : ChildValue). m k.token) k ks in let c = children_sum m ks in omega arith

living_sum : (m : ℕ → ℕ) (gs : List ParticipantValue) (free : List ℕ)
    → sum_by (of_participant m) (living_participants gs) + sum_by m (freed gs free) ≡ sum_by (of_participant m) gs + sum_by m free
living_sum m [] free = refl
living_sum m (g ∷ gs) free = by g.synced (living_sum m gs)
  where
    by : (b : Bool)
        → ((ts : List ℕ)
        → sum_by (of_participant m) (living_participants gs) + sum_by m (freed gs ts) ≡ sum_by (of_participant m) gs + sum_by m ts)
        → sum_by (of_participant m)
        (((if b then waiting g.path g.token g.home ∷ [] else []) ++ map child_participant g.children) ++ living_participants gs)
        + sum_by m (freed gs (if b then free else g.token ∷ free)) ≡ sum_by (of_participant m) (g ∷ gs) + sum_by m free
    by true rest =
        let a =
        sum_by-cons (of_participant m) (waiting g.path g.token g.home) (map child_participant g.children ++ living_participants gs) in
        let b = sum_by-append (of_participant m) (map child_participant g.children) (living_participants gs) in
        let c = children_sum m g.children in let d = rest free in let e = sum_by-cons (of_participant m) g gs in omega arith
    by false rest =
        let b = sum_by-append (of_participant m) (map child_participant g.children) (living_participants gs) in
        let c = children_sum m g.children in let d = rest (g.token ∷ free) in let e = sum_by-cons (of_participant m) g gs in
        let i = sum_by-cons m g.token free in omega arith

-- each of them is awaited in the next phase

map_at : (roles : List Role) (t : ℕ) → role_at (map turned roles) t ≡ turned (role_at roles t)
map_at [] t = refl
map_at (r ∷ rs) zero = refl
map_at (r ∷ rs) (suc t) = map_at rs t

abbrev IsNew : List Role → ℕ → ParticipantValue → Type 0
IsNew roles tiers g = Sits roles tiers g × (g.stage ≡ Waits)

new : (roles : List Role) (tiers : ℕ) (path : List ℕ) (token home : ℕ) → role_at roles token ≡ Late home
    → IsNew roles tiers (waiting path token home)
new roles tiers path token home e =
    (record { own = e; each = λ k l. absurd (omega arith); turn = tt; homes = λ k l. absurd (omega arith) }, refl)

own_new : (roles : List Role) (tiers : ℕ) (g : ParticipantValue) (b : Bool) → role_at roles g.token ≡ Past g.home (passage_if b)
    → AllByRecursion (IsNew (map turned roles) tiers) (if b then waiting g.path g.token g.home ∷ [] else [])
own_new roles tiers g true e = (new (map turned roles) tiers g.path g.token g.home (map_at roles g.token ∙ ap turned e), tt)
own_new roles tiers g false e = tt

children_new : (roles : List Role) (tiers : ℕ) (ks : List ChildValue)
    → ((k : ℕ) → k < length ks → role_at roles (child_at ks k).token ≡ Past (child_at ks k).home Arrival)
    → AllByRecursion (IsNew (map turned roles) tiers) (map child_participant ks)
children_new roles tiers [] h = tt
children_new roles tiers (k ∷ ks) h = (
  new (map turned roles) tiers k.path k.token k.home (map_at roles k.token ∙ ap turned (h 0 (omega arith))),
  children_new roles tiers ks (λ j l. h (suc j) (omega arith)),
)

living_new : (roles : List Role) (tiers : ℕ) (gs : List ParticipantValue) → AllOver roles tiers gs
    → AllByRecursion (IsNew (map turned roles) tiers) (living_participants gs)
living_new roles tiers [] h = tt
living_new roles tiers (g ∷ gs) h =
    let s = h 0 (omega arith) in
    all_append (IsNew (map turned roles) tiers) (own_participant g ++ map child_participant g.children) (living_participants gs)
    (all_append (IsNew (map turned roles) tiers) (own_participant g) (map child_participant g.children) (own_new roles tiers g g.synced s.own) (children_new roles tiers g.children s.each))
    (living_new roles tiers gs (λ q l. h (suc q) (omega arith)))

own_free : (roles : List Role) (g : ParticipantValue) (free : List ℕ) (b : Bool) → role_at roles g.token ≡ Past g.home (passage_if b)
    → AllByRecursion (λ t. role_at (map turned roles) t ≡ Out) free
    → AllByRecursion (λ t. role_at (map turned roles) t ≡ Out) (if b then free else g.token ∷ free)
own_free roles g free true e a = a
own_free roles g free false e a = (map_at roles g.token ∙ ap turned e, a)

freed_out : (roles : List Role) (tiers : ℕ) (gs : List ParticipantValue) (free : List ℕ) → AllOver roles tiers gs
    → AllByRecursion (λ t. role_at (map turned roles) t ≡ Out) free
    → AllByRecursion (λ t. role_at (map turned roles) t ≡ Out) (freed gs free)
freed_out roles tiers [] free h a = a
freed_out roles tiers (g ∷ gs) free h a =
    let s = h 0 (omega arith) in
    freed_out roles tiers gs (if g.synced then free else g.token ∷ free) (λ q l. h (suc q) (omega arith))
    (own_free roles g free g.synced s.own a)

still_out : (roles : List Role) (ts : List ℕ) → AllByRecursion (λ t. role_at roles t ≡ Out) ts
    → AllByRecursion (λ t. role_at (map turned roles) t ≡ Out) ts
still_out roles [] a = tt
still_out roles (t ∷ ts) a = (map_at roles t ∙ ap turned a.0, still_out roles ts a.1)

over_is : (s : Stage) → is_over s ≡ true → s ≡ Over
over_is Waits e = not_both false e refl
over_is Taken e = not_both false e refl
over_is Polling e = not_both false e refl
over_is (Joining n) e = not_both false e refl
over_is (Arriving n) e = not_both false e refl
over_is Leaving e = not_both false e refl
over_is Over e = refl

both : (a b : Bool) → (a && b) ≡ true → (a ≡ true) × (b ≡ true)
both true b h = (refl, h)
both false b h = cc

pub over_at : (gs : List ParticipantValue) (q : ℕ) → all_over gs ≡ true → q < length gs → (participant_at gs q).stage ≡ Over
over_at [] q h l = absurd (omega arith)
over_at (g ∷ gs) zero h l = over_is g.stage (both (is_over g.stage) (all_over gs) h).0
over_at (g ∷ gs) (suc q) h l = over_at gs q (both (is_over g.stage) (all_over gs) h).1 (omega arith)

-- the superstep

step_fault : (p : Program) (st : State) → (superstep p st).fault ≡ None → (superstep p st).step ≡ suc st.step
step_fault p st h = by (fault_in st.arrays (segments p st.arrays st.step st.live)) h
  where
    by : (o : Option (ℕ × List ℕ)) → (closed st (segments p st.arrays st.step st.live) o).fault ≡ None
        → (closed st (segments p st.arrays st.step st.live) o).step ≡ suc st.step
    by (Some f) e = cc
    by None e = (let one : st.step + 1 ≡ suc st.step = omega arith in one)

pub no_status : (o : Option Status) (st : State) → report_with st o ≡ None → is_some o ≡ false
no_status None st h = refl
no_status (Some s) st h = cc

no_fault : (limit : ℕ) (st : State) → is_some (status limit st) ≡ false → st.fault ≡ None
no_fault limit st h = by st.fault refl h
  where
    by : (o : Option (ℕ × List ℕ)) → st.fault ≡ o → is_some (status_of limit st.step o st.live) ≡ false → st.fault ≡ None
    by None e k = e
    by (Some f) e k = cc

pub some_live : (limit : ℕ) (st : State) → is_some (status limit st) ≡ false → 0 < length st.live
some_live limit st h = by st.fault st.live h
  where
    by : (fault : Option (ℕ × List ℕ)) (live : List Task) → is_some (status_of limit st.step fault live) ≡ false → 0 < length live
    by (Some f) live k = cc
    by None [] k = cc
    by None (t ∷ ts) k = omega arith

nothing : {X : Type 0} (xs : List X) → length xs ≡ 0 → xs ≡ []
nothing [] e = refl
nothing (x ∷ xs) e = absurd (omega arith)

-- the world that closing leaves, if the job goes on
pub closing_works : (parents : List ℕ) (w : World) (roles : List Role) → IsTurning parents w roles → report_in w.limit (next_job w) ≡ None
    → map participant_path (next_participants w.participants) ≡ live_paths (next_job w)
    → (is_some (status w.limit (next_job w)) ≡ false) × IsWorking parents (renewed (record w { job = next_job w })) (map turned roles)
closing_works parents w roles is on paths = (running, works)
  where
    running : is_some (status w.limit (next_job w)) ≡ false
    running = no_status (status w.limit (next_job w)) (next_job w) on

    step : (next_job w).step ≡ suc w.job.step
    step =
        let one = one_superstep w on in
        let e : (superstep w.program w.job).fault ≡ None =
        ap (λ (st : State). st.fault) (sym one.0) ∙ no_fault w.limit (next_job w) running in
        ap (λ (st : State). st.step) one.0 ∙ step_fault w.program w.job e

    some : 0 < length (next_participants w.participants)
    some =
        let a = some_live w.limit (next_job w) running in
        let b : length (live_paths (next_job w)) ≡ length (next_job w).live = length-map (next_job w).live (λ (t : Task). t.path) in
        let c : length (map participant_path (next_participants w.participants)) ≡ length (next_participants w.participants) =
        length-map (next_participants w.participants) participant_path in
        let d : length (map participant_path (next_participants w.participants)) ≡ length (live_paths (next_job w)) = ap length paths in
        omega arith

    goes : (flat_of w.tree).ended ≡ false
    goes = by (flat_of w.tree).ended refl
      where
        by : (b : Bool) → (flat_of w.tree).ended ≡ b → b ≡ false
        by false e = refl
        by true e = ⊎_elim
            (λ (q : length (living_participants w.participants) ≡ 0).
            let none : length (next_participants w.participants) ≡ 0 =
            ap (λ (gs : List ParticipantValue). length (in_path_order participant_path gs))
            (nothing (living_participants w.participants) q) in
            absurd (let a = some in omega arith))
            (λ (q : w.limit ≤ suc w.job.step). absurd (let a = running_step w.limit (next_job w) running in let b = step in omega arith))
            (is.last e)

    all : AllOver roles (length parents) w.participants
    all q l =
        let g : ParticipantValue = participant_at w.participants q in
        subst (λ (s : Stage). SitsAt s roles (length parents) g.token g.home g.children g.synced) (over_at w.participants q is.over l)
        (is.sits q l)

    fresh : AllByRecursion (IsNew (map turned roles) (length parents)) (next_participants w.participants)
    fresh =
        all_order (IsNew (map turned roles) (length parents)) (living_participants w.participants)
        (living_new roles (length parents) w.participants all)

    works : IsWorking parents (renewed (record w { job = next_job w })) (map turned roles)
    works = record {
      built = record { shape = is.built.shape; plan = is.built.plan; leaves = is.built.leaves };
      cast = is.cast goes;
      phase = is.phase goes ∙ sym step;
      sits = λ q l. (all_at (IsNew (map turned roles) (length parents)) (next_participants w.participants) q fresh l).0;
      shared = λ m.
          let a = sum_order (of_participant m) (living_participants w.participants) in
          let b = living_sum m w.participants w.free in let c = is.shared m in omega arith;
      free = freed_out roles (length parents) w.participants w.free all (still_out roles w.free is.free);
      waits = λ q a l. (all_at (IsNew (map turned roles) (length parents)) (next_participants w.participants) q fresh l).1;
    }

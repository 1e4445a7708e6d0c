-- What holds of rounds and of jobs.
use Rattle.std.proofs.Common.{◌≡◌, ℕ, zero, suc, ◌+◌, ◌-◌, ◌≤◌, ◌<◌, Bool, true, false, nat_le, List, [], ◌∷◌, ◌++◌, length, map, ℤ, Option, Some, None, is_some, slice_get, refl, sym, ap, ◌∙◌, subst, arith, append_assoc}
use Rattle.std.specs.Prelude.{if◌then◌else◌}
use Rattle.std.proofs.lemmas.List.{append-nil}
use Rattle.superstep_memory.specs.Paths.{path_lt}
use Rattle.phase_records.specs.Status.{Status, Limit}
use Rattle.task_lang.specs.Meaning.{Task, After, Segment, segment_of}
use Rattle.programs.specs.Meaning.{Synced, Stopped, Faulted}
use Rattle.task_lang.specs.Views.{plans}
use Rattle.step_core.specs.Program.{Program, program_of}
use Rattle.superstep_memory.specs.PathOrder.{put_in, in_path_order}
use Rattle.step_core.specs.Superstep.{State, superstep, closed, segments, too_many, fault_in, next_live, job_says}
use Rattle.programs.specs.Superstep.{gone_on, first_fault, overflow, or_next, or_later, living_on, synced, stopped, spawned, left, record_of}
use Rattle.step_core.specs.JobMeaning.{so_far, report_of, starts}
use Rattle.programs.specs.Supersteps.{status, status_of, unless_ended}
use Rattle.step_core.specs.SlotValue.{SlotValue}
use Rattle.step_core.specs.Slots.{delivered, first_missing}
use Rattle.step_core.specs.OrderValue.{DeliveryValue, IsDelivery}
use Rattle.step_core.specs.RoundValue.{RoundValue, IsRound, state_of, status_in, slots_in, with_slots}
use Rattle.step_core.specs.Taking.{Takes, IsFor, with_delivery}
use Rattle.step_core.specs.Laws.{
  FormatsMeanTheSame,
  after_all,
  TakesAll,
  DeliveryOrderIsFree,
  IsBeginning,
  LongerLimitsOnlyAdd,
  JobsEnd,
  RecordsAgree,
  NextLiveSyncedOrSpawned,
  paths_on,
}
use Rattle.step_core.proofs.Rounds.{taken, set_is_with, here, tasks_stay}
use Rattle.step_core.proofs.Closed.{all_delivered}
use Rattle.programs.proofs.Runs.{always_reported}
use Rattle.superstep_memory.proofs.InOrder.{put_all_mapped}
use Rattle.std.proofs.lemmas.List.{map-append}
use Rattle.task_lang.proofs.AllSegments.{stays-the-same-task}
use Rattle.step_core.specs.OrderValue.{spawned_paths, is_synced}
use Rattle.step_core.specs.Superstep.{live_paths}

-- ---- deliveries in any order

-- what stays while deliveries come
record Kept (r s : RoundValue) : Type 0 where
  pub round : IsRound s
  pub job : s.job ≡ r.job
  pub limit : s.limit ≡ r.limit
  pub state : state_of s ≡ state_of r

kept_run : (r s : RoundValue) → Kept r s → status_in r ≡ None → status_in s ≡ None
kept_run r s k run = (λ i. status (k.limit i) (k.state i)) ∙ run

kept_one : (r : RoundValue) → IsRound r → status_in r ≡ None → (d : DeliveryValue) → Takes r d → IsDelivery d → Kept r (with_delivery r d)
kept_one r h run d t k = by (slice_get r.slots d.place) refl
  where
    same : state_of (with_delivery r d) ≡ state_of r
    same = ap (λ (ts : List Task). record (state_of r) { live = ts }) (tasks_stay (plans r.job.bodies) r.slots d.place d.segment)

    by : (o : Option SlotValue) → slice_get r.slots d.place ≡ o → Kept r (with_delivery r d)
    by None e = absurd (subst (IsFor d.path) e t.ordered.1)
    by (Some s) e = record {
      round =
          subst (λ ss. IsRound (with_slots r ss)) (set_is_with r.slots d.place s d.segment e)
          (taken r h run d.place s d.path d.segment e (here r d.job d.step d.place d.place d.path d.segment t.ordered.0 t.step refl k));
      job = refl;
      limit = refl;
      state = same;
    }

kept_then : (r s u : RoundValue) → Kept r s → Kept s u → Kept r u
kept_then r s u a b = record { round = b.round; job = b.job ∙ a.job; limit = b.limit ∙ a.limit; state = b.state ∙ a.state }

kept_all : (r : RoundValue) → IsRound r → status_in r ≡ None → (ds : List DeliveryValue) → TakesAll r ds → Kept r (after_all r ds)
kept_all r h run [] t = record { round = h; job = refl; limit = refl; state = refl }
kept_all r h run (d ∷ ds) t =
    let one = kept_one r h run d t.0 t.1 in
    kept_then r (with_delivery r d) (after_all (with_delivery r d) ds) one
    (kept_all (with_delivery r d) one.round (kept_run r (with_delivery r d) one run) ds t.2)

whole_is : (r s : RoundValue) → Kept r s → first_missing (slots_in s) ≡ None
    → delivered (slots_in s) ≡ segments (program_of r.job) (state_of r).arrays (state_of r).step (state_of r).live
whole_is r s k m =
    all_delivered (program_of s.job) s.arrays s.step (slots_in s) k.round.fits m
    ∙ (λ i. segments (program_of (k.job i)) (k.state i).arrays (k.state i).step (k.state i).live)

pub delivery-order-is-free : DeliveryOrderIsFree
delivery-order-is-free r ds es h run td te md me =
    let d = kept_all r h run ds td in
    let e = kept_all r h run es te in
    (d.state ∙ sym e.state, whole_is r (after_all r ds) d md ∙ sym (whole_is r (after_all r es) e me))

-- ---- limits

closed_step : (st : State) (ss : List (List ℕ × Segment)) (f : Option (ℕ × List ℕ)) → (closed st ss f).step ≤ st.step + 1
closed_step st ss (Some f) = omega arith
closed_step st ss None = omega arith

-- no more supersteps than were asked for
at_most : (p : Program) (limit k : ℕ) → (so_far p limit k).step ≤ k
at_most p limit zero = omega arith
at_most p limit (suc k) =
    by (status limit (so_far p limit k)) (at_most p limit k)
    (closed_step st (segments p st.arrays st.step st.live) (fault_in st.arrays (segments p st.arrays st.step st.live)))
  where
    st : State
    st = so_far p limit k

    by : (o : Option Status) → (so_far p limit k).step ≤ k → (superstep p (so_far p limit k)).step ≤ (so_far p limit k).step + 1
        → (unless_ended o (so_far p limit k) (superstep p (so_far p limit k))).step ≤ suc k
    by None a b = omega arith
    by (Some s) a b = omega arith

-- below both limits it doesn't matter which one holds
same_going : (m n step : ℕ) (f : Option (ℕ × List ℕ)) (live : List Task) (st next : State) → step < m → step < n
    → unless_ended (status_of m step f live) st next ≡ unless_ended (status_of n step f live) st next
same_going m n step (Some f) live st next a b = refl
same_going m n step None [] st next a b = refl
same_going m n step None (t ∷ ts) st next a b =
    let x : nat_le m step ≡ false = grind arith in
    let y : nat_le n step ≡ false = grind arith in
    ap (λ c. unless_ended (if c then Some (Limit step) else None) st next) (x ∙ sym y)

same_so_far : (p : Program) (m n k : ℕ) → k ≤ m → m ≤ n → so_far p n k ≡ so_far p m k
same_so_far p m n zero a b = refl
same_so_far p m n (suc k) a b =
    let before : so_far p n k ≡ so_far p m k = same_so_far p m n k (omega arith) b in
    let st = so_far p m k in
    let few = at_most p m k in
    ap (λ (x : State). unless_ended (status n x) x (superstep p x)) before
    ∙ same_going n m st.step st.fault st.live st (superstep p st) (omega arith) (omega arith)

begins : {A : Type 0} (xs ys zs : List A) → IsBeginning xs ys → IsBeginning ys zs → IsBeginning xs zs
begins xs ys zs a b = (a.0 ++ b.0, b.1 ∙ ap (λ ws. ws ++ b.0) a.1 ∙ append_assoc xs a.0 b.0)

begins_same : {A : Type 0} (xs : List A) → IsBeginning xs xs
begins_same xs = ([], sym (append-nil xs))

record Adds (st next : State) : Type 0 where
  pub prints : IsBeginning st.prints next.prints
  pub records : IsBeginning st.records next.records

adds_same : (st : State) → Adds st st
adds_same st = record { prints = begins_same st.prints; records = begins_same st.records }

closed_adds : (st : State) (ss : List (List ℕ × Segment)) (f : Option (ℕ × List ℕ)) → Adds st (closed st ss f)
closed_adds st ss (Some f) = record { prints = begins_same st.prints; records = begins_same st.records }
closed_adds st ss None = record { prints = (_, refl); records = (_, refl) }

one_adds : (p : Program) (limit k : ℕ) → Adds (so_far p limit k) (so_far p limit (suc k))
one_adds p limit k = by (status limit st)
  where
    st : State
    st = so_far p limit k

    by : (o : Option Status) → Adds (so_far p limit k) (unless_ended o (so_far p limit k) (superstep p (so_far p limit k)))
    by None = closed_adds st (segments p st.arrays st.step st.live) (fault_in st.arrays (segments p st.arrays st.step st.live))
    by (Some s) = adds_same st

more_adds : (p : Program) (limit m k : ℕ) → Adds (so_far p limit m) (so_far p limit (k + m))
more_adds p limit m zero = let e : m ≡ zero + m = omega arith in
    subst (λ n. Adds (so_far p limit m) (so_far p limit n)) e (adds_same (so_far p limit m))
more_adds p limit m (suc k) =
    let e : suc (k + m) ≡ suc k + m = omega arith in
    let a = more_adds p limit m k in
    let b = one_adds p limit (k + m) in
    subst (λ n. Adds (so_far p limit m) (so_far p limit n)) e
    record {
      prints = begins (so_far p limit m).prints (so_far p limit (k + m)).prints (so_far p limit (suc (k + m))).prints a.prints b.prints;
      records =
          begins (so_far p limit m).records (so_far p limit (k + m)).records (so_far p limit (suc (k + m))).records a.records b.records;
    }

pub longer-limits-only-add : LongerLimitsOnlyAdd
longer-limits-only-add p m n le =
    let same = same_so_far p m n m (omega arith) le in
    let e : (n - m) + m ≡ n = omega arith in
    let a : Adds (so_far p m m) (so_far p n n) =
    subst (λ (x : State). Adds x (so_far p n n)) same (subst (λ k. Adds (so_far p n m) (so_far p n k)) e (more_adds p n m (n - m))) in
    (same, a.prints, a.records)

pub jobs-end : JobsEnd
jobs-end p limit = by (report_of p limit) (always_reported (job_says p.plans) p.arrays (starts p) limit)
  where
    by : {A : Type 0} (o : Option A) → (o ≡ None → ⊥) → is_some o ≡ true
    by None h = absurd (h refl)
    by (Some x) h = refl

-- ---- records

length_append : {A : Type 0} (xs ys : List A) → length (xs ++ ys) ≡ length xs + length ys
length_append [] ys = omega arith
length_append (x ∷ xs) ys = let m = length_append xs ys in omega (arith, m)

length_put : (t : Task) (ts : List Task) → length (put_in (λ (u : Task). u.path) t ts) ≡ suc (length ts)
length_put t [] = refl
length_put t (u ∷ us) = by (path_lt u.path t.path) (length_put t us)
  where
    by : (b : Bool) → length (put_in (λ (u : Task). u.path) t us) ≡ suc (length us)
        → length (if b then u ∷ put_in (λ (u : Task). u.path) t us else t ∷ u ∷ us) ≡ suc (suc (length us))
    by true m = ap suc m
    by false m = refl

length_ordered : (ts : List Task) → length (in_path_order (λ (u : Task). u.path) ts) ≡ length ts
length_ordered [] = refl
length_ordered (t ∷ ts) = length_put t (in_path_order (λ (u : Task). u.path) ts) ∙ ap suc (length_ordered ts)

-- a task that doesn't fault syncs or stops
one_tallies : (path : List ℕ) (a : After) (later : Option (ℕ × List ℕ)) → or_later later path a ≡ None
    → (later ≡ None) × (length (synced a) + stopped a ≡ 1)
one_tallies path (Synced t) later h = (h, refl)
one_tallies path Stopped later h = (h, refl)
one_tallies path (Faulted f) later h = cc

all_agree : (ss : List (List ℕ × Segment)) → first_fault ss ≡ None → length (living_on ss) + left ss ≡ length ss + spawned ss
all_agree [] h = refl
all_agree (s ∷ ss) h =
    let one = one_tallies s.0 s.1.after (first_fault ss) h in
    let more = all_agree ss one.0 in
    let x = length_append (synced s.1.after ++ s.1.spawns) (living_on ss) in
    let y = length_append (synced s.1.after) s.1.spawns in
    omega (arith, one.1, more, x, y)

none_of : (a b : Option (ℕ × List ℕ)) → or_next a b ≡ None → a ≡ None
none_of None b h = refl
none_of (Some f) b h = cc

closed_tallies : (st : State) (ss : List (List ℕ × Segment)) (f : Option (ℕ × List ℕ)) → fault_in st.arrays ss ≡ f
    → (closed st ss f).fault ≡ None
    → length (closed st ss f).live + (record_of st.step ss).left ≡ (record_of st.step ss).parties
closed_tallies st ss (Some f) e h = cc
closed_tallies st ss None e h =
    let l = length_ordered (living_on ss) in
    let m = all_agree ss (none_of (first_fault ss) (or_next (too_many (next_live ss)) (overflow st.arrays ss)) e) in
    omega (arith, l, m)

pub records-agree : RecordsAgree
records-agree p st h =
    closed_tallies st (segments p st.arrays st.step st.live) (fault_in st.arrays (segments p st.arrays st.step st.live)) refl h

living_paths : (p : Program) (a : List (List ℕ × List ℤ)) (n : ℕ) (ts : List Task)
    → map (λ (t : Task). t.path) (living_on (segments p a n ts)) ≡ paths_on (segments p a n ts)
living_paths p a n [] = refl
living_paths p a n (t ∷ ts) =
    let g = segment_of p.plans t a n in
    map-append (λ (t : Task). t.path) (synced g.after ++ g.spawns) (living_on (segments p a n ts))
    ∙ (λ i. (map-append (λ (t : Task). t.path) (synced g.after) g.spawns i) ++ living_paths p a n ts i)
    ∙ ap (λ (xs : List (List ℕ)). (xs ++ spawned_paths g) ++ paths_on (segments p a n ts))
    (by g.after (λ u e. (stays-the-same-task p.plans t u a n e).0))
  where
    by : (x : After) → ((u : Task) → x ≡ Synced u → u.path ≡ t.path)
        → map (λ (t : Task). t.path) (synced x) ≡ (if is_synced x then t.path ∷ [] else [])
    by (Synced u) h = ap (λ (q : List ℕ). q ∷ []) (h u refl)
    by Stopped h = refl
    by (Faulted f) h = refl

pub next-live-synced-or-spawned : NextLiveSyncedOrSpawned
next-live-synced-or-spawned p st = by (fault_in st.arrays ss)
  where
    ss : List (List ℕ × Segment)
    ss = segments p st.arrays st.step st.live

    all : live_paths (gone_on st ss (next_live ss)) ≡ in_path_order (λ (path : List ℕ). path) (paths_on ss)
    all =
        put_all_mapped (λ (t : Task). t.path) (λ (path : List ℕ). path) (λ (t : Task). t.path) (λ t. refl) (living_on ss) []
        ∙ ap (in_path_order (λ (path : List ℕ). path)) (living_paths p st.arrays st.step st.live)

    by : (o : Option (ℕ × List ℕ)) → (closed st ss o).fault ≡ None
        → live_paths (closed st ss o) ≡ in_path_order (λ (path : List ℕ). path) (paths_on ss)
    by (Some f) h = cc
    by None h = all

pub formats-mean-the-same : FormatsMeanTheSame
formats-mean-the-same j k limit arrays bodies starts =
    λ i. report_of (record { arrays = arrays i; plans = plans (bodies i); starts = starts i }) limit

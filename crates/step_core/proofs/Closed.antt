-- What closing a round is.
use Rattle.std.proofs.Common.{◌≡◌, ℕ, suc, ◌+◌, ◌≤◌, ◌<◌, Bool, true, false, nat_lt, List, [], ◌∷◌, ◌++◌, map, length, Option, Some, None, refl, sym, ap, ◌∙◌, subst, arith}
use Rattle.std.specs.Prelude.{ℤ, IsSome, if◌then◌else◌}
use Rattle.std.specs.Option.{option_map}
use Rattle.superstep_memory.specs.Landing.{landed, joined}
use Rattle.phase_records.specs.PrintValue.{PrintValue}
use Rattle.phase_records.specs.declared.record.PhaseRecord.{PhaseRecord}
use Rattle.task_lang.specs.TaskValue.{TaskValue}
use Rattle.task_lang.specs.SegmentValue.{SegmentValue}
use Rattle.task_lang.specs.Meaning.{Plan, Task, Segment, segment_of}
use Rattle.task_lang.specs.Views.{plans, task_of, meant}
use Rattle.task_lang.proofs.AllSegments.{numbers-its-spawns}
use Rattle.step_core.specs.Program.{Program, program_of}
use Rattle.superstep_memory.specs.PathOrder.{in_path_order}
use Rattle.step_core.specs.Superstep.{State, superstep, closed, closed_by, segments, too_many, fault_in, next_live, job_says}
use Rattle.programs.specs.Superstep.{ended_by, gone_on, first_fault, overflow, or_next, log_of, prints_of, record_of}
use Rattle.smallvec.specs.SmallVec.{SmallVec}
use Rattle.task_code.specs.JobValue.{JobValue}
use Rattle.task_code.specs.declared.job.Start.{Start}
use Rattle.task_code.specs.BodyValue.{BodyValue}
use Rattle.step_core.specs.declared.fault.Outcome.TheVariants.{TooMany, Landed, Overflowed}
use Rattle.step_core.specs.Taking.{outcome_of, outcome_by}
use Rattle.step_core.specs.JobMeaning.{so_far, initial, start_tasks, starts}
use Rattle.programs.specs.Supersteps.{status}
use Rattle.step_core.specs.SlotValue.{SlotValue}
use Rattle.step_core.specs.FinishedValue.{FinishedValue}
use Rattle.step_core.specs.Slots.{Slot, slot_of, slots_of, finished_by, task_in, delivered, with_done, first_missing, or_missing, fresh, all_prints, all_counts}
use Rattle.step_core.specs.SlotParts.{path_in, path_of, living_in, fresh_slot, IsSmall, AllSmall}
use Rattle.step_core.specs.RoundValue.{RoundValue, IsRound, Fits, AllFit, AllFresh, Opens, state_of, status_in, slots_in, whole, with_fault}
use Rattle.programs.proofs.Runs.{goes, no_fault}
use Rattle.superstep_memory.proofs.InOrder.{put_all_mapped, count_in_order}
use Rattle.std.proofs.lemmas.List.{length-map}
use Rattle.step_core.proofs.Deeds.{living_mapped}

one_delivered : (p : Program) (a : List (List ℕ × List ℤ)) (n : ℕ) (t : Task) (ss : List Slot) (o : Option Segment) → Fits p.plans a n t o
    → or_missing o t.path (first_missing ss) ≡ None → (first_missing ss ≡ None → delivered ss ≡ segments p a n (map task_in ss))
    → with_done t.path o (delivered ss) ≡ (t.path, segment_of p.plans t a n) ∷ segments p a n (map task_in ss)
one_delivered p a n t ss None f m more = cc
one_delivered p a n t ss (Some g) f m more =
    ap (λ (x : Segment). (t.path, x) ∷ delivered ss) f ∙ ap (λ xs. (t.path, segment_of p.plans t a n) ∷ xs) (more m)

-- where nothing is missing, what was delivered is what each live task does
pub all_delivered : (p : Program) (a : List (List ℕ × List ℤ)) (n : ℕ) (ss : List Slot) → AllFit p.plans a n ss → first_missing ss ≡ None
    → delivered ss ≡ segments p a n (map task_in ss)
all_delivered p a n [] h m = refl
all_delivered p a n (s ∷ ss) h m = one_delivered p a n s.task ss s.done h.0 m (λ q. all_delivered p a n ss h.1 q)

pub fresh_mapped : (ps : List Plan) (ts : List TaskValue) → slots_of ps (map fresh_slot ts) ≡ map fresh (map (task_of ps) ts)
fresh_mapped ps [] = refl
fresh_mapped ps (t ∷ ts) = ap (λ (xs : List Slot). fresh (task_of ps t) ∷ xs) (fresh_mapped ps ts)

fresh_fit : (ps : List Plan) (a : List (List ℕ × List ℤ)) (n : ℕ) (ts : List Task) → AllFit ps a n (map fresh ts)
fresh_fit ps a n [] = tt
fresh_fit ps a n (t ∷ ts) = (tt, fresh_fit ps a n ts)

fresh_tasks : (ts : List Task) → map task_in (map fresh ts) ≡ ts
fresh_tasks [] = refl
fresh_tasks (t ∷ ts) = ap (λ xs. t ∷ xs) (fresh_tasks ts)

fresh_length : (ts : List Task) → length (map fresh ts) ≡ length ts
fresh_length [] = refl
fresh_length (t ∷ ts) = ap suc (fresh_length ts)

slots_length : (ps : List Plan) (ss : List SlotValue) → length (slots_of ps ss) ≡ length ss
slots_length ps [] = refl
slots_length ps (s ∷ ss) = ap suc (slots_length ps ss)

all_fresh : (ts : List TaskValue) → AllFresh (map fresh_slot ts)
all_fresh [] = tt
all_fresh (t ∷ ts) = (refl, all_fresh ts)

-- no segment that was delivered spawns over eight tasks
small_by : (ps : List Plan) (a : List (List ℕ × List ℤ)) (n : ℕ) (t : Task) (o : Option SegmentValue)
    → Fits ps a n t (option_map (meant ps) o) → IsSmall o
small_by ps a n t None h = tt
small_by ps a n t (Some g) h =
    let l : length (map (task_of ps) g.spawns) ≡ length (segment_of ps t a n).spawns = ap (λ (x : Segment). length x.spawns) h in
    let m = mapped g.spawns in
    let few = (numbers-its-spawns ps t a n).0 in
    omega (arith, l, m, few)
  where
    mapped : (ts : List TaskValue) → length (map (task_of ps) ts) ≡ length ts
    mapped [] = refl
    mapped (t ∷ ts) = ap suc (mapped ts)

pub all_small : (ps : List Plan) (a : List (List ℕ × List ℤ)) (n : ℕ) (ss : List SlotValue) → AllFit ps a n (slots_of ps ss) → AllSmall ss
all_small ps a n [] h = tt
all_small ps a n (s ∷ ss) h = (small_by ps a n (task_of ps s.task) s.done h.0, all_small ps a n ss h.1)

-- a round that is to be closed
pub record Closes (r : RoundValue) : Type 0 where
  pub round : IsRound r
  pub run : status_in r ≡ None
  pub all : first_missing (slots_in r) ≡ None

abbrev pub deeds : RoundValue → List (List ℕ × Segment)
deeds r = delivered (slots_in r)

abbrev pub next_state : RoundValue → State
next_state r = superstep (program_of r.job) (state_of r)

-- a round after one superstep more
abbrev pub IsClosed : RoundValue → RoundValue → Type 0
IsClosed r new = IsRound new × Opens new r.job r.limit (next_state r)

one_more : (r : RoundValue) → Closes r → (st : State) → st ≡ next_state r → (n : ℕ) × (st ≡ so_far (program_of r.job) r.limit n)
one_more r c st e =
    let n = c.round.reached.0 in
    let q = c.round.reached.1 in
    let p = program_of r.job in (
      suc n,
      e ∙ ap (superstep p) q
          ∙ sym
          (goes (job_says p.plans) p.arrays (starts p) (status r.limit (so_far p r.limit n)) (so_far p r.limit n) (superstep p (so_far p r.limit n)) (ap (status r.limit) (sym q) ∙ c.run)),
    )

-- a superstep by what was delivered
by_delivered : (r : RoundValue) → Closes r → next_state r ≡ closed (state_of r) (deeds r) (fault_in r.arrays (deeds r))
by_delivered r c = ap (closed_by (state_of r)) (sym (all_delivered (program_of r.job) r.arrays r.step (slots_in r) c.round.fits c.all))

-- a round that this fault ends
abbrev pub EndsBy : RoundValue → ℕ × List ℕ → Type 0
EndsBy r f = IsRound (with_fault r f) × ((new : RoundValue) → new ≡ with_fault r f → Opens new r.job r.limit (next_state r))

-- a superstep that this fault ends leaves such a round
by_fault : (r : RoundValue) → Closes r → (f : ℕ × List ℕ) → next_state r ≡ ended_by (state_of r) f → EndsBy r f
by_fault r c f e = (
  record { reached = one_more r c (ended_by (state_of r) f) (sym e); fits = c.round.fits; few = c.round.few },
  λ new is. subst (λ (x : RoundValue). Opens x r.job r.limit (next_state r)) (sym is)
      (record { job = refl; limit = refl; state = sym e; none_yet = λ h. cc }),
)

not_many : (ts : List Task) → nat_lt 4096 (length ts) ≡ false → too_many ts ≡ None
not_many ts b = ap (λ (t : Bool). if t then Some (7, []) else None) b

are_many : (ts : List Task) → nat_lt 4096 (length ts) ≡ true → too_many ts ≡ Some (7, [])
are_many ts b = ap (λ (t : Bool). if t then Some (7, []) else None) b

-- the next live tasks as the code has them
pub next_mapped : (ps : List Plan) (ss : List SlotValue)
    → map (task_of ps) (in_path_order path_in (living_in ss)) ≡ next_live (delivered (slots_of ps ss))
next_mapped ps ss =
    put_all_mapped path_in (λ (t : Task). t.path) (task_of ps) (λ t. refl) (living_in ss) []
    ∙ ap (in_path_order (λ (t : Task). t.path)) (living_mapped ps ss)

next_length : (r : RoundValue) (xs : List SlotValue) → xs ≡ map fresh_slot (in_path_order path_in (living_in r.slots))
    → length (next_live (deeds r)) ≡ length xs
next_length r xs e =
    let ps = plans r.job.bodies in
    ap length (sym (next_mapped ps r.slots))
    ∙ sym (fresh_length (map (task_of ps) (in_path_order path_in (living_in r.slots))))
    ∙ ap length (sym (fresh_mapped ps (in_path_order path_in (living_in r.slots))))
    ∙ ap (λ (ys : List SlotValue). length (slots_of ps ys)) (sym e)
    ∙ slots_length ps xs

-- how many they are
next_count : (ss : List SlotValue) (n : ℕ) → n ≡ length (living_in ss) → length (map fresh_slot (in_path_order path_in (living_in ss))) ≡ n
next_count ss n e = length-map (in_path_order path_in (living_in ss)) fresh_slot ∙ count_in_order path_in (living_in ss) ∙ sym e

-- the round goes on
pub gone_further : (r : RoundValue) → Closes r → first_fault (deeds r) ≡ None → overflow r.arrays (deeds r) ≡ None → (xs : List SlotValue)
    → xs ≡ map fresh_slot (in_path_order path_in (living_in r.slots)) → length xs ≤ 4096
    → (a : List (List ℕ × List ℤ)) → a ≡ landed (joined (map log_of (deeds r))) r.arrays
    → (prints : List PrintValue) → prints ≡ r.prints ++ prints_of r.step (deeds r)
    → (records : List PhaseRecord) → records ≡ r.records ++ record_of r.step (deeds r) ∷ []
    → IsClosed r (record r { step = r.step + 1; arrays = a; slots = xs; prints = prints; records = records })
gone_further r c none fits xs ex le a ea prints ep records er =
    let ps = plans r.job.bodies in
    let ts = in_path_order path_in (living_in r.slots) in
    let l = next_length r xs ex in
    let b : nat_lt 4096 (length (next_live (deeds r))) ≡ false = grind arith in
    let k : next_state r ≡ gone_on (state_of r) (deeds r) (next_live (deeds r)) =
    by_delivered r c ∙ (λ i. closed (state_of r) (deeds r) (or_next (none i) (or_next (not_many (next_live (deeds r)) b i) (fits i)))) in
    let slots : slots_of ps xs ≡ map fresh (map (task_of ps) ts) = ap (slots_of ps) ex ∙ fresh_mapped ps ts in
    let live : map task_in (slots_of ps xs) ≡ next_live (deeds r) =
    ap (map task_in) slots ∙ fresh_tasks (map (task_of ps) ts) ∙ next_mapped ps r.slots in
    let s : state_of (record r { step = r.step + 1; arrays = a; slots = xs; prints = prints; records = records }) ≡ next_state r =
    (λ i.
    record {
      step = r.step + 1;
      arrays = ea i;
      live = live i;
      prints = ep i;
      records = er i;
      fault =
          no_fault (job_says (program_of r.job).plans) (program_of r.job).arrays (starts (program_of r.job)) r.limit (state_of r) c.run i;
    })
    ∙ sym k in (
      record {
        reached = one_more r c _ s;
        fits = subst (AllFit ps a (r.step + 1)) (sym slots) (fresh_fit ps a (r.step + 1) (map (task_of ps) ts));
        few = le;
      },
      record { job = refl; limit = refl; state = s; none_yet = λ h. subst AllFresh (sym ex) (all_fresh ts) },
    )

-- one superstep more was printed and recorded
pub more_prints : (fs gs : List FinishedValue) (f : FinishedValue) → gs ≡ fs ++ f ∷ [] → all_prints gs ≡ all_prints fs ++ f.prints
more_prints fs gs f e = ap all_prints e ∙ by fs
  where
    nil : (xs : List PrintValue) → xs ++ [] ≡ xs
    nil [] = refl
    nil (x ∷ xs) = ap (λ ys. x ∷ ys) (nil xs)

    assoc : (xs ys zs : List PrintValue) → xs ++ (ys ++ zs) ≡ (xs ++ ys) ++ zs
    assoc [] ys zs = refl
    assoc (x ∷ xs) ys zs = ap (λ ws. x ∷ ws) (assoc xs ys zs)

    by : (fs : List FinishedValue) → all_prints (fs ++ f ∷ []) ≡ all_prints fs ++ f.prints
    by [] = nil f.prints
    by (g ∷ gs) = ap (λ (xs : List PrintValue). g.prints ++ xs) (by gs) ∙ assoc g.prints (all_prints gs) f.prints

pub more_reported : (fs gs : List FinishedValue) (f : FinishedValue) → gs ≡ fs ++ f ∷ [] → all_counts gs ≡ all_counts fs ++ f.counts ∷ []
more_reported fs gs f e = ap all_counts e ∙ by fs
  where
    by : (fs : List FinishedValue) → all_counts (fs ++ f ∷ []) ≡ all_counts fs ++ f.counts ∷ []
    by [] = refl
    by (g ∷ gs) = ap (λ (xs : List PhaseRecord). g.counts ∷ xs) (by gs)

-- as the code keeps it
pub went_on : (job : JobValue) (limit step : ℕ) (arrays : List (List ℕ × List ℤ)) (slots : List SlotValue) (finished : List FinishedValue)
    (fault : Option (ℕ × List ℕ))
    → Closes (whole job limit step arrays slots finished fault)
    → first_fault (deeds (whole job limit step arrays slots finished fault)) ≡ None
    → overflow arrays (deeds (whole job limit step arrays slots finished fault)) ≡ None → (xs : List SlotValue)
    → xs ≡ map fresh_slot (in_path_order path_in (living_in slots)) → length xs ≤ 4096
    → (a : List (List ℕ × List ℤ)) → a ≡ landed (joined (map log_of (deeds (whole job limit step arrays slots finished fault)))) arrays
    → (fs : List FinishedValue) → fs ≡ finished ++ finished_by step (deeds (whole job limit step arrays slots finished fault)) ∷ []
    → IsClosed (whole job limit step arrays slots finished fault) (whole job limit (step + 1) a xs fs fault)
went_on job limit step arrays slots finished fault c none fits xs ex le a ea fs ef =
    let f = finished_by step (deeds (whole job limit step arrays slots finished fault)) in
    gone_further (whole job limit step arrays slots finished fault) c none fits xs ex le a ea
    (all_prints fs) (more_prints finished fs f ef) (all_counts fs) (more_reported finished fs f ef)

pub closed_now : (r now new : RoundValue) → r ≡ now → IsClosed r new → Opens new now.job now.limit (next_state now)
closed_now r now new e h = subst (λ x. Opens new x.job x.limit (next_state x)) e h.1

-- the slots of a round were looked through: nothing is missing, and this is the first fault
pub record IsLookedThrough (r : RoundValue) (ss : List SlotValue) (fault : Option (ℕ × List ℕ)) : Type 0 where
  pub closes : Closes r
  pub first : first_fault (deeds r) ≡ fault
  pub slots : ss ≡ r.slots

-- the two searches through the slots of a running round tell that
pub looked_through : {r now : RoundValue} {ss : List SlotValue} {o : Option (SmallVec ℕ)} {fault : Option (ℕ × List ℕ)}
    → IsRound r → r ≡ now → status_in now ≡ None → ss ≡ r.slots
    → ((ps : List Plan) → option_map path_of o ≡ first_missing (slots_of ps ss)) → o ≡ None
    → ((ps : List Plan) → fault ≡ first_fault (delivered (slots_of ps ss))) → IsLookedThrough now ss fault
looked_through {now = now} round is run slots missing whole first =
    let ps = plans now.job.bodies in
    let at = slots ∙ ap (λ (x : RoundValue). x.slots) is in
    record {
      closes = record {
        round = subst IsRound is round;
        run = run;
        all = ap (λ (xs : List SlotValue). first_missing (slots_of ps xs)) (sym at) ∙ sym (missing ps) ∙ ap (option_map path_of) whole;
      };
      first = ap (λ (xs : List SlotValue). first_fault (delivered (slots_of ps xs))) (sym at) ∙ sym (first ps);
      slots = at;
    }

-- a round in whose slots a fault was found is ended by it
pub ends_faulted : {r : RoundValue} {ss : List SlotValue} {fault : Option (ℕ × List ℕ)} {f : ℕ × List ℕ}
    → IsLookedThrough r ss fault → fault ≡ Some f → EndsBy r f
ends_faulted {r = r} {f = f} at some =
    by_fault r at.closes f
    (by_delivered r at.closes
    ∙ ap (λ o. closed (state_of r) (deeds r) (or_next o (or_next (too_many (next_live (deeds r))) (overflow r.arrays (deeds r)))))
    (at.first ∙ some))

-- one in which none was found, but after which too many would live, is ended by that, and tells so
pub ends_by_many : {r : RoundValue} {ss : List SlotValue} {fault : Option (ℕ × List ℕ)} {n : ℕ} {f : ℕ × List ℕ}
    → IsLookedThrough r ss fault → fault ≡ None → n ≡ length (living_in ss) → 4096 < n → f ≡ (7, [])
    → EndsBy r f × (TooMany ≡ outcome_of r.arrays (deeds r))
ends_by_many {r = r} {n = n} {f = f} at none count many seven =
    let l = next_length r (map fresh_slot (in_path_order path_in (living_in r.slots))) refl in
    let k = next_count r.slots n (count ∙ ap (λ (xs : List SlotValue). length (living_in xs)) at.slots) in
    let b : nat_lt 4096 (length (next_live (deeds r))) ≡ true = grind arith in
    let faultless = at.first ∙ none in (
      by_fault r at.closes f
          (by_delivered r at.closes
          ∙ (λ i. closed (state_of r) (deeds r) (or_next (faultless i) (or_next (are_many (next_live (deeds r)) b i) (overflow r.arrays (deeds r)))))
          ∙ ap (ended_by (state_of r)) (sym seven)),
      sym (λ i. outcome_by (faultless i) (are_many (next_live (deeds r)) b i) (overflow r.arrays (deeds r))),
    )

-- a round that lands, and how many live then
pub lands : (r now : RoundValue) → IsRound r → r ≡ now → status_in now ≡ None → first_missing (slots_in now) ≡ None
    → first_fault (delivered (slots_in now)) ≡ None → (count : ℕ) → count ≡ length (living_in now.slots)
    → Closes r × (first_fault (deeds r) ≡ None) × (length (map fresh_slot (in_path_order path_in (living_in r.slots))) ≡ count)
lands r now round is run all none count k = (
  record {
    round = round;
    run = ap status_in is ∙ run;
    all = ap (λ (x : RoundValue). first_missing (slots_in x)) is ∙ all;
  },
  ap (λ (x : RoundValue). first_fault (deeds x)) is ∙ none,
  next_count r.slots count (k ∙ ap (λ (x : RoundValue). length (living_in x.slots)) (sym is)),
)

pub few_outcome : (r now : RoundValue) → r ≡ now → first_fault (deeds r) ≡ None → overflow r.arrays (deeds r) ≡ None → (xs : List SlotValue)
    → xs ≡ map fresh_slot (in_path_order path_in (living_in r.slots)) → length xs ≤ 4096 → Landed ≡ outcome_of now.arrays (deeds now)
few_outcome r now e none fits xs ex le =
    let l = next_length r xs ex in
    let b : nat_lt 4096 (length (next_live (deeds r))) ≡ false = grind arith in
    sym (ap (λ (x : RoundValue). outcome_of x.arrays (deeds x)) (sym e)
    ∙ (λ i. outcome_by (none i) (not_many (next_live (deeds r)) b i) (fits i)))

-- one in which neither was found is ended by the first put that overflows, if one does, and tells so
pub ends_by_over : (r now : RoundValue) → r ≡ now → Closes r → first_fault (deeds r) ≡ None → (xs : List SlotValue)
    → xs ≡ map fresh_slot (in_path_order path_in (living_in r.slots)) → length xs ≤ 4096 → (f : ℕ × List ℕ)
    → Some f ≡ overflow r.arrays (deeds r)
    → EndsBy r f × (Overflowed ≡ outcome_of now.arrays (deeds now))
ends_by_over r now e c none xs ex le f over =
    let l = next_length r xs ex in
    let b : nat_lt 4096 (length (next_live (deeds r))) ≡ false = grind arith in (
      by_fault r c f
          (by_delivered r c
          ∙ (λ i. closed (state_of r) (deeds r) (or_next (none i) (or_next (not_many (next_live (deeds r)) b i) (sym over i))))),
      sym (ap (λ (x : RoundValue). outcome_of x.arrays (deeds x)) (sym e)
          ∙ (λ i. outcome_by (none i) (not_many (next_live (deeds r)) b i) (sym over i))),
    )

-- a round in which nothing but rooms changed is the same
pub over_now : (job : JobValue) (limit step : ℕ) {a b : List (List ℕ × List ℤ)} → b ≡ a → {xs ys : List SlotValue} → ys ≡ xs
    → {fs gs : List FinishedValue} → gs ≡ fs
    → (fault : Option (ℕ × List ℕ)) (f : ℕ × List ℕ) → IsRound (with_fault (whole job limit step a xs fs fault) f)
    → IsRound (with_fault (whole job limit step b ys gs fault) f)
over_now job limit step ea ex ef fault f h = subst IsRound (sym (λ i. with_fault (whole job limit step (ea i) (ex i) (ef i) fault) f)) h

pub over_opens : (job : JobValue) (limit step : ℕ) {a b : List (List ℕ × List ℤ)} → b ≡ a → {xs ys : List SlotValue} → ys ≡ xs
    → {fs gs : List FinishedValue} → gs ≡ fs
    → (fault : Option (ℕ × List ℕ)) (f : ℕ × List ℕ) (now new : RoundValue) → whole job limit step a xs fs fault ≡ now
    → EndsBy (whole job limit step a xs fs fault) f → new ≡ with_fault (whole job limit step b ys gs fault) f
    → Opens new now.job now.limit (next_state now)
over_opens job limit step ea ex ef fault f now new is ends e =
    subst (λ (r : RoundValue). Opens new r.job r.limit (next_state r)) is
    (ends.1 new (e ∙ (λ i. with_fault (whole job limit step (ea i) (ex i) (ef i) fault) f)))

-- a round as it opens
pub opened : (job : JobValue) (limit : ℕ) (arrays : List (List ℕ × List ℤ)) (slots : List SlotValue)
    → arrays ≡ job.arrays → slots_of (plans job.bodies) slots ≡ map fresh (start_tasks (plans job.bodies) 0 job.starts)
    → length job.starts ≤ 4096
    → IsRound (whole job limit 0 arrays slots [] None) × Opens (whole job limit 0 arrays slots [] None) job limit (initial (program_of job))
opened job limit arrays slots ea es le =
    let ps = plans job.bodies in
    let s : state_of (whole job limit 0 arrays slots [] None) ≡ initial (program_of job) =
    (λ i. record { step = 0; arrays = ea i; live = (ap (map task_in) es ∙ fresh_tasks (start_tasks ps 0 job.starts)) i; prints = []; records = []; fault = None }) in
    let l : length slots ≡ length job.starts =
    sym (slots_length ps slots) ∙ ap length es ∙ fresh_length (start_tasks ps 0 job.starts) ∙ starts_length ps 0 job.starts in (
      record {
        reached = (0, s);
        fits = subst (AllFit ps arrays 0) (sym es) (fresh_fit ps arrays 0 (start_tasks ps 0 job.starts));
        few = subst (λ n. n ≤ 4096) (sym l) le;
      },
      record { job = refl; limit = refl; state = s; none_yet = λ h. none_done ps slots (start_tasks ps 0 job.starts) es },
    )
  where
    starts_length : (ps : List Plan) (n : ℕ) (ss : List Start) → length (start_tasks ps n ss) ≡ length ss
    starts_length ps n [] = refl
    starts_length ps n (s ∷ ss) = ap suc (starts_length ps (suc n) ss)

    not_some : (ps : List Plan) (o : Option SegmentValue) → option_map (meant ps) o ≡ None → o ≡ None
    not_some ps None h = refl
    not_some ps (Some g) h = cc

    none_done : (ps : List Plan) (ss : List SlotValue) (ts : List Task) → slots_of ps ss ≡ map fresh ts → AllFresh ss
    none_done ps [] ts h = tt
    none_done ps (s ∷ ss) [] h = cc
    none_done ps (s ∷ ss) (t ∷ ts) h =
        let first : slot_of ps s ≡ fresh t = cc in
        let rest : slots_of ps ss ≡ map fresh ts = cc in
        (not_some ps s.done (ap (λ (x : Slot). x.done) first), none_done ps ss ts rest)

pub opened_so : (job : JobValue) (limit : ℕ) (arrays : List (List ℕ × List ℤ)) (slots : List SlotValue) (finished : List FinishedValue)
    → arrays ≡ job.arrays → finished ≡ [] → (bodies : List BodyValue) → bodies ≡ job.bodies → (starts : List Start) → starts ≡ job.starts
    → slots_of (plans bodies) slots ≡ map fresh (start_tasks (plans bodies) 0 starts) → length job.starts ≤ 4096
    → IsRound (whole job limit 0 arrays slots finished None)
    × Opens (whole job limit 0 arrays slots finished None) job limit (initial (program_of job))
opened_so job limit arrays slots finished ea ef bodies eb starts es h le =
    let at : slots_of (plans job.bodies) slots ≡ map fresh (start_tasks (plans job.bodies) 0 job.starts) =
    ap (λ (b : List BodyValue). slots_of (plans b) slots) (sym eb) ∙ h
    ∙ (λ i. map fresh (start_tasks (plans (eb i)) 0 (es i))) in
    subst
    (λ (fs : List FinishedValue). IsRound (whole job limit 0 arrays slots fs None)
    × Opens (whole job limit 0 arrays slots fs None) job limit (initial (program_of job)))
    (sym ef) (opened job limit arrays slots ea at le)

pub is_there : {A : Type 0} {o : Option A} {x : A} → o ≡ Some x → IsSome o
is_there {o = None} h = cc
is_there {o = Some y} h = refl

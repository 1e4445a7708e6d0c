-- What a round's orders and deliveries are.
use Rattle.std.proofs.Common.{◌≡◌, ℕ, zero, suc, ◌+◌, ◌≤◌, ◌<◌, true, false, List, [], ◌∷◌, map, length, Option, Some, None, slice_get, slice_set, refl, sym, ap, ◌∙◌, subst, arith}
use Rattle.std.specs.Prelude.{ℤ, is_some}
use Rattle.std.specs.Option.{option_map}
use Rattle.step_core.specs.SlotParts.{path_in, fresh_slot}
use Rattle.std.proofs.lemmas.List.{length-set}
use Rattle.task_code.specs.JobValue.{JobValue}
use Rattle.task_lang.specs.TaskValue.{TaskValue}
use Rattle.task_lang.specs.SegmentValue.{SegmentValue}
use Rattle.task_lang.specs.Meaning.{Plan, Task, Segment, segment_of}
use Rattle.task_lang.specs.Views.{plans, task_of, meant}
use Rattle.step_core.specs.Program.{program_of}
use Rattle.step_core.specs.Superstep.{State, job_says}
use Rattle.step_core.specs.JobMeaning.{state_at, starts}
use Rattle.programs.specs.Supersteps.{status}
use Rattle.step_core.specs.SlotValue.{SlotValue}
use Rattle.step_core.specs.Slots.{slots_of, task_in, with_segment, missing_in, one_missing, first_missing, or_missing}
use Rattle.step_core.specs.OrderValue.{order_value, IsOrder, deed_of, deed_at, DeliveryValue, IsDelivery}
use Rattle.step_core.specs.Taking.{IsFor, IsOrdered, is_done, Takes, task_at}
use Rattle.step_core.specs.Laws.{MissingTells, OrdersAreOwn}
use Rattle.step_core.specs.RoundValue.{RoundValue, IsRound, AllFit, state_of, status_in, with_slots}
use Rattle.programs.proofs.Runs.{going_on}

pub running : (r : RoundValue) → IsRound r → status_in r ≡ None → state_of r ≡ state_at (program_of r.job) r.step
running r h run =
    let n = h.reached.0 in
    let e = h.reached.1 in
    let g = (let p = program_of r.job in going_on (job_says p.plans) p.arrays (starts p) r.limit n (ap (status r.limit) (sym e) ∙ run)) in
    let k : r.step ≡ n = ap (λ (x : State). x.step) e ∙ g.step in
    e ∙ g.same ∙ ap (state_at (program_of r.job)) (sym k)

pub slot_task : (ps : List Plan) (ss : List SlotValue) (p : ℕ) (s : SlotValue) → slice_get ss p ≡ Some s
    → slice_get (map task_in (slots_of ps ss)) p ≡ Some (task_of ps s.task)
slot_task ps [] p s h = cc
slot_task ps (x ∷ xs) zero s h = let e : x ≡ s = cc in ap (λ (y : SlotValue). Some (task_of ps y.task)) e
slot_task ps (x ∷ xs) (suc p) s h = slot_task ps xs p s h

pub is_order : (r : RoundValue) → IsRound r → status_in r ≡ None → (p : ℕ) (s : SlotValue) (t : TaskValue) (a : List (List ℕ × List ℤ))
    → slice_get r.slots p ≡ Some s → t ≡ s.task → a ≡ r.arrays → IsOrder (order_value r.job r.step p t a)
is_order r h run p s t a at et ea =
    let e = running r h run in
    record {
      step = ap (λ (x : State). x.step) (sym e);
      task = ap (λ (x : State). slice_get x.live p) (sym e) ∙ slot_task (plans r.job.bodies) r.slots p s at
          ∙ ap (λ (x : TaskValue). Some (task_of (plans r.job.bodies) x)) (sym et);
      arrays = ea ∙ ap (λ (x : State). x.arrays) e;
    }

some_is : {A : Type 0} (x y : A) → Some x ≡ Some y → x ≡ y
some_is x y h = cc

abbrev IsDeed : List ℕ × Segment → List ℕ × Segment → Type 0
IsDeed x y = x ≡ y

-- what was delivered is the segment of the task of its place
pub delivered_is : (r : RoundValue) → IsRound r → status_in r ≡ None → (p : ℕ) (s : SlotValue) (path : List ℕ) (g : Segment)
    → slice_get r.slots p ≡ Some s → deed_at (program_of r.job) r.step p ≡ Some (path, g)
    → IsDeed (s.task.path, segment_of (plans r.job.bodies) (task_of (plans r.job.bodies) s.task) r.arrays r.step) (path, g)
delivered_is r h run p s path g at d =
    let e = running r h run in
    some_is _ _
    (sym (ap (deed_of (program_of r.job) (state_of r)) (slot_task (plans r.job.bodies) r.slots p s at))
    ∙ ap (λ (x : State). deed_of (program_of r.job) x (slice_get x.live p)) e ∙ d)

fits_more : (ps : List Plan) (a : List (List ℕ × List ℤ)) (n : ℕ) (ss : List SlotValue) (p : ℕ) (s : SlotValue) (g : SegmentValue)
    → AllFit ps a n (slots_of ps ss) → slice_get ss p ≡ Some s → meant ps g ≡ segment_of ps (task_of ps s.task) a n
    → AllFit ps a n (slots_of ps (slice_set ss p record { task = s.task; done = Some g }))
fits_more ps a n [] p s g h at e = h
fits_more ps a n (x ∷ xs) zero s g h at e = (e, h.1)
fits_more ps a n (x ∷ xs) (suc p) s g h at e = (h.0, fits_more ps a n xs p s g h.1 at e)

same_tasks : (ps : List Plan) (ss : List SlotValue) (p : ℕ) (s : SlotValue) (g : SegmentValue) → slice_get ss p ≡ Some s
    → map task_in (slots_of ps (slice_set ss p record { task = s.task; done = Some g })) ≡ map task_in (slots_of ps ss)
same_tasks ps [] p s g at = refl
same_tasks ps (x ∷ xs) zero s g at = let e : s ≡ x = cc in ap (λ (y : SlotValue). task_of ps y.task ∷ map task_in (slots_of ps xs)) e
same_tasks ps (x ∷ xs) (suc p) s g at = ap (λ ts. task_of ps x.task ∷ ts) (same_tasks ps xs p s g at)

pub set_is_with : (ss : List SlotValue) (p : ℕ) (s : SlotValue) (g : SegmentValue) → slice_get ss p ≡ Some s
    → slice_set ss p record { task = s.task; done = Some g } ≡ with_segment ss p g
set_is_with [] p s g at = refl
set_is_with (x ∷ xs) zero s g at = let e : s ≡ x = cc in ap (λ (y : SlotValue). record { task = y.task; done = Some g } ∷ xs) e
set_is_with (x ∷ xs) (suc p) s g at = ap (λ ts. x ∷ ts) (set_is_with xs p s g at)

-- with a segment that is its task's, a round is a round
pub kept : (r : RoundValue) → IsRound r → (p : ℕ) (s : SlotValue) (g : SegmentValue) → slice_get r.slots p ≡ Some s
    → meant (plans r.job.bodies) g ≡ segment_of (plans r.job.bodies) (task_of (plans r.job.bodies) s.task) r.arrays r.step
    → IsRound (with_slots r (slice_set r.slots p record { task = s.task; done = Some g }))
kept r h p s g at e =
    let l : length (slice_set r.slots p record { task = s.task; done = Some g }) ≡ length r.slots =
    length-set r.slots p record { task = s.task; done = Some g } in
    record {
      reached = (
        h.reached.0,
        ap (λ (ts : List Task). record (state_of r) { live = ts }) (same_tasks (plans r.job.bodies) r.slots p s g at) ∙ h.reached.1,
      );
      fits = fits_more (plans r.job.bodies) r.arrays r.step r.slots p s g h.fits at e;
      few = subst (λ k. k ≤ 4096) (sym l) h.few;
    }

pub taken : (r : RoundValue) → IsRound r → status_in r ≡ None → (p : ℕ) (s : SlotValue) (path : List ℕ) (g : SegmentValue)
    → slice_get r.slots p ≡ Some s → deed_at (program_of r.job) r.step p ≡ Some (path, meant (plans r.job.bodies) g)
    → IsRound (with_slots r (slice_set r.slots p record { task = s.task; done = Some g }))
taken r h run p s path g at d =
    let deed = delivered_is r h run p s path (meant (plans r.job.bodies) g) at d in
    kept r h p s g at (sym (ap (λ (x : List ℕ × Segment). x.1) deed))

-- a slot stands at each place
pub some_there : (ss : List SlotValue) (p : ℕ) → p < length ss → (s : SlotValue) × (slice_get ss p ≡ Some s)
some_there [] p lt = absurd (omega (arith, lt))
some_there (x ∷ xs) zero lt = (x, refl)
some_there (x ∷ xs) (suc p) lt = some_there xs p (omega (arith, lt))

pub here : (r : RoundValue) (job : JobValue) (step place q : ℕ) (path : List ℕ) (g : SegmentValue) → job ≡ r.job → step ≡ r.step → place ≡ q
    → deed_at (program_of job) step place ≡ Some (path, meant (plans job.bodies) g)
    → deed_at (program_of r.job) r.step q ≡ Some (path, meant (plans r.job.bodies) g)
here r job step place q path g j s p k =
    sym (λ i. deed_at (program_of (j i)) (s i) (p i)) ∙ k ∙ ap (λ (x : JobValue). Some (path, meant (plans x.bodies) g)) j

-- the slot of its place is for its task
pub for_task : (r : RoundValue) (job : JobValue) (step place q : ℕ) (path : List ℕ) (s : SlotValue) (g : SegmentValue) → IsRound r
    → status_in r ≡ None
    → job ≡ r.job → step ≡ r.step → place ≡ q → slice_get r.slots q ≡ Some s
    → deed_at (program_of job) step place ≡ Some (path, meant (plans job.bodies) g) → s.task.path ≡ path
for_task r job step place q path s g h run j e p at k =
    ap (λ (x : List ℕ × Segment). x.0)
    (delivered_is r h run q s path (meant (plans r.job.bodies) g) at (here r job step place q path g j e p k))

-- the paths of the live tasks
pub paths_at : (ps : List Plan) (ss : List SlotValue)
    → map path_in (map task_at ss) ≡ map (λ (t : Task). t.path) (map task_in (slots_of ps ss))
paths_at ps [] = refl
paths_at ps (s ∷ ss) = ap (λ (xs : List (List ℕ)). s.task.path ∷ xs) (paths_at ps ss)

-- a delivery leaves the tasks
pub tasks_stay : (ps : List Plan) (ss : List SlotValue) (p : ℕ) (g : SegmentValue)
    → map task_in (slots_of ps (with_segment ss p g)) ≡ map task_in (slots_of ps ss)
tasks_stay ps [] p g = refl
tasks_stay ps (s ∷ ss) zero g = refl
tasks_stay ps (s ∷ ss) (suc p) g = ap (λ (ts : List Task). task_of ps s.task ∷ ts) (tasks_stay ps ss p g)

-- what is known at a place stands there
pub place_there : (r : RoundValue) → IsRound r → status_in r ≡ None → (p : ℕ) (x : List ℕ × Segment)
    → deed_at (program_of r.job) r.step p ≡ Some x → p < length r.slots
place_there r h run p x d =
    let e = running r h run in
    let k : deed_of (program_of r.job) (state_of r) (slice_get (state_of r).live p) ≡ Some x =
    ap (λ (s : State). deed_of (program_of r.job) s (slice_get s.live p)) e ∙ d in
    by r.slots p k
  where
    by : (ss : List SlotValue) (p : ℕ)
        → deed_of (program_of r.job) (state_of r) (slice_get (map task_in (slots_of (plans r.job.bodies) ss)) p) ≡ Some x → p < length ss
    by [] p h = cc
    by (s ∷ ss) zero h = omega arith
    by (s ∷ ss) (suc p) h = let l = by ss p h in omega (arith, l)

-- a delivery of the round's job and step
pub record Meets (r : RoundValue) (d : DeliveryValue) : Type 0 where
  pub round : IsRound r
  pub run : status_in r ≡ None
  pub job : d.job ≡ r.job
  pub step : d.step ≡ r.step
  pub known : IsDelivery d

-- of a round as it is kept, where it is known as it is seen
pub meets : (r now : RoundValue) → IsRound r → r ≡ now → status_in now ≡ None → (d : DeliveryValue) → d.job ≡ now.job → d.step ≡ r.step
    → IsDelivery d → Meets r d
meets r now h e run d job step known = record {
  round = h;
  run = ap status_in e ∙ run;
  job = job ∙ ap (λ (x : RoundValue). x.job) (sym e);
  step = step;
  known = known;
}

-- of a round that takes it
pub takes : (r now : RoundValue) → IsRound r → r ≡ now → status_in now ≡ None → (d : DeliveryValue) → Takes now d → IsDelivery d
    → Meets r d × (is_done (slice_get r.slots d.place) ≡ false)
takes r now h e run d t known =
    let k : Takes r d = subst (λ (x : RoundValue). Takes x d) (sym e) t in
    (meets r now h e run d t.ordered.0 k.step known, k.first)

met_deed : (r : RoundValue) (d : DeliveryValue) → Meets r d
    → deed_at (program_of r.job) r.step d.place ≡ Some (d.path, meant (plans r.job.bodies) d.segment)
met_deed r d m = here r d.job d.step d.place d.place d.path d.segment m.job m.step refl m.known

-- its place is one of the round's
pub met_below : (r : RoundValue) (d : DeliveryValue) → Meets r d → d.place < length r.slots
met_below r d m = place_there r m.round m.run d.place (d.path, meant (plans r.job.bodies) d.segment) (met_deed r d m)

met_slot : (r : RoundValue) (d : DeliveryValue) → Meets r d → (s : SlotValue) × (slice_get r.slots d.place ≡ Some s)
met_slot r d m = some_there r.slots d.place (met_below r d m)

is_ordered : (r : RoundValue) (d : DeliveryValue) → Meets r d → IsOrdered r d
is_ordered r d m =
    let x = met_slot r d m in (
      m.job,
      subst (IsFor d.path) (sym x.1)
          (for_task r d.job d.step d.place d.place d.path x.0 d.segment m.round m.run m.job m.step refl x.1 m.known),
    )

pub is_double : (r now : RoundValue) → r ≡ now → (d : DeliveryValue) → Meets r d → is_done (slice_get r.slots d.place) ≡ true
    → (d.step ≡ now.step) × IsOrdered now d × (is_done (slice_get now.slots d.place) ≡ true)
is_double r now e d m t =
    subst (λ (x : RoundValue). (d.step ≡ x.step) × IsOrdered x d × (is_done (slice_get x.slots d.place) ≡ true)) e
    (m.step, is_ordered r d m, t)

pub is_first : (r now : RoundValue) → r ≡ now → (d : DeliveryValue) → Meets r d → is_done (slice_get r.slots d.place) ≡ false → Takes now d
is_first r now e d m t =
    subst (λ (x : RoundValue). Takes x d) e
    record { step = m.step; ordered = is_ordered r d m; first = t }

-- a round with it is a round
pub met_kept : (r : RoundValue) (d : DeliveryValue) → Meets r d → IsRound (with_slots r (with_segment r.slots d.place d.segment))
met_kept r d m =
    let x = met_slot r d m in
    subst (λ (ss : List SlotValue). IsRound (with_slots r ss)) (set_is_with r.slots d.place x.0 d.segment x.1)
    (taken r m.round m.run d.place x.0 d.path d.segment x.1 (met_deed r d m))

-- and a task the fewer is missing
pub met_fewer : (r : RoundValue) (d : DeliveryValue) → Meets r d → is_done (slice_get r.slots d.place) ≡ false
    → missing_in (with_segment r.slots d.place d.segment) + 1 ≡ missing_in r.slots
met_fewer r d m f = by r.slots d.place (met_below r d m) f
  where
    gone : (o : Option SegmentValue) → is_some o ≡ false → one_missing o ≡ 1
    gone None h = refl
    gone (Some g) h = cc

    by : (ss : List SlotValue) (p : ℕ) → p < length ss → is_done (slice_get ss p) ≡ false
        → missing_in (with_segment ss p d.segment) + 1 ≡ missing_in ss
    by [] p lt h = absurd (omega (arith, lt))
    by (x ∷ ss) zero lt h = let k = gone x.done h in omega (arith, k)
    by (x ∷ ss) (suc p) lt h = let l = by ss p (omega (arith, lt)) h in omega (arith, l)

pub all_missing : (ts : List TaskValue) → missing_in (map fresh_slot ts) ≡ length ts
all_missing [] = refl
all_missing (t ∷ ts) = let l = all_missing ts in omega (arith, l)

pub task_there : (ss : List SlotValue) (p : ℕ) (s : SlotValue) (t : TaskValue) → slice_get ss p ≡ Some s → t ≡ s.task
    → option_map task_at (slice_get ss p) ≡ Some t
task_there ss p s t at e = ap (option_map task_at) at ∙ ap Some (sym e)

pub none_first : (ps : List Plan) (ss : List SlotValue) → missing_in ss ≡ 0 → first_missing (slots_of ps ss) ≡ None
none_first ps [] h = refl
none_first ps (s ∷ ss) h = by s.done (omega arith) (none_first ps ss (omega arith))
  where
    by : (o : Option SegmentValue) → one_missing o ≡ 0 → first_missing (slots_of ps ss) ≡ None
        → or_missing (option_map (meant ps) o) s.task.path (first_missing (slots_of ps ss)) ≡ None
    by None z m = absurd (omega arith)
    by (Some g) z m = m

zero_missing : (ps : List Plan) (ss : List SlotValue) → first_missing (slots_of ps ss) ≡ None → missing_in ss ≡ 0
zero_missing ps [] h = refl
zero_missing ps (s ∷ ss) h = by s.done (λ m. zero_missing ps ss m) h
  where
    by : (o : Option SegmentValue) → (first_missing (slots_of ps ss) ≡ None → missing_in ss ≡ 0)
        → or_missing (option_map (meant ps) o) s.task.path (first_missing (slots_of ps ss)) ≡ None → one_missing o + missing_in ss ≡ 0
    by None more m = cc
    by (Some g) more m = let l = more m in omega (arith, l)

-- nothing is missing where no first one is
pub missing-tells : MissingTells
missing-tells r = (none_first (plans r.job.bodies) r.slots, zero_missing (plans r.job.bodies) r.slots)

-- an order of the round's job and step is one of its own
pub orders-are-own : OrdersAreOwn
orders-are-own r o h run known job step =
    let e = running r h run in
    let at : state_at (program_of o.job) o.step ≡ state_of r = (λ i. state_at (program_of (job i)) (step i)) ∙ sym e in
    (ap (λ (x : State). slice_get x.live o.place) (sym at) ∙ known.task, known.arrays ∙ ap (λ (x : State). x.arrays) at)

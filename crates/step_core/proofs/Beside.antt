-- Tasks beside what was delivered for them, by place.
use Rattle.std.proofs.Common.{◌≡◌, ℕ, zero, suc, ◌<◌, ◌≤◌, List, [], ◌∷◌, ◌++◌, map, length, Option, None, Some, is_some, slice_get, slice_set, get_or, refl, sym, ap, ◌∙◌, arith}
use Rattle.std.proofs.lemmas.List.{length-map}
use Rattle.task_lang.specs.TaskValue.{TaskValue}
use Rattle.task_lang.specs.SegmentValue.{SegmentValue}
use Rattle.step_core.specs.SlotValue.{SlotValue}
use Rattle.step_core.specs.Slots.{with_segment}
use Rattle.step_core.specs.SlotParts.{beside, living_by, living_in, living_of, no_segment, fresh_slot}
use Rattle.step_core.specs.OrderValue.{found_task}
use Rattle.step_core.specs.Taking.{is_done, task_at}

-- there are as many of both
pub beside_length : (ts : List TaskValue) (ds : List (Option SegmentValue)) → length ts ≡ length ds → length (beside ts ds) ≡ length ds
beside_length [] [] e = refl
beside_length [] (d ∷ ds) e = absurd (omega (arith, e))
beside_length (t ∷ ts) [] e = absurd (omega (arith, e))
beside_length (t ∷ ts) (d ∷ ds) e = ap suc (beside_length ts ds (omega (arith, e)))

pub beside_tasks : (ts : List TaskValue) (ds : List (Option SegmentValue)) → length ts ≡ length ds → map task_at (beside ts ds) ≡ ts
beside_tasks [] [] e = refl
beside_tasks [] (d ∷ ds) e = refl
beside_tasks (t ∷ ts) [] e = absurd (omega (arith, e))
beside_tasks (t ∷ ts) (d ∷ ds) e = ap (λ (us : List TaskValue). t ∷ us) (beside_tasks ts ds (omega (arith, e)))

-- those that live on are after what was delivered
pub beside_living : (ts : List TaskValue) (ds : List (Option SegmentValue)) → length ts ≡ length ds
    → living_in (beside ts ds) ≡ living_by ds
beside_living [] [] e = refl
beside_living [] (d ∷ ds) e = absurd (omega (arith, e))
beside_living (t ∷ ts) [] e = absurd (omega (arith, e))
beside_living (t ∷ ts) (d ∷ ds) e = ap (λ (us : List TaskValue). living_of d ++ us) (beside_living ts ds (omega (arith, e)))

pub shown_living : (ts : List TaskValue) (ds : List (Option SegmentValue)) (ss : List SlotValue) → length ts ≡ length ds → beside ts ds ≡ ss
    → living_in ss ≡ living_by ds
shown_living ts ds ss e h = ap living_in (sym h) ∙ beside_living ts ds e

pub beside_fresh : (ts : List TaskValue) → beside ts (map no_segment ts) ≡ map fresh_slot ts
beside_fresh [] = refl
beside_fresh (t ∷ ts) = ap (λ (ss : List SlotValue). fresh_slot t ∷ ss) (beside_fresh ts)

-- what was delivered at a place
pub beside_done : (ts : List TaskValue) (ds : List (Option SegmentValue)) (p : ℕ) (d : Option SegmentValue)
    → length ts ≡ length ds → p < length ds → d ≡ get_or ds p d → is_some d ≡ is_done (slice_get (beside ts ds) p)
beside_done [] [] p d e lt g = absurd (omega (arith, lt))
beside_done [] (x ∷ ds) p d e lt g = absurd (omega (arith, e))
beside_done (t ∷ ts) [] p d e lt g = absurd (omega (arith, e))
beside_done (t ∷ ts) (x ∷ ds) zero d e lt g = ap (λ (y : Option SegmentValue). is_some y) g
beside_done (t ∷ ts) (x ∷ ds) (suc p) d e lt g = beside_done ts ds p d (omega (arith, e)) (omega (arith, lt)) g

-- what is at a place
pub beside_at : (ts : List TaskValue) (ds : List (Option SegmentValue)) (p : ℕ) (t : TaskValue) (d : Option SegmentValue)
    → p < length ts → t ≡ get_or ts p t → p < length ds → d ≡ get_or ds p d
    → slice_get (beside ts ds) p ≡ Some record { task = t; done = d }
beside_at [] ds p t d lt e ld f = absurd (omega (arith, lt))
beside_at (x ∷ ts) [] p t d lt e ld f = absurd (omega (arith, ld))
beside_at (x ∷ ts) (y ∷ ds) zero t d lt e ld f = λ i. Some record { task = sym e i; done = sym f i }
beside_at (x ∷ ts) (y ∷ ds) (suc p) t d lt e ld f = beside_at ts ds p t d (omega (arith, lt)) e (omega (arith, ld)) f

-- nothing is after the tasks, and nothing after what was delivered
pub beside_past_tasks : (ts : List TaskValue) (ds : List (Option SegmentValue)) (p : ℕ) → length ts ≤ p → slice_get (beside ts ds) p ≡ None
beside_past_tasks [] ds p le = refl
beside_past_tasks (t ∷ ts) [] p le = refl
beside_past_tasks (t ∷ ts) (d ∷ ds) zero le = absurd (omega (arith, le))
beside_past_tasks (t ∷ ts) (d ∷ ds) (suc p) le = beside_past_tasks ts ds p (omega (arith, le))

pub beside_past_done : (ts : List TaskValue) (ds : List (Option SegmentValue)) (p : ℕ) → length ds ≤ p → slice_get (beside ts ds) p ≡ None
beside_past_done [] ds p le = refl
beside_past_done (t ∷ ts) [] p le = refl
beside_past_done (t ∷ ts) (d ∷ ds) zero le = absurd (omega (arith, le))
beside_past_done (t ∷ ts) (d ∷ ds) (suc p) le = beside_past_done ts ds p (omega (arith, le))

-- a segment more
pub beside_set : (ts : List TaskValue) (ds : List (Option SegmentValue)) (p : ℕ) (g : SegmentValue)
    → beside ts (slice_set ds p (Some g)) ≡ with_segment (beside ts ds) p g
beside_set [] ds p g = refl
beside_set (t ∷ ts) [] p g = refl
beside_set (t ∷ ts) (d ∷ ds) zero g = refl
beside_set (t ∷ ts) (d ∷ ds) (suc p) g = ap (λ (ss : List SlotValue). record { task = t; done = d } ∷ ss) (beside_set ts ds p g)

-- the task at a place is that of its slot
pub task_found : (ss : List SlotValue) (ts : List TaskValue) (p : ℕ) (s : SlotValue) → ts ≡ map task_at ss → slice_get ss p ≡ Some s
    → found_task (slice_get ts p) ≡ s.task
task_found ss ts p s e at = ap (λ (us : List TaskValue). found_task (slice_get us p)) e ∙ by ss p at
  where
    by : (ss : List SlotValue) (p : ℕ) → slice_get ss p ≡ Some s → found_task (slice_get (map task_at ss) p) ≡ s.task
    by [] p h = cc
    by (x ∷ xs) zero h = let k : x ≡ s = cc in ap (λ (y : SlotValue). y.task) k
    by (x ∷ xs) (suc p) h = by xs p h

-- the task that is found at a place of the list
pub task_got : (ts : List TaskValue) (p : ℕ) (t : TaskValue) → p < length ts → t ≡ get_or ts p t → t ≡ found_task (slice_get ts p)
task_got [] p t lt e = absurd (omega (arith, lt))
task_got (x ∷ ts) zero t lt e = e
task_got (x ∷ ts) (suc p) t lt e = task_got ts p t (omega (arith, lt)) e

pub tasks_count : (ss : List SlotValue) (ts : List TaskValue) → ts ≡ map task_at ss → length ts ≡ length ss
tasks_count ss ts e = ap length e ∙ length-map ss task_at

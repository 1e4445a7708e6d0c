-- Which stretches of a program are out, and which are ready.
use Rattle.std.specs.Prelude.{slice_get, slice_set, ◌&&◌, ◌||◌, ◌==◌, not, is_some}
use Rattle.std.proofs.Common.{◌≡◌, ◌≢◌, ◌<◌, ℕ, zero, suc, ◌+◌, Bool, true, false, List, [], ◌∷◌, length, Option, Some, None, refl, sym, ap, ◌∙◌, subst, arith}
use Rattle.phase_records.specs.Status.{Status}
use Rattle.program_stretches.specs.PartValue.{PartValue}
use Rattle.program_stretches.specs.Parts.{AreFresh, covers, is_done, tasks_in}
use Rattle.program_stretches.specs.StretchesValue.{StretchesValue, StretchValue, with_slot, ready_at, status_in, status_for, is_at_limit, left_after, can_leave}
use Rattle.program_stretches.specs.Closing.{IsTaken}
use Rattle.program_stretches.proofs.Reopening.{fresh_covers}
use Rattle.stretch_queue.specs.HandedOut.{out_at}

other_slot : {A : Type 0} (xs : List A) (n k : ℕ) (x : A) → k ≢ n → slice_get (slice_set xs n x) k ≡ slice_get xs k
other_slot [] n k x h = refl
other_slot (y ∷ xs) zero zero x h = absurd (h refl)
other_slot (y ∷ xs) zero (suc k) x h = refl
other_slot (y ∷ xs) (suc n) zero x h = refl
other_slot (y ∷ xs) (suc n) (suc k) x h = other_slot xs n k x (λ same. h (ap suc same))

this_slot : {A : Type 0} (xs : List A) (n : ℕ) (x : A) → n < length xs → slice_get (slice_set xs n x) n ≡ Some x
this_slot [] n x lt = absurd (omega (arith, lt))
this_slot (y ∷ xs) zero x lt = refl
this_slot (y ∷ xs) (suc n) x lt = this_slot xs n x (omega (arith, lt))

not_false : false ≡ true → ⊥
not_false e = cc

both_left : (a b : Bool) → (a && b) ≡ true → a ≡ true
both_left true b e = refl
both_left false b e = absurd (not_false e)

both_right : (a b : Bool) → (a && b) ≡ true → b ≡ true
both_right true b e = e
both_right false b e = absurd (not_false e)

module _ {S : Type 0} where
  -- one more is out
  pub out_more : (ss : List (Option (PartValue S))) (n k : ℕ) → out_at (slice_get ss k) ≡ true
      → out_at (slice_get (slice_set ss n None) k) ≡ true
  out_more [] n k e = e
  out_more (s ∷ ss) zero zero e = refl
  out_more (s ∷ ss) zero (suc k) e = e
  out_more (s ∷ ss) (suc n) zero e = e
  out_more (s ∷ ss) (suc n) (suc k) e = out_more ss n k e

  -- if all are there, none is out
  pub none_out_of : (done : Bool) (end at : ℕ) (ss : List (Option (PartValue S))) → covers done end at ss ≡ true → (k : ℕ)
      → out_at (slice_get ss k) ≡ false
  none_out_of done end at [] e k = refl
  none_out_of done end at (None ∷ ss) e k = absurd (not_false e)
  none_out_of done end at (Some part ∷ ss) e zero = refl
  none_out_of done end at (Some part ∷ ss) e (suc k) =
      none_out_of done end (at + length part.tasks) ss
      (both_right ((part.first == at) && is_done done part.done) (covers done end (at + length part.tasks) ss) e) k

  -- one that is ready, or out, is one of them
  pub ready_below : (ss : List (Option (PartValue S))) (n : ℕ) → ready_at (slice_get ss n) ≡ true → n < length ss
  ready_below [] n e = absurd (not_false e)
  ready_below (s ∷ ss) zero e = omega arith
  ready_below (s ∷ ss) (suc n) e = let k = ready_below ss n e in omega (arith, k)

  pub out_below : (ss : List (Option (PartValue S))) (n : ℕ) → out_at (slice_get ss n) ≡ true → n < length ss
  out_below [] n e = absurd (not_false e)
  out_below (s ∷ ss) zero e = omega arith
  out_below (s ∷ ss) (suc n) e = let k = out_below ss n e in omega (arith, k)

  -- ---- before the first stretch of a superstep is handed out

  pub fresh_none_out : (at : ℕ) (ss : List (Option (PartValue S))) → AreFresh at ss → (k : ℕ) → out_at (slice_get ss k) ≡ false
  fresh_none_out at [] h k = refl
  fresh_none_out at (None ∷ ss) h k = absurd h
  fresh_none_out at (Some part ∷ ss) h zero = refl
  fresh_none_out at (Some part ∷ ss) h (suc k) = fresh_none_out (at + length part.tasks) ss h.1 k

-- ---- what a run that has ended leaves

module _ {Q S : Type 0} (v : StretchesValue Q S) where
  or_true : (b : Bool) → (b || true) ≡ true
  or_true true = refl
  or_true false = refl

  covered : covers false v.count 0 v.parts ≡ true → (o : Option Status) → is_some o ≡ true → left_after v o ≡ true
  covered c None e = absurd (not_false e)
  covered c (Some s) e = ap (λ (b : Bool). not (is_at_limit s) || b) c ∙ or_true (not (is_at_limit s))

  pub fresh_leaves : AreFresh 0 v.parts → v.count ≡ length (tasks_in v.parts) → is_some (status_in v) ≡ true → can_leave v ≡ true
  fresh_leaves h e ended =
      covered (fresh_covers v.count 0 v.parts h (let k : v.count ≡ 0 + length (tasks_in v.parts) = omega (arith, e) in k)) (status_in v)
      ended

  pub fault_ends : (f : ℕ × List ℕ) → v.fault ≡ Some f → is_some (status_in v) ≡ true
  fault_ends f e = ap (λ (o : Option (ℕ × List ℕ)). is_some (status_for v.limit v.step o v.count)) e

  pub fault_leaves : (f : ℕ × List ℕ) → v.fault ≡ Some f → can_leave v ≡ true
  fault_leaves f e = ap (λ (o : Option (ℕ × List ℕ)). left_after v (status_for v.limit v.step o v.count)) e

-- one that is taken is out then, and wasn't before
pub taken_out : {Q S : Type 0} (old new : StretchesValue Q S) (number : ℕ) (s : StretchValue Q S) → IsTaken old new number s
    → (out_at (slice_get old.parts number) ≡ false) × (out_at (slice_get new.parts number) ≡ true)
taken_out old new number s h = (
  ap (λ (x : Option (Option (PartValue _))). out_at x) h.there,
  ap (λ (v : StretchesValue _ _). out_at (slice_get v.parts number)) h.left
      ∙ ap (λ (x : Option (Option (PartValue _))). out_at x)
      (this_slot old.parts number None (ready_below old.parts number (ap (λ (x : Option (Option (PartValue _))). ready_at x) h.there ∙ ap not h.ready))),
)

-- the others are out as before
pub taken_others : {Q S : Type 0} (old new : StretchesValue Q S) (number : ℕ) (s : StretchValue Q S) → IsTaken old new number s
    → (k : ℕ) → out_at (slice_get old.parts k) ≡ true → out_at (slice_get new.parts k) ≡ true
taken_others old new number s h k e =
    subst (λ (v : StretchesValue _ _). out_at (slice_get v.parts k) ≡ true) (sym h.left) (out_more old.parts number k e)

-- one that is back leaves the others as they are
pub back_others : {Q S : Type 0} (v : StretchesValue Q S) (s : StretchValue Q S)
    → (k : ℕ) → k ≢ s.number → out_at (slice_get v.parts k) ≡ true → out_at (slice_get (with_slot v s.number (Some s.part)).parts k) ≡ true
back_others v s k n e = ap out_at (other_slot v.parts s.number k (Some s.part) n) ∙ e

-- if all have run, none is out
pub none_left : {S : Type 0} (end : ℕ) (ss : List (Option (PartValue S))) → covers true end 0 ss ≡ true → (k : ℕ)
    → out_at (slice_get ss k) ≡ false
none_left end ss e k = none_out_of true end 0 ss e k

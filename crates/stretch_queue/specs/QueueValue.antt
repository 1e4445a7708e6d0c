-- The queue of a run, as contracts see it, and what its type keeps (own).
use Rattle.std.specs.Prelude.{◌≡◌, ◌||◌, nat_lt, ℕ, Bool, true, false, List, [], ◌∷◌, slice_get, Option, None, Some, IfSome, is_some}
use Rattle.std.specs.Option.{unwrap_or}
use Rattle.atomic_table.specs.Seated.{TableId}
use Rattle.program_stretches.specs.StretchesValue.{StretchesValue}
use Rattle.stretch_queue.specs.declared.fault.Refused.{Refused}
use Rattle.stretch_queue.specs.declared.queue.Lists.{Lists}
use Rattle.stretch_queue.specs.HandedOut.{AreOut, out_at}
use Rattle.stretch_queue.specs.Hooked.{bare}
use Rattle.stretch_queue.specs.Refusals.{IsOfWorkers}
use Rattle.stretch_queue.specs.Watched.{has_ended_in, can_leave_in}

-- the stretches; whether the hook has stopped the run; the first refusal; and the numbers of the stretches that are ready
pub record QueueValue (Q S : Type 0) : Type 0 where
  pub stretches : StretchesValue Q S
  pub stopped : Bool
  pub first : Option Refused
  pub ready : List ℕ

-- no ticket of these lists is out
abbrev pub AreNew : Lists → Type 0
AreNew l = (l.stretches.out ≡ []) × (l.stops.out ≡ [])

-- the lists have these names
abbrev pub AreNamed : TableId → TableId → Lists → Type 0
AreNamed passes stops l = (l.stretches.name ≡ passes) × (l.stops.name ≡ stops)

-- the first of these numbers is below this one
abbrev pub begins_below : List ℕ → ℕ → Bool
begins_below [] end = false
begins_below (n ∷ ns) end = nat_lt n end

module _ {Q S : Type 0} where
  -- the first refusal stays
  abbrev pub refused_by : QueueValue Q S → Refused → QueueValue Q S
  refused_by b refused = record b { first = Some (unwrap_or b.first refused) }

  -- workers stop: the run has ended, or is refused
  abbrev pub is_over : QueueValue Q S → Bool
  is_over b = is_some b.first || has_ended_in b.stretches b.stopped

  pub record IsQueue (kept : StretchesValue Q S → Bool → Type 0) (mark : TableId) (workers : ℕ) (passes stops : TableId) (lists : Lists)
      (b : QueueValue Q S) : Type 0 where
    pub of_mark : b.stretches.name ≡ mark
    pub of_workers : IfSome b.first (IsOfWorkers workers)
    pub named : AreNamed passes stops lists
    pub are_out : AreOut (λ k. out_at (slice_get b.stretches.parts k)) b.stretches.step lists.stretches.out
    pub keeps : b.first ≡ None → kept (bare b.stretches) b.stopped
    pub leaves : b.first ≡ None → has_ended_in b.stretches b.stopped ≡ true
        → (can_leave_in b.stretches b.stopped ≡ true) × ((k : ℕ) → out_at (slice_get b.stretches.parts k) ≡ false)
    pub nobody : is_over b ≡ false → lists.stops.out ≡ []

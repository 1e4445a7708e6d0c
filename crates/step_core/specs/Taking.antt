-- What a round takes and refuses (own).
use Rattle.std.specs.Prelude.{◌≡◌, ℕ, ℤ, is_some, ◌||◌, List, [], ◌∷◌, Bool, true, false, Option, Some, None, slice_get}
use Rattle.std.specs.Option.{option_map}
use Rattle.std.specs.Str.{bytes_eq}
use Rattle.task_lang.specs.TaskValue.{TaskValue}
use Rattle.task_lang.specs.Meaning.{Segment}
use Rattle.step_core.specs.declared.fault.AcceptFault.{AcceptFault}
use Rattle.step_core.specs.declared.fault.AcceptFault.TheVariants as accept
use Rattle.step_core.specs.declared.fault.CloseFault.{CloseFault}
use Rattle.step_core.specs.declared.fault.CloseFault.TheVariants as close
use Rattle.step_core.specs.declared.fault.Outcome as outcomes
use Rattle.step_core.specs.declared.fault.Outcome.TheVariants.{Landed, Faulted, TooMany, Overflowed}
use Rattle.step_core.specs.SlotValue.{SlotValue}
use Rattle.step_core.specs.SlotParts.{IsPath}
use Rattle.step_core.specs.Slots.{with_segment, first_missing}
use Rattle.step_core.specs.Superstep.{too_many, next_live}
use Rattle.programs.specs.Superstep.{first_fault, overflow}
use Rattle.step_core.specs.RoundValue.{RoundValue, slots_in}
use Rattle.step_core.specs.OrderValue.{OrderValue, DeliveryValue}

-- a slot for the task of this path
abbrev pub IsFor : List ℕ → Option SlotValue → Type 0
IsFor path slot = IsPath path slot

abbrev pub is_done : Option SlotValue → Bool
is_done None = false
is_done (Some s) = is_some s.done

-- its order is one of this round, except for the step
abbrev pub IsOrdered : RoundValue → DeliveryValue → Type 0
IsOrdered r d = (d.job ≡ r.job) × IsFor d.path (slice_get r.slots d.place)

-- why a delivery is refused: it is of another step, its order isn't one of this round, or its task has one already
abbrev pub Refuses : AcceptFault → RoundValue → DeliveryValue → Type 0
Refuses accept.WrongStep r d = d.step ≡ r.step → ⊥
Refuses accept.Stranger r d = (d.step ≡ r.step) × (IsOrdered r d → ⊥)
Refuses accept.Double r d = (d.step ≡ r.step) × IsOrdered r d × (is_done (slice_get r.slots d.place) ≡ true)

-- it is refused since its task has one already
abbrev pub IsDouble : AcceptFault → Type 0
IsDouble accept.WrongStep = ⊥
IsDouble accept.Stranger = ⊥
IsDouble accept.Double = Unit {0}

-- when it is taken
pub record Takes (r : RoundValue) (d : DeliveryValue) : Type 0 where
  pub step : d.step ≡ r.step
  pub ordered : IsOrdered r d
  pub first : is_done (slice_get r.slots d.place) ≡ false

-- with this delivery, and else as before
abbrev pub with_delivery : RoundValue → DeliveryValue → RoundValue
with_delivery r d = record r { slots = with_segment r.slots d.place d.segment }

-- the numbers of refusals; running out of memory has none
abbrev pub accept_number : AcceptFault → ℕ
accept_number accept.Stranger = 1
accept_number accept.Double = 2
accept_number accept.WrongStep = 3

abbrev pub close_number : CloseFault → Option ℕ
close_number (close.Missing path) = Some 4
close_number (close.Memory e) = None

-- why a round isn't closed: a task for which nothing was delivered, the first by path
abbrev pub NotClosed : CloseFault → RoundValue → Type 0
NotClosed (close.Missing path) r = first_missing (slots_in r) ≡ Some path.items
NotClosed (close.Memory e) r = Unit {0}

abbrev pub outcome_by : Option (ℕ × List ℕ) → Option (ℕ × List ℕ) → Option (ℕ × List ℕ) → outcomes.Outcome
outcome_by (Some f) many over = Faulted
outcome_by None (Some f) over = TooMany
outcome_by None None (Some f) = Overflowed
outcome_by None None None = Landed

-- how a superstep of these segments over these arrays ends
abbrev pub outcome_of : List (List ℕ × List ℤ) → List (List ℕ × Segment) → outcomes.Outcome
outcome_of arrays ss = outcome_by (first_fault ss) (too_many (next_live ss)) (overflow arrays ss)

-- one of these tasks has this path
abbrev pub is_live : List SlotValue → List ℕ → Bool
is_live [] path = false
is_live (s ∷ ss) path = bytes_eq s.task.path path || is_live ss path

abbrev pub task_at : SlotValue → TaskValue
task_at s = s.task

-- an order of this round for the task of this path, at its place
pub record IsOrderOf (r : RoundValue) (p : List ℕ) (o : OrderValue) : Type 0 where
  pub job : o.job ≡ r.job
  pub step : o.step ≡ r.step
  pub path : o.task.path ≡ p
  pub task : option_map task_at (slice_get r.slots o.place) ≡ Some o.task
  pub arrays : o.arrays ≡ r.arrays

-- an order of this round for the task at this place
pub record IsOrderAt (r : RoundValue) (p : ℕ) (o : OrderValue) : Type 0 where
  pub job : o.job ≡ r.job
  pub step : o.step ≡ r.step
  pub place : o.place ≡ p
  pub arrays : o.arrays ≡ r.arrays

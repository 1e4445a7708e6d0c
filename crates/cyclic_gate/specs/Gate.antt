-- What contracts see of a gate and of its answers.
use Rattle.std.specs.Prelude.{◌≡◌, ℕ, true, Option, Result, Ok, Err, List}
use Rattle.advance_rule.specs.Stored.{Stored}
use Rattle.cyclic_gate.specs.Steps.{Answer, Waiting, Trips, Fails, Breaks, IsBroken, Already, answer, is_change}
use Rattle.cyclic_gate.specs.Machine.{Machine}
use Rattle.cyclic_gate.specs.Ledger.{Book, booked}
use Rattle.cyclic_gate.specs.declared.call.Call.TheVariants.{Await, Abandon}
use Rattle.cyclic_gate.specs.declared.gate_state.Arrival.{Arrival}
use Rattle.cyclic_gate.specs.declared.gate_state.Arrival.TheVariants as arrival
use Rattle.cyclic_gate.specs.declared.gate.GateFault.{GateFault}
use Rattle.cyclic_gate.specs.declared.gate.GateFault.TheVariants as gate

-- what is known of a gate without its lock: the action, and how many parties meet
pub record Gate (F : Type 0) : Type 0 where
  pub action : Stored F (Option ℕ)
  pub parties : ℕ

-- how many parties meet at a gate, and the generation in which its action fails
pub record GatePlan : Type 0 where
  pub parties : ℕ
  pub fails : Option ℕ

-- the turn that a caller was given: its index, or 0 if it was the last
abbrev pub GivesTurn : ℕ → Answer → Type 0
GivesTurn index (Waiting i) = index ≡ i
GivesTurn index (Trips all) = index ≡ 0
GivesTurn index _ = ⊥

-- Why a caller got no turn. A caller that waited may get Broken too, and memory may run out.
abbrev pub GivesNoTurn : GateFault → Answer → Type 0
GivesNoTurn gate.Broken a = Unit {0}
GivesNoTurn gate.ActionFailed (Fails others) = Unit {0}
GivesNoTurn gate.ActionFailed _ = ⊥
GivesNoTurn gate.AlreadyWaiting a = a ≡ Already
GivesNoTurn gate.Memory a = is_change a ≡ true
GivesNoTurn gate.TimedOut a = ⊥

-- What a caller gets that waits for some time at a barrier in this state. If it gave up, it waited there, and its removal broke the
-- barrier.
abbrev pub GivesTurnFor : Option ℕ → ℕ → Result ℕ GateFault → Machine → Type 0
GivesTurnFor fails caller (Ok index) m = GivesTurn index (answer fails (Await caller) m)
GivesTurnFor fails caller (Err gate.TimedOut) m = (others : List ℕ) × (answer fails (Abandon caller) m ≡ Breaks others)
GivesTurnFor fails caller (Err fault) m = GivesNoTurn fault (answer fails (Await caller) m)

-- How an arrival goes on at the gate: the caller waits for the end of this generation, with its index, or goes on as the last.
abbrev pub IsArrival : Arrival → Answer → ℕ → Type 0
IsArrival (arrival.Waits index mine) (Waiting i) generation = (index ≡ i) × (mine ≡ generation)
IsArrival (arrival.Last index) (Trips all) generation = index ≡ 0
IsArrival _ _ generation = ⊥

abbrev pub RefusesArrival : GateFault → Answer → Type 0
RefusesArrival gate.Broken a = a ≡ IsBroken
RefusesArrival gate.ActionFailed (Fails others) = Unit {0}
RefusesArrival gate.ActionFailed _ = ⊥
RefusesArrival gate.AlreadyWaiting a = a ≡ Already
RefusesArrival gate.Memory a = is_change a ≡ true
RefusesArrival gate.TimedOut a = ⊥

-- The ledger that an arrival leaves. If the caller waits or was the last, also if the action failed then, it is the
-- ledger after the call; else it is as it was.
abbrev pub left_by : Result Arrival GateFault → ℕ → Book → Book
left_by (Ok arrival) caller b = booked (Await caller) b
left_by (Err gate.ActionFailed) caller b = booked (Await caller) b
left_by (Err gate.Broken) caller b = b
left_by (Err gate.AlreadyWaiting) caller b = b
left_by (Err gate.Memory) caller b = b
left_by (Err gate.TimedOut) caller b = b

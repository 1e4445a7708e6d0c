-- What contracts see of a barrier and of its answers.
use Rattle.std.specs.Prelude.{◌≡◌, ℕ, Bool, true, false, Option}
use Rattle.advance_rule.specs.Stored.{Stored}
use Rattle.cyclic_gate.specs.Machine.{Machine}
use Rattle.cyclic_gate.specs.Steps.{Answer, Waiting, Trips, Fails, IsBroken, Already, Absent, is_change}
use Rattle.cyclic_gate.specs.declared.call.AwaitedStep.{AwaitedStep}
use Rattle.cyclic_gate.specs.declared.call.AwaitedStep.TheVariants.{Waits, Tripped, ActionFailed, Broken}
use Rattle.cyclic_gate.specs.declared.call.Arrived.{Arrived}
use Rattle.cyclic_gate.specs.declared.call.Arrived.TheVariants as arrived
use Rattle.cyclic_gate.specs.declared.call.BarrierFault.{BarrierFault}
use Rattle.cyclic_gate.specs.declared.call.BarrierFault.TheVariants.{NoParty, AlreadyWaiting, NotWaiting, TooMany, Memory}

-- a barrier with its action
pub record Core (F : Type 0) : Type 0 where
  pub action : Stored F (Option ℕ)
  pub barrier : Machine

-- an arrival's answer
abbrev pub answer_of : AwaitedStep → Answer
answer_of (Waits index) = Waiting index
answer_of (Tripped all) = Trips all.items
answer_of (ActionFailed others) = Fails others.items
answer_of Broken = IsBroken

-- the same without the lists of callers
abbrev pub IsArrived : Arrived → Answer → Type 0
IsArrived a (Waiting i) = a ≡ arrived.Waits i
IsArrived a (Trips all) = a ≡ arrived.Tripped
IsArrived a (Fails others) = a ≡ arrived.ActionFailed
IsArrived a IsBroken = a ≡ arrived.Broken
IsArrived a _ = ⊥

-- A fault of a call is the refusal that the machine answers. Memory may run out only in a call that would change something.
abbrev pub RefusesAwait : BarrierFault → Answer → Type 0
RefusesAwait AlreadyWaiting a = a ≡ Already
RefusesAwait Memory a = is_change a ≡ true
RefusesAwait NotWaiting a = ⊥
RefusesAwait NoParty a = ⊥
RefusesAwait TooMany a = ⊥

abbrev pub RefusesAbandon : BarrierFault → Answer → Type 0
RefusesAbandon NotWaiting a = a ≡ Absent
RefusesAbandon Memory a = is_change a ≡ true
RefusesAbandon AlreadyWaiting a = ⊥
RefusesAbandon NoParty a = ⊥
RefusesAbandon TooMany a = ⊥

-- a trip is caused by an action that ran and went well, a failure by one that ran and failed
abbrev pub Ran : (Bool → Type 0) → AwaitedStep → Type 0
Ran post (Waits index) = Unit {0}
Ran post (Tripped all) = post false
Ran post (ActionFailed others) = post true
Ran post Broken = Unit {0}

abbrev pub RanFor : (Bool → Type 0) → Arrived → Type 0
RanFor post (arrived.Waits index) = Unit {0}
RanFor post arrived.Tripped = post false
RanFor post arrived.ActionFailed = post true
RanFor post arrived.Broken = Unit {0}

-- The numbers of refusals (own).
use Rattle.std.specs.Prelude.{ℕ, ◌<◌}
use Rattle.program_stretches.specs.declared.fault.CloseStretchesFault.{CloseStretchesFault}
use Rattle.program_stretches.specs.declared.fault.CloseStretchesFault.TheVariants as unclosed
use Rattle.stretch_queue.specs.declared.fault.Refused.{Refused}
use Rattle.stretch_queue.specs.declared.fault.Refused.TheVariants.{Memory, NotStarted, Internal, Full}
use Rattle.stretch_queue.specs.declared.fault.WorkerFault.{WorkerFault}
use Rattle.stretch_queue.specs.declared.fault.WorkerFault.TheVariants as worker_fault

abbrev pub refusal_number : Refused → ℕ
refusal_number Memory = 1
refusal_number (NotStarted k) = 2
refusal_number Internal = 3
refusal_number Full = 4

-- the refusal of a run in which a worker stopped for this reason
abbrev pub refusal_of : WorkerFault → Refused
refusal_of worker_fault.Memory = Memory
refusal_of worker_fault.Internal = Internal
refusal_of worker_fault.Full = Full

-- the reason to note if a superstep can't be closed
abbrev pub closing_fault : CloseStretchesFault → WorkerFault
closing_fault unclosed.Missing = worker_fault.Internal
closing_fault (unclosed.Memory fault) = worker_fault.Memory

-- a worker that couldn't be started is one of `workers`, numbered from 0
abbrev pub IsOfWorkers : ℕ → Refused → Type 0
IsOfWorkers workers Memory = Unit {0}
IsOfWorkers workers (NotStarted k) = k < workers
IsOfWorkers workers Internal = Unit {0}
IsOfWorkers workers Full = Unit {0}

-- why a call of the tree isn't done
abbrev pub IsOfTree : WorkerFault → Type 0
IsOfTree worker_fault.Memory = ⊥
IsOfTree worker_fault.Internal = Unit {0}
IsOfTree worker_fault.Full = Unit {0}

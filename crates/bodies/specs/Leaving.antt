-- Why a run on workers is refused (own).
use Rattle.std.specs.Prelude.{◌≡◌, ◌||◌, ℕ, Bool, true, false, nat_lt}
use Rattle.worker_pool.specs.Refusals.{IsOfWorkers}
use Rattle.bodies.specs.declared.on_workers.WorkersFault as faults
use Rattle.bodies.specs.declared.on_workers.WorkersFault.TheVariants as fault

-- this many tasks are too many for workers: each is a party of a tier
abbrev pub are_too_many_parties : ℕ → ℕ → Bool
are_too_many_parties most count = nat_lt 65535 most || nat_lt most count

-- why a run is refused that has this many workers and begins with this many tasks
abbrev pub RefusesFor : ℕ → ℕ → ℕ → faults.WorkersFault → Type 0
RefusesFor workers most count fault.TooMany = are_too_many_parties most count ≡ true
RefusesFor workers most count (fault.Refused refused) = (are_too_many_parties most count ≡ false) × IsOfWorkers workers refused

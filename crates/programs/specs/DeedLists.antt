-- Deeds that are kept as a count.
use Rattle.std.specs.Prelude.{ℕ, true}
use Rattle.programs.specs.declared.deed_list.Deed.{Deed}

-- the deed of a task that goes on and spawned nothing
abbrev pub going : ℕ → Deed
going puts = record { synced = true; puts = puts; spawned = 0 }

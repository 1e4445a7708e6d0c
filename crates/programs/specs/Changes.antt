-- What tasks did to the list of tasks (own).
use Rattle.programs.specs.DeedValue.{DeedValue}
use Rattle.programs.specs.declared.deeds.Change.{Change}

-- a deed, given by what the task did
abbrev pub deed_of : {S : Type 0} → Change S → DeedValue S
deed_of c = record { synced = c.synced; puts = c.puts; spawns = c.spawned.now }

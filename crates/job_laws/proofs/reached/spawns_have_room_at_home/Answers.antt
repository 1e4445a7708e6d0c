use Rattle.job_laws.proofs.SpawningOnTrees.{spawns_have_room_at_home}
use Rattle.job_laws.proofs.reached.spawns_have_room_at_home.Goals as goal

pub returns : goal.returns
returns c = spawns_have_room_at_home

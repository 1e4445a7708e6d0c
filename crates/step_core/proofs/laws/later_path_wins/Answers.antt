use Rattle.step_core.proofs.Landings.{later-path-wins}
use Rattle.step_core.proofs.laws.later_path_wins.Goals as goal

pub returns : goal.returns
returns c = later-path-wins

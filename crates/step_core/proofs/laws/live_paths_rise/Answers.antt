use Rattle.step_core.proofs.Apart.{live-paths-rise}
use Rattle.step_core.proofs.laws.live_paths_rise.Goals as goal

pub returns : goal.returns
returns c = live-paths-rise

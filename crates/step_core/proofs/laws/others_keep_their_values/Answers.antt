use Rattle.step_core.proofs.Landings.{others-keep-their-values}
use Rattle.step_core.proofs.laws.others_keep_their_values.Goals as goal

pub returns : goal.returns
returns c = others-keep-their-values

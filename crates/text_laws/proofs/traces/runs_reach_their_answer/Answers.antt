use Rattle.text_laws.proofs.EnoughSteps.{runs_reach}
use Rattle.text_laws.proofs.traces.runs_reach_their_answer.Goals as goal

pub returns : goal.returns
returns c = runs_reach

use Rattle.text_laws.proofs.EnoughSteps.{calls_reach}
use Rattle.text_laws.proofs.traces.calls_done_reach_their_answer.Goals as goal

pub returns : goal.returns
returns c = calls_reach

use Rattle.bsp_words.proofs.Numbers.{workers-ask}
use Rattle.bsp_words.proofs.laws.workers_ask.Goals as goal

pub returns : goal.returns
returns c = workers-ask

use Rattle.refusal_reasons.proofs.Marking.{word-faults-are-marked}
use Rattle.refusal_reasons.proofs.laws.word_faults_are_marked.Goals as goal

pub returns : goal.returns
returns c = word-faults-are-marked

use Rattle.tier_laws.proofs.Answering.{moments_are_answers}
use Rattle.tier_laws.proofs.answers.moments_are_answers.Goals as goal

pub returns : goal.returns
returns c = moments_are_answers

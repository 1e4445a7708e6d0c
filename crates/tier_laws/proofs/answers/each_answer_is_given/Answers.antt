use Rattle.tier_laws.proofs.Worked.{each_answer_is_given}
use Rattle.tier_laws.proofs.answers.each_answer_is_given.Goals as goal

pub returns : goal.returns
returns c = each_answer_is_given

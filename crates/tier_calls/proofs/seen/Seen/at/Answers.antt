use Rattle.tier_calls.proofs.Telling.{word_of_number_at, legal_at}
use Rattle.tier_calls.proofs.seen.Seen.at.Goals as goal

pub invariant_of-result : goal.invariant_of-result
invariant_of-result c = legal_at c.args.number c.requires

pub returns : goal.returns
returns c = λ w legal is. word_of_number_at c.args.number w legal is

use Rattle.refusal_reasons.proofs.Refused.{marks-are-refused}
use Rattle.refusal_reasons.proofs.laws.marks_are_refused.Goals as goal

pub returns : goal.returns
returns c = marks-are-refused

use Rattle.tier_steps.proofs.Marks.{marks_are_spelled_out}
use Rattle.tier_steps.proofs.laws.marks_are_spelled_out.Goals as goal

pub returns : goal.returns
returns c = marks_are_spelled_out

use Rattle.refusal_reasons.proofs.Listed.{the-first-fault-is-the-refusal}
use Rattle.refusal_reasons.proofs.laws.the_first_fault_is_the_refusal.Goals as goal

pub returns : goal.returns
returns c = the-first-fault-is-the-refusal

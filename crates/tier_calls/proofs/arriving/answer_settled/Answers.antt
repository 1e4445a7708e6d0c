use Rattle.tier_calls.proofs.Settling.{settled_crew, ended_crew}
use Rattle.tier_calls.proofs.arriving.answer_settled.Goals as goal

pub invariant_of-result-in-Done-2 : goal.invariant_of-result-in-Done-2
invariant_of-result-in-Done-2 c =
    settled_crew c.requires c.view-view.ensures c.if-view-eq0.false c.in_default.not-Owing c.in_default.not-Due

pub invariant_of-result-in-Ended : goal.invariant_of-result-in-Ended
invariant_of-result-in-Ended c = ended_crew c.requires c.in-Ended.is c.in_default.not-Owing c.in_default.not-Due

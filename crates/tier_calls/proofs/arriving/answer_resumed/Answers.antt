use Rattle.tier_calls.proofs.Settling.{resumed_crew}
use Rattle.tier_calls.proofs.arriving.answer_resumed.Goals as goal

pub invariant_of-result-in_default-2 : goal.invariant_of-result-in_default-2
invariant_of-result-in_default-2 c =
    resumed_crew c.requires c.view-view.ensures c.if-view-eq0.false c.in_default.not-Owing c.in_default.not-Due

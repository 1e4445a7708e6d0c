use Rattle.fault_reasons.proofs.WalkedRuns.{walks-are-segments}
use Rattle.fault_reasons.proofs.laws.walks_are_segments.Goals as goal

pub returns : goal.returns
returns c = walks-are-segments

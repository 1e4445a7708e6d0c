use Rattle.tier_rule.proofs.FlatRun.{advances_are_due_in_flat_runs}
use Rattle.tier_rule.proofs.laws.advances_are_due_in_flat_runs.Goals as goal

pub returns : goal.returns
returns c = advances_are_due_in_flat_runs

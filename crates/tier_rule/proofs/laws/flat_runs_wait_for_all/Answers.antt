use Rattle.tier_rule.proofs.FlatRun.{flat_runs_wait_for_all}
use Rattle.tier_rule.proofs.laws.flat_runs_wait_for_all.Goals as goal

pub returns : goal.returns
returns c = flat_runs_wait_for_all

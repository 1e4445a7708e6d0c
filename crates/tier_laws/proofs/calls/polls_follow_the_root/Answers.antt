use Rattle.tier_laws.proofs.Stepping.{polls_follow_the_root}
use Rattle.tier_laws.proofs.calls.polls_follow_the_root.Goals as goal

pub returns : goal.returns
returns c = polls_follow_the_root

use Rattle.std.proofs.Common.{take, drop}
use Rattle.tier_calls.proofs.tiers.Tiers.split_at.Given as goal

abbrev pub ghosts-split_at_as : goal.ghosts-split_at_as
ghosts-split_at_as a = record { kept = take a.n a.group.now.tokens; given = drop a.n a.group.now.tokens }

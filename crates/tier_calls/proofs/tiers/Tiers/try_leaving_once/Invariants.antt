use Rattle.tier_calls.specs.Kept.{before_of}
use Rattle.tier_calls.proofs.tiers.Tiers.try_leaving_once.Given as goal

abbrev pub ghosts-leave_together : goal.ghosts-leave_together
ghosts-leave_together a = record { before = before_of a.word a.group }

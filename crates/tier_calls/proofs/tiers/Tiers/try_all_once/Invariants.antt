use Rattle.tier_calls.specs.Kept.{before_of}
use Rattle.tier_calls.proofs.tiers.Tiers.try_all_once.Given as goal

abbrev pub ghosts-arrive_from : goal.ghosts-arrive_from
ghosts-arrive_from a = record { before = before_of a.word a.group }

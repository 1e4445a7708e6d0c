use Rattle.tier_calls.specs.Kept.{before_of}
use Rattle.tier_calls.proofs.tiers.Tiers.try_with_once.Given as goal

abbrev pub ghosts-pass_from : goal.ghosts-pass_from
ghosts-pass_from a = record { before = before_of a.word a.group }

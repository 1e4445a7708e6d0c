use Rattle.tier_calls.specs.Kept.{ahead}
use Rattle.tier_calls.proofs.tiers.Tiers.exchange_early_as.Given as goal

abbrev pub ghosts-go_from : goal.ghosts-go_from
ghosts-go_from g a = record { before = ahead a.seat.now.me.0 g.B.Begun.before }

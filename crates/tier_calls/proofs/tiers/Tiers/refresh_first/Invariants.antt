use Rattle.tier_steps.specs.declared.kind.Kind.TheVariants.{Refresh}
use Rattle.tier_calls.specs.Groups.{first_stepped}
use Rattle.tier_calls.proofs.tiers.Tiers.refresh_first.Given as goal

abbrev pub ghosts-go_together : goal.ghosts-go_together
ghosts-go_together a =
    record { key = a.self.now.key; from = a.word; to = a.next; sights = first_stepped Refresh a.tier a.word a.seat.now.me.0 }

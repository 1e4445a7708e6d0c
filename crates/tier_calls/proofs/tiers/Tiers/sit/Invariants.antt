use Rattle.tier_calls.proofs.tiers.Tiers.sit.Given as goal

abbrev pub ghosts-sit_as : goal.ghosts-sit_as
ghosts-sit_as a = record { key = a.self.now.key }

use Rattle.tier_calls.proofs.tiers.Tiers.look.Given as goal

abbrev pub ghosts-look_as : goal.ghosts-look_as
ghosts-look_as a = record { kind = a.kind }

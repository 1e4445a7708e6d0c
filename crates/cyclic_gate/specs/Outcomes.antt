-- What calls did to a generation, one after another.
use Rattle.cyclic_gate.specs.declared.ledger.Outcome.{Outcome}
use Rattle.cyclic_gate.specs.declared.ledger.Outcome.TheVariants.{GoesOn, Tripped, Broken}

-- the end of a generation, or what comes later
abbrev pub end_or : Outcome → Outcome → Outcome
end_or GoesOn later = later
end_or Tripped later = Tripped
end_or Broken later = Broken

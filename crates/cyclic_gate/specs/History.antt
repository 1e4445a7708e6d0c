-- The history of a barrier's calls (own).
use Rattle.std.specs.Prelude.{◌≡◌, ℕ, List, [], ◌∷◌, Option}
use Rattle.cyclic_gate.specs.Machine.{Machine}
use Rattle.cyclic_gate.specs.Steps.{Answer, Waiting, Trips, Fails, IsBroken, Breaks, Already, Absent, answer, after}
use Rattle.cyclic_gate.specs.Outcomes.{end_or}
use Rattle.cyclic_gate.specs.declared.call.Call.{Call}
use Rattle.cyclic_gate.specs.declared.ledger.Outcome.{Outcome}
use Rattle.cyclic_gate.specs.declared.ledger.Outcome.TheVariants.{GoesOn, Tripped, Broken}

-- a call, and what it did to the generation in which it was made
pub record LedgerEntry : Type 0 where
  pub call : Call
  pub outcome : Outcome

-- what a call with this answer did to the generation
abbrev pub outcome_of : Answer → Outcome
outcome_of (Waiting index) = GoesOn
outcome_of (Trips all) = Tripped
outcome_of (Fails others) = Broken
outcome_of IsBroken = GoesOn
outcome_of (Breaks callers) = Broken
outcome_of Already = GoesOn
outcome_of Absent = GoesOn

abbrev pub ledger_entry : Call → Answer → LedgerEntry
ledger_entry call a = record { call = call; outcome = outcome_of a }

abbrev pub calls_of : List LedgerEntry → List Call
calls_of [] = []
calls_of (n ∷ ns) = n.call ∷ calls_of ns

-- each note says what its call did to the barrier that the calls before it leave
abbrev pub AreRight : Option ℕ → List LedgerEntry → Machine → Type 0
AreRight fails [] m = Unit {0}
AreRight fails (n ∷ ns) m = (n.outcome ≡ outcome_of (answer fails n.call m)) × AreRight fails ns (after fails n.call m)

-- the first end among these entries
abbrev pub first_end : List LedgerEntry → Outcome
first_end [] = GoesOn
first_end (n ∷ ns) = end_or n.outcome (first_end ns)

-- What a caller reads that wakes late: the first end noted after its arrival (own).
use Rattle.std.specs.Prelude.{◌≡◌, ◌⊎◌, ℕ, ◌+◌, Bool, true, false, if◌then◌else◌, List, [], ◌∷◌, ◌++◌, length, drop, Option, None, Some, Contains}
use Rattle.cyclic_gate.specs.Machine.{Machine, fresh}
use Rattle.cyclic_gate.specs.Steps.{Answer, Waiting, Trips, Fails, IsBroken, Breaks, Already, Absent, answer, after, is_in}
use Rattle.cyclic_gate.specs.Runs.{after_all}
use Rattle.cyclic_gate.specs.History.{LedgerEntry, ledger_entry, calls_of, AreRight, first_end}
use Rattle.cyclic_gate.specs.declared.call.Call.{Call}
use Rattle.cyclic_gate.specs.declared.call.Call.TheVariants.{Await, Abandon}
use Rattle.cyclic_gate.specs.declared.ledger.Outcome.{Outcome}
use Rattle.cyclic_gate.specs.declared.ledger.Outcome.TheVariants.{GoesOn, Tripped, Broken}

-- whether a call with this answer ends the generation
abbrev pub is_end : Answer → Bool
is_end (Waiting index) = false
is_end (Trips all) = true
is_end (Fails others) = true
is_end IsBroken = false
is_end (Breaks callers) = true
is_end Already = false
is_end Absent = false

-- a call that ends a generation, and the barrier that it finds
pub record End : Type 0 where
  pub call : Call
  pub found : Machine

-- the call among these that ends the generation of this barrier
abbrev pub end_among : Option ℕ → List LedgerEntry → Machine → Option End
end_among fails [] m = None
end_among fails (n ∷ ns) m =
    if is_end (answer fails n.call m) then Some (record { call = n.call; found = m }) else end_among fails ns (after fails n.call m)

-- the trip gives the caller this index
abbrev pub GivesIndex : ℕ → ℕ → Answer → Type 0
GivesIndex caller index (Trips all) = Contains all (caller, index)
GivesIndex caller index _ = ⊥

-- the caller gets Broken, or is the one that leaves early
abbrev pub GivesBroken : ℕ → Call → Answer → Type 0
GivesBroken caller call (Fails others) = is_in caller others ≡ true
GivesBroken caller call (Breaks callers) = (is_in caller callers ≡ true) ⊎ (call ≡ Abandon caller)
GivesBroken caller call _ = ⊥

-- What is read means for a caller that got an index in a generation: that this one goes on; that it tripped, and the
-- caller has its index; or that the caller gets Broken.
abbrev pub IsAnswered : Option ℕ → ℕ → ℕ → ℕ → Outcome → Option End → Type 0
IsAnswered fails caller index generation GoesOn end = end ≡ None
IsAnswered fails caller index generation Tripped end =
    (e : End) × (end ≡ Some e) × (e.found.generation ≡ generation) × GivesIndex caller index (answer fails e.call e.found)
IsAnswered fails caller index generation Broken end =
    (e : End) × (end ≡ Some e) × (e.found.generation ≡ generation) × GivesBroken caller e.call (answer fails e.call e.found)

-- the barrier that these calls leave of a new one
abbrev pub left_of : ℕ → Option ℕ → List LedgerEntry → Machine
left_of parties fails entries = after_all fails (calls_of entries) (fresh parties)

-- Whatever was noted before and later: the first end noted after the arrival of a caller that has to wait is the end of
-- its generation, and gives it the index that it got.
abbrev pub LateWakersAreAnswered : Type 0
LateWakersAreAnswered =
    (parties : ℕ) (fails : Option ℕ) (before later : List LedgerEntry) (caller index : ℕ)
    → AreRight fails (before ++ ledger_entry (Await caller) (Waiting index) ∷ later) (fresh parties)
    → answer fails (Await caller) (left_of parties fails before) ≡ Waiting index
    → IsAnswered fails caller index (left_of parties fails before).generation
    (first_end (drop (length before + 1) (before ++ ledger_entry (Await caller) (Waiting index) ∷ later)))
    (end_among fails later (after fails (Await caller) (left_of parties fails before)))

-- A barrier beside the ends of generations that some callers have still to read (own).
use Rattle.std.specs.Prelude.{◌≡◌, ℕ, ◌-◌, ◌<◌, ◌≤◌, ◌==◌, Bool, true, false, ◌||◌, ◌&&◌, not, nat_lt, if◌then◌else◌, List, [], ◌∷◌, ◌++◌, length, take, drop, get_or, Option}
use Rattle.cyclic_gate.specs.Machine.{Machine}
use Rattle.cyclic_gate.specs.Steps.{answer, after}
use Rattle.cyclic_gate.specs.Runs.{AfterSome}
use Rattle.cyclic_gate.specs.History.{outcome_of}
use Rattle.cyclic_gate.specs.declared.call.Call.{Call}
use Rattle.cyclic_gate.specs.declared.call.Arrived.{Arrived}
use Rattle.cyclic_gate.specs.declared.call.Arrived.TheVariants as arrived
use Rattle.cyclic_gate.specs.declared.ledger.KeptEnd.{KeptEnd}
use Rattle.cyclic_gate.specs.declared.ledger.Outcome.{Outcome}
use Rattle.cyclic_gate.specs.declared.ledger.Outcome.TheVariants.{GoesOn, Tripped, Broken}

-- the generation in which the action fails, the barrier, and the ends that some callers have still to read
pub record Book : Type 0 where
  pub fails : Option ℕ
  pub barrier : Machine
  pub ends : List KeptEnd

abbrev pub book : Option ℕ → Machine → List KeptEnd → Book
book fails barrier ends = record { fails = fails; barrier = barrier; ends = ends }

-- Some list of calls leaves this barrier.
abbrev pub IsReached : Option ℕ → Machine → Type 0
IsReached fails barrier = AfterSome barrier.parties fails (λ m. m ≡ barrier)

-- If callers wait, the end of their generation has room in the memory of the list.
abbrev pub HasRoom : Machine → ℕ → ℕ → Type 0
HasRoom barrier len capacity = (length barrier.waiting == 0 || nat_lt len capacity) ≡ true

abbrev pub kept_end : ℕ → Outcome → ℕ → KeptEnd
kept_end generation outcome unread = record { generation = generation; outcome = outcome; unread = unread }

abbrev pub is_end_of_generation : Outcome → Bool
is_end_of_generation GoesOn = false
is_end_of_generation Tripped = true
is_end_of_generation Broken = true

abbrev pub outcome_for : Arrived → Outcome
outcome_for (arrived.Waits index) = GoesOn
outcome_for arrived.Tripped = Tripped
outcome_for arrived.ActionFailed = Broken
outcome_for arrived.Broken = GoesOn

-- How the generation of this number ended, or that it goes on.
abbrev pub end_of : ℕ → List KeptEnd → Outcome
end_of generation [] = GoesOn
end_of generation (e ∷ es) = if e.generation == generation then e.outcome else end_of generation es

-- The ends after a call that did this to a generation in which this many callers wait: if it ended, and some wait, they
-- have its end to read.
abbrev pub kept_after : ℕ → Outcome → ℕ → List KeptEnd → List KeptEnd
kept_after generation outcome waiting ends =
    if is_end_of_generation outcome && not (waiting == 0) then ends ++ kept_end generation outcome waiting ∷ [] else ends

-- after a call
abbrev pub booked : Call → Book → Book
booked call b =
    book b.fails (after b.fails call b.barrier)
    (kept_after b.barrier.generation (outcome_of (answer b.fails call b.barrier)) (length b.barrier.waiting) b.ends)

-- The ends after a caller has read how its generation ended. An end is forgotten when the last has read it.
abbrev pub read_by : ℕ → List KeptEnd → List KeptEnd
read_by generation [] = []
read_by generation (e ∷ es) =
    if e.generation == generation then (if nat_lt 1 e.unread then kept_end e.generation e.outcome (e.unread - 1) ∷ es else es)
    else e ∷ read_by generation es

-- The end of this generation is at this place, or none is kept and this is the length.
pub record IsPlace (generation : ℕ) (ends : List KeptEnd) (place : ℕ) : Type 0 where
  pub within : place ≤ length ends
  pub outcome : end_of generation ends ≡ end_of generation (drop place ends)
  pub others : read_by generation ends ≡ take place ends ++ read_by generation (drop place ends)
  pub here : (d : KeptEnd) → place < length ends → (get_or ends place d).generation ≡ generation

-- An arrival that would be the first of its generation is refused while an end of a generation of the same number is kept. Numbers come
-- again after 2^64 generations.
abbrev pub is_free : Book → Bool
is_free b = not (length b.barrier.waiting == 0) || not (is_end_of_generation (end_of b.barrier.generation b.ends))

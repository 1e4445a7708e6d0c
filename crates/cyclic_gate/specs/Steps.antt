-- What each call of a barrier answers and leaves (Java SE 21, `CyclicBarrier`; `Abandon` means that a waiting thread is
-- interrupted or times out, `BreakOff` is own).
use Rattle.std.specs.Prelude.{ℕ, ◌+◌, ◌-◌, ◌==◌, Bool, true, false, not, if◌then◌else◌, List, [], ◌∷◌, ◌++◌, length, filter, Option, eqb}
use Rattle.std.specs.List.{list_any}
use Rattle.advance_rule.specs.Action.{fails_at}
use Rattle.cyclic_gate.specs.Machine.{Machine, machine}
use Rattle.cyclic_gate.specs.declared.call.Call.{Call}
use Rattle.cyclic_gate.specs.declared.call.Call.TheVariants.{Await, Abandon, BreakOff, Reset}

-- The caller waits, with its arrival index; it was the last, and all callers go on with their indices; it was the last and the action
-- failed, and the others get Broken; the barrier is broken; these callers get Broken; a caller that waits arrives; a caller that doesn't
-- wait leaves.
pub data Answer : Type 0 where
  Waiting : ℕ → Answer
  Trips : List (ℕ × ℕ) → Answer
  Fails : List ℕ → Answer
  IsBroken : Answer
  Breaks : List ℕ → Answer
  Already : Answer
  Absent : Answer

-- whether a call with this answer changes the barrier
abbrev pub is_change : Answer → Bool
is_change (Waiting index) = true
is_change (Trips all) = true
is_change (Fails others) = true
is_change IsBroken = false
is_change (Breaks callers) = true
is_change Already = false
is_change Absent = false

abbrev pub is_in : ℕ → List ℕ → Bool
is_in caller callers = list_any (λ x. eqb x caller) callers

abbrev pub others : ℕ → List ℕ → List ℕ
others caller callers = filter (λ x. not (eqb x caller)) callers

-- after the greatest generation comes 0 (own)
abbrev pub next_generation : ℕ → ℕ
next_generation g = if g == 18446744073709551615 then 0 else g + 1

-- the arrival index of the caller that finds k others waiting: parties - 1 is that of the first, 0 that of the last
abbrev pub index_of : ℕ → ℕ → ℕ
index_of parties k = parties - 1 - k

-- callers with their arrival indices, after k others
abbrev pub indexed : ℕ → ℕ → List ℕ → List (ℕ × ℕ)
indexed parties k [] = []
indexed parties k (c ∷ cs) = (c, index_of parties k) ∷ indexed parties (k + 1) cs

-- whether the next to arrive is the last
abbrev pub is_full_by_one : Machine → Bool
is_full_by_one m = length m.waiting + 1 == m.parties

abbrev pub joined : ℕ → Machine → Machine
joined caller m = machine m.parties m.generation (m.waiting ++ caller ∷ []) m.broken

abbrev pub broken_off : Machine → Machine
broken_off m = machine m.parties m.generation [] true

abbrev pub renewed : Machine → Machine
renewed m = machine m.parties (next_generation m.generation) [] false

-- what a call answers, if the action fails in one generation or in none
abbrev pub answer : Option ℕ → Call → Machine → Answer
answer fails (Await c) m =
    if m.broken then IsBroken
    else (if is_in c m.waiting then Already
    else (if is_full_by_one m
    then (if fails_at fails m.generation then Fails m.waiting else Trips (indexed m.parties 0 (m.waiting ++ c ∷ [])))
    else Waiting (index_of m.parties (length m.waiting))))
answer fails (Abandon c) m = if is_in c m.waiting then Breaks (others c m.waiting) else Absent
answer fails BreakOff m = Breaks m.waiting
answer fails Reset m = Breaks m.waiting

-- the barrier after a call
abbrev pub after : Option ℕ → Call → Machine → Machine
after fails (Await c) m =
    if m.broken then m
    else (if is_in c m.waiting then m
    else (if is_full_by_one m
    then (if fails_at fails m.generation then broken_off m else renewed m)
    else joined c m))
after fails (Abandon c) m = if is_in c m.waiting then broken_off m else m
after fails BreakOff m = broken_off m
after fails Reset m = renewed m

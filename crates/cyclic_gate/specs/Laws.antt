-- What a barrier promises over whole runs, in the words of those who use it (Java SE 21, `CyclicBarrier`).
use Rattle.std.specs.Prelude.{◌≡◌, ℕ, ◌+◌, ◌<◌, ◌≤◌, ◌==◌, nat_lt, if◌then◌else◌, List, [], ◌∷◌, ◌++◌, true, false, Option, None, Some}
use Rattle.advance_rule.specs.Action.{fails_at}
use Rattle.cyclic_gate.specs.Machine.{Machine, machine, fresh}
use Rattle.cyclic_gate.specs.Steps.{Answer, Waiting, Trips, Fails, Breaks, answer, after, others, next_generation}
use Rattle.cyclic_gate.specs.Runs.{answers}
use Rattle.cyclic_gate.specs.declared.call.Call.{Call}
use Rattle.cyclic_gate.specs.declared.call.Call.TheVariants.{Await, Abandon, BreakOff, Reset}

-- how often a number is in a list
abbrev pub times : ℕ → List ℕ → ℕ
times n [] = 0
times n (x ∷ xs) = (if x == n then 1 else 0) + times n xs

abbrev pub callers_of : List (ℕ × ℕ) → List ℕ
callers_of [] = []
callers_of (x ∷ xs) = x.0 ∷ callers_of xs

abbrev pub indices_of : List (ℕ × ℕ) → List ℕ
indices_of [] = []
indices_of (x ∷ xs) = x.1 ∷ indices_of xs

-- Each index below the parties is given once, and no other; no caller gets two.
pub record GivesEachOnce (parties : ℕ) (all : List (ℕ × ℕ)) : Type 0 where
  pub indices : (i : ℕ) → times i (indices_of all) ≡ (if nat_lt i parties then 1 else 0)
  pub callers : (c : ℕ) → times c (callers_of all) ≤ 1

abbrev pub IsRightTrip : ℕ → Answer → Type 0
IsRightTrip parties (Trips all) = GivesEachOnce parties all
IsRightTrip parties _ = Unit {0}

abbrev pub AllRight : ℕ → List Answer → Type 0
AllRight parties [] = Unit {0}
AllRight parties (a ∷ rest) = IsRightTrip parties a × AllRight parties rest

-- In every run each tripped generation gives each index below the parties exactly once, and no caller two.
abbrev pub TripsGiveEachOnce : Type 0
TripsGiveEachOnce =
    (parties : ℕ) (fails : Option ℕ) (calls : List Call) → 0 < parties → AllRight parties (answers fails calls (fresh parties))

-- who has to wait in the generation, with the index given, after one more call
abbrev pub answered_after : List (ℕ × ℕ) → Call → Answer → List (ℕ × ℕ)
answered_after answered (Await c) (Waiting index) = answered ++ (c, index) ∷ []
answered_after answered call (Trips all) = []
answered_after answered call (Fails others) = []
answered_after answered call (Breaks callers) = []
answered_after answered call _ = answered

-- A call that ends a generation names just those who have to wait in it: a trip with the indices given, and the last
-- caller with 0; an abandon all but its caller.
abbrev pub EndsOfAnswered : List (ℕ × ℕ) → Call → Answer → Type 0
EndsOfAnswered answered (Await c) (Trips all) = all ≡ answered ++ (c, 0) ∷ []
EndsOfAnswered answered call (Fails callers) = callers ≡ callers_of answered
EndsOfAnswered answered (Abandon c) (Breaks callers) = callers ≡ others c (callers_of answered)
EndsOfAnswered answered call (Breaks callers) = callers ≡ callers_of answered
EndsOfAnswered answered _ _ = Unit {0}

abbrev pub RunEndsOfAnswered : Option ℕ → List Call → List (ℕ × ℕ) → Machine → Type 0
RunEndsOfAnswered fails [] answered m = Unit {0}
RunEndsOfAnswered fails (c ∷ cs) answered m =
    EndsOfAnswered answered c (answer fails c m)
    × RunEndsOfAnswered fails cs (answered_after answered c (answer fails c m)) (after fails c m)

-- In every run the one list that ends a generation names exactly those who have to wait in it.
abbrev pub EndsNameTheAnswered : Type 0
EndsNameTheAnswered = (parties : ℕ) (fails : Option ℕ) (calls : List Call) → 0 < parties → RunEndsOfAnswered fails calls [] (fresh parties)

-- Each generation is followed by the next number, and the greatest of 64 bits by 0: about the half of them and at the end, worked out by
-- hand.
pub record GenerationsFollow : Type 0 where
  pub below : (g : ℕ) → g < 18446744073709551615 → next_generation g ≡ g + 1
  pub half : next_generation 9223372036854775807 ≡ 9223372036854775808
  pub last : next_generation 18446744073709551614 ≡ 18446744073709551615
  pub wraps : next_generation 18446744073709551615 ≡ 0

-- A trip and a reset take the next generation. A break stays in its generation, and nobody waits then: in general, and
-- for a barrier of two parties in generation 7, at which caller 5 waits, worked out by hand.
pub record EndsMoveOrKeep : Type 0 where
  pub resets : (fails : Option ℕ) (m : Machine) → after fails Reset m ≡ machine m.parties (next_generation m.generation) [] false
  pub breaks : (fails : Option ℕ) (m : Machine) → after fails BreakOff m ≡ machine m.parties m.generation [] true
  pub trip : after None (Await 9) (machine 2 7 (5 ∷ []) false) ≡ machine 2 8 [] false
  pub failure : after (Some 7) (Await 9) (machine 2 7 (5 ∷ []) false) ≡ machine 2 7 [] true
  pub other_failure : after (Some 8) (Await 9) (machine 2 7 (5 ∷ []) false) ≡ machine 2 8 [] false
  pub earlier_failure : after (Some 6) (Await 9) (machine 2 7 (5 ∷ []) false) ≡ machine 2 8 [] false
  pub abandon : after None (Abandon 5) (machine 2 7 (5 ∷ []) false) ≡ machine 2 7 [] true
  pub break_off : after None BreakOff (machine 2 7 (5 ∷ []) false) ≡ machine 2 7 [] true
  pub reset : after None Reset (machine 2 7 (5 ∷ []) false) ≡ machine 2 8 [] false
  pub broken_again : after None BreakOff (machine 2 7 [] true) ≡ machine 2 7 [] true
  pub mended : after None Reset (machine 2 7 [] true) ≡ machine 2 8 [] false

-- An action that is to fail in a generation fails in that one, and in no other; one that isn't, in none.
pub record FailuresAreAsPlanned : Type 0 where
  pub never : (g : ℕ) → fails_at None g ≡ false
  pub there : (at : ℕ) → fails_at (Some at) at ≡ true
  pub nowhere_else : (at g : ℕ) → (g ≡ at → ⊥) → fails_at (Some at) g ≡ false
  pub worked : (fails_at (Some 5) 4 ≡ false) × (fails_at (Some 5) 5 ≡ true) × (fails_at (Some 5) 6 ≡ false)

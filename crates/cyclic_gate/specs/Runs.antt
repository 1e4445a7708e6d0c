-- Lists of calls of a barrier.
use Rattle.std.specs.Prelude.{ℕ, List, [], ◌∷◌, Option}
use Rattle.cyclic_gate.specs.Machine.{Machine, fresh}
use Rattle.cyclic_gate.specs.Steps.{Answer, answer, after}
use Rattle.cyclic_gate.specs.declared.call.Call.{Call}

-- what the calls answer one after another, and the barrier that they leave
abbrev pub answers : Option ℕ → List Call → Machine → List Answer
answers fails [] m = []
answers fails (c ∷ cs) m = answer fails c m ∷ answers fails cs (after fails c m)

abbrev pub after_all : Option ℕ → List Call → Machine → Machine
after_all fails [] m = m
after_all fails (c ∷ cs) m = after_all fails cs (after fails c m)

-- Some list of calls leaves a barrier of this many parties of which this is true.
abbrev pub AfterSome : ℕ → Option ℕ → (Machine → Type 0) → Type 0
AfterSome parties fails holds = (calls : List Call) × holds (after_all fails calls (fresh parties))

-- What a run of commands prints, if what each prints and leaves is given.
use Rattle.std.specs.Prelude.{ℕ, List, [], ◌∷◌, ◌++◌}

abbrev pub run_text : {C S : Type 0} → (C → S → List ℕ) → (C → S → S) → List C → S → List ℕ
run_text text after [] s = []
run_text text after (c ∷ cs) s = text c s ++ run_text text after cs (after c s)

-- Words as they are borrowed.
use Rattle.std.specs.Prelude.{ℕ, List, map}
use Rattle.std.specs.Borrow.{Bor}
use Rattle.job_reader.specs.declared.exprs.Scope.{Scope}
use Rattle.job_reader.specs.Words.{Words}
use Rattle.job_reader.specs.Exprs.{Names}

abbrev pub lent : List (Bor (List ℕ)) → Words
lent ws = map (λ w. w.now) ws

-- the names of a scope
abbrev pub names_in : Scope → Names
names_in s = record { arrays = lent s.arrays.now; bodies = lent s.bodies.now; locals = lent s.locals.now }

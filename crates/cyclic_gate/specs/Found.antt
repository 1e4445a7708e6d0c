-- A set of the callers that wait, to find one at once (own).
use Rattle.std.specs.Prelude.{◌≡◌, ℕ, List, nat_eq}
use Rattle.std.specs.HashSet.{HashSet, contains}
use Rattle.std.specs.declared.hash.FoldHasher.{FoldHasher}
use Rattle.std.specs.declared.hash.BuildHasherDefault.{BuildHasherDefault}
use Rattle.cyclic_gate.specs.Steps.{is_in}

-- the set has exactly the callers of the list
abbrev pub AreFound : HashSet ℕ (BuildHasherDefault FoldHasher) → List ℕ → Type 0
AreFound callers waiting = (c : ℕ) → contains nat_eq callers c ≡ is_in c waiting

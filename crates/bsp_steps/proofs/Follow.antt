-- Arrays that may follow each other.
use Rattle.std.proofs.Common.{◌≡◌, ℕ, Bool, true, false, ◌&&◌, List, [], ◌∷◌, ◌++◌, refl}
use Rattle.std.specs.Prelude.{ℤ, IsTrue}
use Rattle.std.specs.List.{list_all}
use Rattle.bsp_steps.specs.declared.given.ArrayGiven.{ArrayGiven}
use Rattle.bsp_steps.specs.Given.{array_given, is_small, MayFollow}

-- they are all small
pub small_all : (before : List (List ℕ × List ℤ)) (given : List ArrayGiven) → MayFollow before given → list_all is_small given ≡ true
small_all before [] m = refl
small_all before (a ∷ rest) m = both (is_small a) _ m.0.1 (small_all (before ++ array_given a ∷ []) rest m.1)
  where
    both : (b c : Bool) → IsTrue b → c ≡ true → (b && c) ≡ true
    both true c t e = e
    both false c t e = cc

-- Puts before the first that overflows.
use Rattle.std.proofs.Common.{◌≡◌, ℕ, zero, suc, ◌+◌, List, [], ◌∷◌, ◌++◌, Bool, true, false, Option, Some, None, refl, ap, ◌∙◌, arith}
use Rattle.std.specs.Prelude.{ℤ, take, if◌then◌else◌}
use Rattle.superstep_memory.specs.declared.arrays.Put.{Put}
use Rattle.superstep_memory.specs.Landing.{over_in, overflows}

module _ (arrays : List (List ℕ × List ℤ)) where
  by : (b : Bool) (place count : ℕ) (rest taken : Option ℕ) → (if b then Some place else rest) ≡ Some (place + suc count)
      → (rest ≡ Some (suc place + count) → taken ≡ None) → (if b then Some place else taken) ≡ None
  by true place count rest taken h more = let wrong : place ≡ place + suc count = cc in absurd (omega (arith, wrong))
  by false place count rest taken h more =
      let same : place + suc count ≡ suc place + count = omega arith in more (h ∙ ap (λ (n : ℕ). Some n) same)

  -- none of those before it overflows
  pub none-before : (front ps : List Put) (place count : ℕ) → over_in arrays front place ps ≡ Some (place + count)
      → over_in arrays front place (take count ps) ≡ None
  none-before front ps place zero e = refl
  none-before front [] place (suc count) e = absurd cc
  none-before front (p ∷ ps) place (suc count) e =
      by (overflows arrays front p) place count (over_in arrays (front ++ p ∷ []) (suc place) ps)
      (over_in arrays (front ++ p ∷ []) (suc place) (take count ps)) e
      (λ h. none-before (front ++ p ∷ []) ps (suc place) count h)

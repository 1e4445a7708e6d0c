-- How many lines are open at once.
use Rattle.std.proofs.Common.{◌≡◌, ℕ, ◌<◌, ◌≤◌, List, [], ◌∷◌, subst, arith}
use Rattle.std.specs.Prelude.{max}
use Rattle.task_code.specs.declared.code.Line.{Line}
use Rattle.task_code.specs.Limits.{opened, deepest}

-- at least those that are open in front
deepest-least : (k : ℕ) (ls : List Line) → k ≤ deepest k ls
deepest-least k [] = omega arith
deepest-least k (l ∷ ls) = omega arith

pub too-deep : (k j : ℕ) (l : Line) (ls rest : List Line) → rest ≡ l ∷ ls → j ≡ opened k l → 16 < j → deepest k rest ≤ 16 → ⊥
too-deep k j l ls rest e o h d =
    let whole : max k (deepest (opened k l) ls) ≤ 16 = subst (λ (x : List Line). deepest k x ≤ 16) e d in
    let least : opened k l ≤ deepest (opened k l) ls = deepest-least (opened k l) ls in
    omega arith

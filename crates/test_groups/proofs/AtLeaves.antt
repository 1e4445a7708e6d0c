-- Groups at the leaves of a tree are groups of this tree.
use Rattle.std.proofs.Common.{◌≡◌, ℕ, zero, suc, All, List, [], ◌∷◌, subst, sym}
use Rattle.std.proofs.lemmas.List.Elements.{All-nil, All-cons}
use Rattle.tier_table.specs.Holding.{Named}
use Rattle.tier_table.specs.Groups.{GroupHeld}
use Rattle.tier_table.specs.Beginning.{AreAtLeaves}

pub are_own : (n : Named) (phase : ℕ) (leaves counts : List ℕ) (groups : List GroupHeld) → AreAtLeaves n phase leaves counts groups
    → All (λ (g : GroupHeld). g.tree ≡ n) groups
are_own n phase leaves [] groups none = subst (All (λ (g : GroupHeld). g.tree ≡ n)) (sym none) (All-nil (λ (g : GroupHeld). g.tree ≡ n))
are_own n phase [] (count ∷ counts) groups none =
    subst (All (λ (g : GroupHeld). g.tree ≡ n)) (sym none) (All-nil (λ (g : GroupHeld). g.tree ≡ n))
are_own n phase (leaf ∷ leaves) (zero ∷ counts) groups at = are_own n phase leaves counts groups at
are_own n phase (leaf ∷ leaves) (suc more ∷ counts) [] none = absurd none
are_own n phase (leaf ∷ leaves) (suc more ∷ counts) (group ∷ groups) at =
    All-cons (λ (g : GroupHeld). g.tree ≡ n) group groups at.0.own (are_own n phase leaves counts groups at.1)

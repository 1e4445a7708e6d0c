-- The members with which a tree begins are of this tree.
use Rattle.std.proofs.Common.{◌≡◌, ℕ, zero, suc, List, [], ◌∷◌, ◌++◌, subst, sym}
use Rattle.tier_calls.specs.Holding.{Named}
use Rattle.tier_calls.specs.Groups.{GroupHeld}
use Rattle.tier_table.specs.Beginning.{AreAtLeaves}
use Rattle.worker_pool.specs.Begun.{AreOf}

none : (n : Named) (groups : List GroupHeld) → groups ≡ [] → AreOf n groups
none n groups e = subst (AreOf n) (sym e) tt

-- all but the last, and the last one
pub all_but_last : (n : Named) (xs : List GroupHeld) (x : GroupHeld) → AreOf n (xs ++ x ∷ []) → AreOf n xs × (x.tree ≡ n)
all_but_last n [] x h = (tt, h.0)
all_but_last n (y ∷ xs) x h = let r = all_but_last n xs x h.1 in ((h.0, r.0), r.1)

pub of_tree : (n : Named) (phase : ℕ) (leaves counts : List ℕ) (groups : List GroupHeld) → AreAtLeaves n phase leaves counts groups
    → AreOf n groups
of_tree n phase leaves [] groups h = none n groups h
of_tree n phase [] (count ∷ counts) groups h = none n groups h
of_tree n phase (leaf ∷ leaves) (zero ∷ counts) groups h = of_tree n phase leaves counts groups h
of_tree n phase (leaf ∷ leaves) (suc more ∷ counts) [] h = absurd h
of_tree n phase (leaf ∷ leaves) (suc more ∷ counts) (group ∷ groups) h = (h.0.own, of_tree n phase leaves counts groups h.1)

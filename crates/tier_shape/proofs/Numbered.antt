-- A leaf by its number is a tier, and how many leaves there are.
use Rattle.std.proofs.Common.{◌≡◌, ℕ, zero, suc, ◌<◌, ◌≤◌, ◌%◌, Bool, List, [], ◌∷◌, length, get_or, refl, subst, sym, ap, arith}
use Rattle.std.specs.Prelude.{filter, not}
use Rattle.std.proofs.lemmas.List.Filters.{length-filter_both}
use Rattle.std.proofs.lemmas.List.FromFn.{length-range_with_len}
use Rattle.std.specs.List.{Contains, range_with_len}
use Rattle.std.proofs.Math.Nat.{mod-lt}
use Rattle.tier_shape.specs.Leaves.{leaves_of, is_leaf_of}
use Rattle.tier_shape.specs.Paths.{IsTiers}
use Rattle.tier_shape.specs.Preferred.{leaf_at}
use Rattle.tier_shape.proofs.Childless.{leaves_right, trees_have_a_leaf}

-- a leaf is a tier of its tree
leaf_within : (ps : List ℕ) (tier : ℕ) → Contains (leaves_of ps) tier → tier < length ps
leaf_within ps tier found = (((leaves_right ps).exact tier).0 found).within

any_default : (xs : List ℕ) (k d e : ℕ) → k < length xs → get_or xs k d ≡ get_or xs k e
any_default [] k d e h = absurd (omega arith)
any_default (x ∷ xs) zero d e h = refl
any_default (x ∷ xs) (suc k) d e h = any_default xs k d e (omega arith)

-- the leaf of any number is a tier
pub numbered_within : (ps tiers : List ℕ) (number tier : ℕ) → tiers ≡ leaves_of ps → 0 < length tiers → tier ≡ leaf_at (leaves_of ps) number
    → tier < length ps
numbered_within ps tiers number tier all some e =
    let here : 0 < length (leaves_of ps) = subst (λ (xs : List ℕ). 0 < length xs) all some in
    let below : number % length (leaves_of ps) < length (leaves_of ps) = mod-lt number here in
    subst (λ (t : ℕ). t < length ps) (sym e)
    (leaf_within ps (leaf_at (leaves_of ps) number)
    (number % length (leaves_of ps), below, any_default (leaves_of ps) (number % length (leaves_of ps)) _ 0 below))

-- a shape has a leaf
pub some_leaf : (ps tiers : List ℕ) → IsTiers ps → tiers ≡ leaves_of ps → 0 < length tiers
some_leaf ps tiers t e = subst (λ (xs : List ℕ). 0 < length xs) (sym e) (trees_have_a_leaf ps t.shape).1

fewer : (p : ℕ → Bool) (xs : List ℕ) → length (filter p xs) ≤ length xs
fewer p xs = let e = length-filter_both p (λ x. not (p x)) (λ x. refl) xs in omega (arith, e)

-- a shape has at most 64
pub few_leaves : (ps tiers : List ℕ) → IsTiers ps → tiers ≡ leaves_of ps → length tiers ≤ 64
few_leaves ps tiers t e =
    let a = fewer (is_leaf_of ps) (range_with_len 0 (length ps)) in
    let b = length-range_with_len 0 (length ps) in
    let c = t.few in
    let d = ap length e in
    omega (arith, a, b, c, d)

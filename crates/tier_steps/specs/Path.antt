-- The claimed tiers of an opening, on the path from its tier to the root (own).
use Rattle.std.specs.Prelude.{◌≡◌, ℕ, ◌+◌, ◌≤◌, ◌<◌, ◌==◌, List, length, slice_index, count_by}
use Rattle.tier_steps.specs.View.{parent_of, ancestor, claimed_tiers, claims_on}
use Rattle.tier_steps.specs.Tally.{IsShape}

-- The ancestors of a tier are, one after the other, on a path that begins at it and goes from parent to parent.
abbrev pub AncestorsAreOnThePath : Type 0
AncestorsAreOnThePath =
    (parents : List ℕ) (tier : ℕ) (path : List ℕ)
    → slice_index path 0 ≡ tier
    → ((place : ℕ) → place + 1 < length path → slice_index path (place + 1) ≡ parent_of parents (slice_index path place))
    → (above : ℕ) → above < length path → slice_index path above ≡ ancestor parents tier above

-- What an opening counts as claims is its list of claimed tiers.
abbrev pub ClaimsAreListed : Type 0
ClaimsAreListed =
    (parents : List ℕ) (tier claimed u : ℕ) → claims_on parents tier claimed u ≡ count_by (λ c. c == u) (claimed_tiers parents tier claimed)

-- A path falls by at least one at each tier below the root.
abbrev pub PathsFall : Type 0
PathsFall =
    (parents : List ℕ) (tier above : ℕ) → IsShape parents → tier < length parents
    → 0 < ancestor parents tier above → ancestor parents tier above + above ≤ tier

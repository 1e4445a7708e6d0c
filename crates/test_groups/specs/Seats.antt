-- Places for groups (own).
use Rattle.std.specs.Prelude.{◌≡◌}
use Rattle.tier_table.specs.Holding.{Named}
use Rattle.test_groups.specs.declared.seats.Seat.{Seat}
use Rattle.test_groups.specs.declared.seats.Seat.TheVariants.{Outside, Inside}

-- the tree of a place
abbrev pub tree_at : Seat → Named
tree_at (Outside door) = door.tree
tree_at (Inside group) = group.tree

-- two places of this tree
abbrev pub TwoAt : Named → Seat × Seat → Type 0
TwoAt tree seats = (tree_at seats.0 ≡ tree) × (tree_at seats.1 ≡ tree)

-- three places of this tree
abbrev pub ThreeAt : Named → Seat × Seat × Seat → Type 0
ThreeAt tree seats = (tree_at seats.0 ≡ tree) × (tree_at seats.1 ≡ tree) × (tree_at seats.2 ≡ tree)

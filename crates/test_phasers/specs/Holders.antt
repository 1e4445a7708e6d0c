-- Tokens, whatever they are in (own).
use Rattle.std.specs.Prelude.{◌≡◌}
use Rattle.tier_table.specs.Holding.{Named}
use Rattle.test_phasers.specs.declared.calls.holders.Eight.{Eight}
use Rattle.test_phasers.specs.declared.calls.holders.Holder.{Holder}
use Rattle.test_phasers.specs.declared.calls.holders.Holder.TheVariants.{Outside, Inside, Owing, Opening}

-- the tree of a token
abbrev pub tree_of : Holder → Named
tree_of (Outside door) = door.tree
tree_of (Inside crew) = crew.tree
tree_of (Owing errand) = errand.token.tree
tree_of (Opening opening) = opening.token.tree

-- tokens of this tree
abbrev pub ThreeOf : Named → Holder × Holder × Holder → Type 0
ThreeOf tree holders = (tree_of holders.0 ≡ tree) × (tree_of holders.1 ≡ tree) × (tree_of holders.2 ≡ tree)

abbrev pub FourOf : Named → Holder × Holder × Holder × Holder → Type 0
FourOf tree holders = (tree_of holders.0 ≡ tree) × (tree_of holders.1 ≡ tree) × (tree_of holders.2 ≡ tree) × (tree_of holders.3 ≡ tree)

abbrev pub EightOf : Named → Eight → Type 0
EightOf tree holders = FourOf tree holders.front × FourOf tree holders.back

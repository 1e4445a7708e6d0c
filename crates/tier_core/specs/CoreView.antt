-- A tree as its machine's state, apart from its place in memory.
use Rattle.tier_core.specs.declared.tree.Core.TheInside.{Inside}
use Rattle.tier_core.specs.Machine.{State, IsCore}

abbrev pub core_of : Inside → State
core_of c = record { parents = c.shape; words = c.words.items; views = c.views.items; calls = c.calls.items; plan = c.plan }

abbrev pub IsCoreInside : Inside → Type 0
IsCoreInside c = IsCore (core_of c)

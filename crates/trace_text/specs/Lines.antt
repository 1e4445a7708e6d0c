-- Lines that traces of each kind print (own).
use Rattle.std.specs.Prelude.{ℕ, List, ◌++◌, codes, decimal}

-- the line of an advance: the phase that ends, and the parties
abbrev pub advance_line : ℕ → ℕ → List ℕ
advance_line phase parties = codes "advance " ++ decimal phase ++ codes " parties " ++ decimal parties ++ codes "\n"

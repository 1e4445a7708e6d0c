-- What a look at each tier finds.
use Rattle.std.specs.Prelude.{ℕ, ◌==◌, ◌&&◌, not, if◌then◌else◌, List}
use Rattle.phaser_word.specs.Fields.{Fields}
use Rattle.tier_calls.specs.Holding.{Named, Holding, IsSat}
use Rattle.tier_calls.specs.Reads.{ReadsWords}

-- how many parties of a tier have not arrived in the root's phase: none of an empty tier, all of one that is in an earlier phase
abbrev pub unarrived_at : Fields → Fields → ℕ
unarrived_at root w =
    if w.parties == 0 then 0 else (if (w.unarrived == 0) && not (w.phase == root.phase) then w.parties else w.unarrived)

-- words that a token has found, one look at each tier
abbrev pub FindsWords : Holding → List Fields → Type 0
FindsWords door words = (after : Holding) × ReadsWords door words after

-- words that a new token of this tree has found
abbrev pub FindsAll : Named → List Fields → Type 0
FindsAll n words = (door : Holding) × IsSat n door × FindsWords door words

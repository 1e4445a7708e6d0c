-- Puts that come in rows: values for adjacent cells. Each put sets its cell.
use Rattle.std.specs.Prelude.{◌≡◌, ℕ, suc, ℤ, List, [], ◌∷◌, slice_set}
use Rattle.superstep_memory.specs.declared.arrays.PutKind.TheVariants.{Set}
use Rattle.superstep_memory.specs.declared.arrays.Put.{Put}
use Rattle.superstep_memory.specs.Cells.{with_place}

-- the puts of these values into cells side by side, the first of them this one
abbrev pub row_puts : ℕ → ℕ → List ℤ → List Put
row_puts array first [] = []
row_puts array first (v ∷ vs) = record { array = array; index = first; kind = Set; value = v } ∷ row_puts array (suc first) vs

-- cells with these values written from this one on; those past the end are left out
abbrev pub row_set : List ℤ → ℕ → List ℤ → List ℤ
row_set cells first [] = cells
row_set cells first (v ∷ vs) = row_set (slice_set cells first v) (suc first) vs

-- arrays with these values written from this cell on
abbrev pub with_row : List (List ℕ × List ℤ) → ℕ → ℕ → List ℤ → List (List ℕ × List ℤ)
with_row arrays array first [] = arrays
with_row arrays array first (v ∷ vs) = with_row (with_place arrays array first v) array (suc first) vs

-- these puts are to cells side by side, the first of them to this one
abbrev pub AreSideBySide : ℕ → ℕ → List Put → Type 0
AreSideBySide array first [] = Unit {0}
AreSideBySide array first (p ∷ ps) = (p.array ≡ array) × (p.index ≡ first) × AreSideBySide array (suc first) ps

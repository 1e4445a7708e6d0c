-- Puts in order, some of them in rows (own).
use Rattle.std.specs.Prelude.{ℕ, ◌+◌, Bool, true, false, List, [], ◌∷◌, ◌++◌}
use Rattle.superstep_memory.specs.declared.arrays.Put.{Put}
use Rattle.superstep_memory.specs.declared.lots.Lot.{Lot}
use Rattle.superstep_memory.specs.declared.lots.Row.{Row}
use Rattle.superstep_memory.specs.Rows.{row_puts}

-- a lot that is one put
abbrev pub put_of : Lot → Put
put_of l = record { array = l.array; index = l.index; kind = l.kind; value = l.value }

-- the puts of a lot: one, or those of the first of these rows
abbrev pub puts_by : Bool → Lot → List Row → List Put
puts_by false l rows = put_of l ∷ []
puts_by true l [] = []
puts_by true l (r ∷ rs) = row_puts l.array l.index r.values.items

-- the rows that later lots have
abbrev pub rows_by : Bool → List Row → List Row
rows_by false rows = rows
rows_by true [] = []
rows_by true (r ∷ rs) = rs

abbrev pub puts_of : Lot → List Row → List Put
puts_of l rows = puts_by l.is_row l rows

abbrev pub rows_after : Lot → List Row → List Row
rows_after l rows = rows_by l.is_row rows

-- the puts of these lots, one after another; each lot that is a row has one of these rows, in order
abbrev pub puts_in : List Lot → List Row → List Put
puts_in [] rows = []
puts_in (l ∷ ls) rows = puts_of l rows ++ puts_in ls (rows_after l rows)

abbrev pub one_if : Bool → ℕ
one_if true = 1
one_if false = 0

-- how many of these lots are rows
abbrev pub rows_among : List Lot → ℕ
rows_among [] = 0
rows_among (l ∷ ls) = one_if l.is_row + rows_among ls

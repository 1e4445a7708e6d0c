-- What the kernel over a board leaves (own).
use Rattle.std.specs.Prelude.{◌≡◌, ◌<◌, ℕ, zero, suc, ◌+◌, ◌-◌, ◌*◌, nat_le, nat_lt, ℤ, pos, Bool, true, false, ◌&&◌, List, [], ◌++◌, length, get_or, take, drop, slice_get}
use Rattle.superstep_memory.specs.Rows.{row_puts}
use Rattle.task_bodies.specs.declared.grid.BoardRows.{BoardRows}
use Rattle.task_bodies.specs.declared.grid.Window.{Window}
use Rattle.task_bodies.specs.declared.body.Ending.TheVariants.{Fails}
use Rattle.task_bodies.specs.Bodies.{Left, cells_in}
use Rattle.task_bodies.specs.Kernels.{ends_in}
use Rattle.task_bodies.specs.Cells.{AreEach}

-- the row of this number, from 0, of a board of this width
abbrev pub row_at : List ℤ → ℕ → ℕ → List ℤ
row_at cells width row = take width (drop (row * width) cells)

-- the one before it; none before the first
abbrev pub row_before : List ℤ → ℕ → ℕ → List ℤ
row_before cells width zero = []
row_before cells width (suc row) = row_at cells width row

-- a cell of a row, by its number from 1; what is beyond, if the row has no such cell
abbrev pub near : ℤ → List ℤ → ℕ → ℤ
near beyond cells zero = beyond
near beyond cells (suc place) = get_or cells place beyond

-- the cell in this column of the middle one of three rows, and its neighbours
abbrev pub window_in : ℤ → List ℤ → List ℤ → List ℤ → ℕ → Window
window_in beyond up own down column = record {
  north_west = near beyond up column;
  north = near beyond up (column + 1);
  north_east = near beyond up (column + 2);
  west = near beyond own column;
  own = near beyond own (column + 1);
  east = near beyond own (column + 2);
  south_west = near beyond down column;
  south = near beyond down (column + 1);
  south_east = near beyond down (column + 2);
}

-- the cell in this row and column, and its neighbours
abbrev pub window_at : ℤ → List ℤ → ℕ → ℕ → ℕ → Window
window_at beyond cells width row column =
    window_in beyond (row_before cells width row) (row_at cells width row) (row_at cells width (row + 1)) column

-- what the relation gives for the cells of a row was appended
pub record HasRow (gives : Window → ℤ → Type 0) (beyond : ℤ) (up own down : List ℤ) (width : ℕ) (old new : List ℤ) : Type 0 where
  pub row : List ℤ
  pub more : new ≡ old ++ row
  pub given : AreEach (λ column v. gives (window_in beyond up own down column) v) width row

-- these are what the relation gives for the cells of this many rows; the first of them is this one
pub record AreRowsGiven (gives : Window → ℤ → Type 0) (beyond : ℤ) (cells : List ℤ) (width first count : ℕ) (values : List ℤ) : Type 0 where
  pub long : length values ≡ count * width
  pub each : (row column : ℕ) → row < count → column < width
      → gives (window_at beyond cells width (first + row) column) (get_or values (row * width + column) (pos 0))

-- these rows are among this many cells; there is at least one row
abbrev pub are_rows : ℕ → ℕ → BoardRows → Bool
are_rows count width k = nat_lt 0 width && nat_lt k.first k.end && nat_le (k.end * width) count

-- what the relation gives for the cells, in place of them, and nothing else
pub record IsGridded (gives : Window → ℤ → Type 0) (array width : ℕ) (beyond : ℤ) (last : ℕ) (cells : List ℤ) (step : ℕ) (k : BoardRows)
    (o : Left BoardRows) : Type 0 where
  pub kept : o.kept ≡ k
  pub values : List ℤ
  pub given : AreRowsGiven gives beyond cells width k.first (k.end - k.first) values
  pub puts : o.puts ≡ row_puts array (k.first * width) values
  pub prints : o.prints ≡ []
  pub spawns : o.spawns ≡ []
  pub ending : o.ending ≡ ends_in last step

-- such rows if all these exist, else the fault 16
pub record GridMay (gives : Window → ℤ → Type 0) (array width : ℕ) (beyond : ℤ) (last : ℕ) (arrays : List (List ℕ × List ℤ)) (step : ℕ)
    (k : BoardRows) (o : Left BoardRows) : Type 0 where
  pub there : are_rows (length (cells_in (slice_get arrays array))) width k ≡ true
      → IsGridded gives array width beyond last (cells_in (slice_get arrays array)) step k o
  pub not_there : are_rows (length (cells_in (slice_get arrays array))) width k ≡ false → o.ending ≡ Fails 16

-- What a piece of the rod leaves (own).
use Rattle.std.specs.Prelude.{ℕ, zero, suc, ◌+◌, ◌-◌, ℤ, pos, int_div, List, [], ◌∷◌, get_or, slice_get}
use Rattle.std.specs.Int.{w64, int_wrapping_add}
use Rattle.superstep_memory.specs.Rows.{row_puts}
use Rattle.task_bodies.specs.Bodies.{Left, cells_in}
use Rattle.task_bodies.specs.Kernels.{ends_in}
use Rattle.example_bodies.specs.declared.exact.Piece.{Piece}

abbrev pub at : List ℤ → ℕ → ℤ
at cells place = get_or cells place (pos 0)

-- what the cell at this place becomes: a quarter of its neighbours and of twice itself
abbrev pub mixed : List ℤ → ℕ → ℤ
mixed cells place =
    int_div
    (int_wrapping_add w64 (int_wrapping_add w64 (int_wrapping_add w64 (at cells (place - 1)) (at cells (place + 1))) (at cells place)) (at cells place))
    (pos 4)

-- what this many cells become; the first of them is at this place
abbrev pub mixed_from : List ℤ → ℕ → ℕ → List ℤ
mixed_from cells place zero = []
mixed_from cells place (suc count) = mixed cells place ∷ mixed_from cells (suc place) count

-- a piece sets its cells, keeps itself, and goes on up to the last superstep
abbrev pub rod_does : ℕ → List (List ℕ × List ℤ) → ℕ → Piece → Left Piece
rod_does last arrays step k = record {
  kept = k;
  puts = row_puts 0 k.first (mixed_from (cells_in (slice_get arrays 0)) k.first (k.end - k.first));
  prints = [];
  spawns = [];
  ending = ends_in last step;
}

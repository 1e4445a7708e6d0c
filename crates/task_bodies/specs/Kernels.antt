-- What kernels leave, which are bodies over a closure (own).
use Rattle.std.specs.Prelude.{◌≡◌, ◌<◌, ℕ, ◌+◌, ◌-◌, nat_le, nat_lt, ℤ, pos, Bool, true, false, ◌&&◌, if◌then◌else◌, List, [], length, get_or, slice_get}
use Rattle.superstep_memory.specs.Rows.{row_puts}
use Rattle.task_bodies.specs.declared.kernel.Span.{Span}
use Rattle.task_bodies.specs.declared.body.Ending.{Ending}
use Rattle.task_bodies.specs.declared.body.Ending.TheVariants.{Syncs, Stops, Fails}
use Rattle.task_bodies.specs.Bodies.{Left, cells_in}

-- these are what a relation gives for this many cells and their neighbours; the first of them is after this place
pub record IsMapped (gives : ℤ → ℤ → ℤ → ℤ → Type 0) (cells : List ℤ) (first count : ℕ) (values : List ℤ) : Type 0 where
  pub long : length values ≡ count
  pub each : (i : ℕ) → i < count
      → gives (get_or cells (first + i) (pos 0)) (get_or cells (first + i + 1) (pos 0)) (get_or cells (first + i + 2) (pos 0))
      (get_or values i (pos 0))

-- it goes on until this superstep
abbrev pub ends_in : ℕ → ℕ → Ending
ends_in last step = if nat_lt step last then Syncs else Stops

-- a row of what the relation gives, in place of the cells, and nothing else
pub record IsStencilled (gives : ℤ → ℤ → ℤ → ℤ → Type 0) (array last : ℕ) (cells : List ℤ) (step : ℕ) (k : Span)
    (o : Left Span) : Type 0 where
  pub kept : o.kept ≡ k
  pub values : List ℤ
  pub mapped : IsMapped gives cells k.before (k.end - k.before) values
  pub puts : o.puts ≡ row_puts array (k.before + 1) values
  pub prints : o.prints ≡ []
  pub spawns : o.spawns ≡ []
  pub ending : o.ending ≡ ends_in last step

-- all cells of a span and their neighbours exist
abbrev pub is_there : List ℤ → Span → Bool
is_there cells k = nat_le k.before k.end && nat_le (k.end + 2) (length cells)

-- such a row if all these cells exist, else the fault 16
pub record StencilMay (gives : ℤ → ℤ → ℤ → ℤ → Type 0) (array last : ℕ) (arrays : List (List ℕ × List ℤ)) (step : ℕ) (k : Span)
    (o : Left Span) : Type 0 where
  pub there : is_there (cells_in (slice_get arrays array)) k ≡ true
      → IsStencilled gives array last (cells_in (slice_get arrays array)) step k o
  pub not_there : is_there (cells_in (slice_get arrays array)) k ≡ false → o.ending ≡ Fails 16

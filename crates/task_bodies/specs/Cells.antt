-- What kernels over cells side by side leave (own).
use Rattle.std.specs.Prelude.{◌≡◌, ◌<◌, ◌⊎◌, ℕ, ◌+◌, ◌-◌, nat_le, ℤ, pos, ◌+ℤ◌, Bool, true, false, not, ◌&&◌, List, [], ◌∷◌, length, get_or, slice_get}
use Rattle.superstep_memory.specs.declared.arrays.PutKind.TheVariants.{Add}
use Rattle.superstep_memory.specs.Landing.{is_over}
use Rattle.superstep_memory.specs.Rows.{row_puts}
use Rattle.task_bodies.specs.declared.cells.Cells.{Cells}
use Rattle.task_bodies.specs.declared.body.Ending.TheVariants.{Stops, Fails}
use Rattle.task_bodies.specs.Bodies.{Left, cells_in}
use Rattle.task_bodies.specs.Kernels.{ends_in}

-- this many values, each as said of its place
pub record AreEach (each_is : ℕ → ℤ → Type 0) (count : ℕ) (values : List ℤ) : Type 0 where
  pub long : length values ≡ count
  pub each : (i : ℕ) → i < count → each_is i (get_or values i (pos 0))

-- these are what a relation gives for this many cells; the first of them is this one
abbrev pub AreGiven : (ℤ → ℤ → Type 0) → List ℤ → ℕ → ℕ → List ℤ → Type 0
AreGiven gives cells first count values = AreEach (λ i v. gives (get_or cells (first + i) (pos 0)) v) count values

-- all cells of a span are among this many
abbrev pub are_there : ℕ → Cells → Bool
are_there count k = nat_le k.first k.end && nat_le k.end count

-- a row of what the relation gives for the cells, and nothing else
pub record IsMapping (gives : ℤ → ℤ → Type 0) (into last : ℕ) (cells : List ℤ) (step : ℕ) (k : Cells) (o : Left Cells) : Type 0 where
  pub kept : o.kept ≡ k
  pub values : List ℤ
  pub given : AreGiven gives cells k.first (k.end - k.first) values
  pub puts : o.puts ≡ row_puts into k.first values
  pub prints : o.prints ≡ []
  pub spawns : o.spawns ≡ []
  pub ending : o.ending ≡ ends_in last step

-- such a row if all these cells exist, else the fault 16
pub record MapMay (gives : ℤ → ℤ → Type 0) (from into last : ℕ) (arrays : List (List ℕ × List ℤ)) (step : ℕ) (k : Cells)
    (o : Left Cells) : Type 0 where
  pub there : are_there (length (cells_in (slice_get arrays from))) k ≡ true
      → IsMapping gives into last (cells_in (slice_get arrays from)) step k o
  pub not_there : are_there (length (cells_in (slice_get arrays from))) k ≡ false → o.ending ≡ Fails 16

-- the sum of these, one after another
abbrev pub total : ℤ → List ℤ → ℤ
total so_far [] = so_far
total so_far (v ∷ vs) = total (so_far +ℤ v) vs

-- these can be added to a value, one after another, and each sum is within 64 signed bits
abbrev pub can_be_added : ℤ → List ℤ → Bool
can_be_added so_far [] = true
can_be_added so_far (v ∷ vs) = not (is_over Add v so_far) && can_be_added (so_far +ℤ v) vs

-- the sum of what the relation gives for the cells, added to one cell, and nothing else
pub record IsSum (gives : ℤ → ℤ → Type 0) (into cell : ℕ) (cells : List ℤ) (k : Cells) (o : Left Cells) : Type 0 where
  pub kept : o.kept ≡ k
  pub values : List ℤ
  pub given : AreGiven gives cells k.first (k.end - k.first) values
  pub within : can_be_added (pos 0) values ≡ true
  pub puts : o.puts ≡ record { array = into; index = cell; kind = Add; value = total (pos 0) values } ∷ []
  pub prints : o.prints ≡ []
  pub spawns : o.spawns ≡ []
  pub ending : o.ending ≡ Stops

-- what the relation gives for one of the cells makes a sum outside of 64 signed bits, the first on the way
pub record IsTooLarge (gives : ℤ → ℤ → Type 0) (cells : List ℤ) (k : Cells) (o : Left Cells) : Type 0 where
  pub before : ℕ
  pub values : List ℤ
  pub given : AreGiven gives cells k.first before values
  pub begin : can_be_added (pos 0) values ≡ true
  pub value : ℤ
  pub next : gives (get_or cells (k.first + before) (pos 0)) value
  pub within : k.first + before < k.end
  pub over : is_over Add value (total (pos 0) values) ≡ true
  pub ending : o.ending ≡ Fails 17

-- such a sum if all these cells exist, else the fault 16
pub record ReduceMay (gives : ℤ → ℤ → Type 0) (array into cell : ℕ) (arrays : List (List ℕ × List ℤ)) (k : Cells)
    (o : Left Cells) : Type 0 where
  pub there : are_there (length (cells_in (slice_get arrays array))) k ≡ true
      → IsSum gives into cell (cells_in (slice_get arrays array)) k o ⊎ IsTooLarge gives (cells_in (slice_get arrays array)) k o
  pub not_there : are_there (length (cells_in (slice_get arrays array))) k ≡ false → o.ending ≡ Fails 16

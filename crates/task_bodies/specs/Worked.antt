-- What bodies and kernels leave, worked out by hand (own).
use Rattle.std.specs.Prelude.{◌≡◌, ℕ, ℤ, pos, negsuc, ◌+ℤ◌, ◌-ℤ◌, ◌*ℤ◌, List, [], ◌∷◌, codes, Some, None}
use Rattle.superstep_memory.specs.declared.arrays.Put.{Put}
use Rattle.superstep_memory.specs.declared.arrays.PutKind.TheVariants.{Set, Add}
use Rattle.programs.specs.Meaning.{Synced, Stopped, Faulted}
use Rattle.task_bodies.specs.declared.body.Ending.TheVariants.{Syncs, Stops, Fails}
use Rattle.task_bodies.specs.declared.kernel.Span.{Span}
use Rattle.task_bodies.specs.declared.cells.Cells.{Cells}
use Rattle.task_bodies.specs.declared.grid.BoardRows.{BoardRows}
use Rattle.task_bodies.specs.declared.grid.Window.{Window}
use Rattle.task_bodies.specs.Bodies.{Left, MemberValue, refused, framed}
use Rattle.task_bodies.specs.Kernels.{StencilMay}
use Rattle.task_bodies.specs.Cells.{MapMay, ReduceMay}
use Rattle.task_bodies.specs.Board.{GridMay}

-- two arrays of four cells
abbrev pub arrays : List (List ℕ × List ℤ)
arrays = (codes "a", pos 10 ∷ pos 20 ∷ pos 40 ∷ pos 80 ∷ []) ∷ (codes "b", pos 0 ∷ pos 0 ∷ pos 0 ∷ pos 0 ∷ []) ∷ []

abbrev pub set_to : ℕ → ℕ → ℤ → Put
set_to array index value = record { array = array; index = index; kind = Set; value = value }

-- paths of seven and of eight numbers
abbrev pub seven : List ℕ
seven = 0 ∷ 1 ∷ 2 ∷ 3 ∷ 4 ∷ 5 ∷ 6 ∷ []

abbrev pub eight : List ℕ
eight = 0 ∷ 1 ∷ 2 ∷ 3 ∷ 4 ∷ 5 ∷ 6 ∷ 7 ∷ []

-- a task that has spawned five tasks
abbrev pub task : MemberValue ℕ
task = record { path = 2 ∷ []; begun = 5; kept = 30 }

pub record BodiesAreWorkedOut : Type 0 where
  -- a put to no cell comes before what else is wrong
  pub last_cell : refused arrays (2 ∷ []) 0 (set_to 1 3 (pos 1) ∷ []) 0 ≡ None
  pub no_cell : refused arrays eight 0 (set_to 1 4 (pos 1) ∷ []) 1 ≡ Some 3
  pub no_array : refused arrays (2 ∷ []) 0 (set_to 1 3 (pos 1) ∷ set_to 2 0 (pos 1) ∷ []) 0 ≡ Some 3
  -- tasks that are too deep
  pub deepest : refused arrays seven 0 [] 1 ≡ None
  pub too_deep : refused arrays eight 0 [] 1 ≡ Some 5
  pub nothing_deeper : refused arrays eight 65535 [] 0 ≡ None
  -- too many tasks
  pub most : refused arrays seven 65534 [] 1 ≡ None
  pub too_many : refused arrays seven 65535 [] 1 ≡ Some 6
  pub both : refused arrays eight 65535 [] 1 ≡ Some 5
  -- it goes on, and spawns two tasks
  pub goes_on : framed arrays task
      (record { kept = 31; puts = set_to 0 1 (pos 7) ∷ []; prints = pos 8 ∷ []; spawns = 40 ∷ 50 ∷ []; ending = Syncs })
      ≡ record {
        puts = set_to 0 1 (pos 7) ∷ [];
        prints = pos 8 ∷ [];
        spawns = record { path = 2 ∷ 5 ∷ []; begun = 0; kept = 40 } ∷ record { path = 2 ∷ 6 ∷ []; begun = 0; kept = 50 } ∷ [];
        after = Synced (record { path = 2 ∷ []; begun = 7; kept = 31 });
      }
  pub stops : framed arrays task (record { kept = 31; puts = []; prints = pos 8 ∷ []; spawns = []; ending = Stops })
      ≡ record { puts = []; prints = pos 8 ∷ []; spawns = []; after = Stopped }
  -- of a fault nothing is left but its number
  pub faults : framed arrays task (record { kept = 31; puts = set_to 0 4 (pos 7) ∷ []; prints = pos 8 ∷ []; spawns = []; ending = Syncs })
      ≡ record { puts = []; prints = []; spawns = []; after = Faulted 3 }
  pub fails : framed arrays task (record { kept = 31; puts = []; prints = pos 8 ∷ []; spawns = 40 ∷ []; ending = Fails 200 })
      ≡ record { puts = []; prints = []; spawns = []; after = Faulted 200 }

-- each cell's neighbour before it minus the one after it
abbrev pub minus : ℤ → ℤ → ℤ → ℤ → Type 0
minus l m r v = v ≡ l -ℤ r

-- a board of three rows
abbrev pub board : List (List ℕ × List ℤ)
board = (codes "a", []) ∷ (codes "board", pos 1 ∷ pos 2 ∷ pos 3 ∷ pos 4 ∷ pos 5 ∷ pos 6 ∷ pos 7 ∷ pos 8 ∷ pos 9 ∷ []) ∷ []

-- the nine cells of a window as two digits each, the first of them last
abbrev pub digits : Window → ℤ → Type 0
digits w v =
    v ≡ w.north_west +ℤ pos 100 *ℤ (w.north +ℤ pos 100 *ℤ (w.north_east +ℤ pos 100 *ℤ (w.west +ℤ pos 100 *ℤ (w.own +ℤ pos 100 *ℤ (w.east
    +ℤ pos 100 *ℤ (w.south_west +ℤ pos 100 *ℤ (w.south +ℤ pos 100 *ℤ w.south_east)))))))

abbrev pub twice : ℤ → ℤ → Type 0
twice x v = v ≡ pos 2 *ℤ x

-- the value itself
abbrev pub same : ℤ → ℤ → Type 0
same x v = v ≡ x

-- two cells whose sum is the largest number of 64 signed bits, and two whose sum is one more
abbrev pub large : List (List ℕ × List ℤ)
large = (codes "a", pos 9223372036854775806 ∷ pos 1 ∷ pos 2 ∷ []) ∷ []

abbrev pub larger : List (List ℕ × List ℤ)
larger = (codes "a", pos 9223372036854775807 ∷ pos 1 ∷ pos 2 ∷ []) ∷ []

abbrev pub two_cells : Cells
two_cells = record { first = 0; end = 2 }

abbrev pub sum : ℤ → Left Cells
sum total =
    record {
      kept = two_cells;
      puts = record { array = 1; index = 3; kind = Add; value = total } ∷ [];
      prints = [];
      spawns = [];
      ending = Stops;
    }

abbrev pub span : Span
span = record { before = 0; end = 2 }

abbrev pub middle : BoardRows
middle = record { first = 1; end = 2 }

abbrev pub inner : Cells
inner = record { first = 1; end = 3 }

pub record KernelsAreWorkedOut : Type 0 where
  -- the cells 1 and 2
  pub stencil : (o : Left Span) → StencilMay minus 0 5 arrays 4 span o
      → o ≡ record { kept = span; puts = set_to 0 1 (negsuc 29) ∷ set_to 0 2 (negsuc 59) ∷ []; prints = []; spawns = []; ending = Syncs }
  pub last : (o : Left Span) → StencilMay minus 0 5 arrays 5 span o → o.ending ≡ Stops
  -- the cell 3 has no neighbour after it
  pub no_neighbour : (o : Left Span) → StencilMay minus 0 5 arrays 4 (record { before = 0; end = 3 }) o → o.ending ≡ Fails 16
  -- the middle row; beyond the board it is 11
  pub row : (o : Left BoardRows) → GridMay digits 1 3 (pos 11) 5 board 4 middle o
      → o
      ≡ record {
        kept = middle;
        puts = set_to 1 3 (pos 80711050411020111) ∷ set_to 1 4 (pos 90807060504030201) ∷ set_to 1 5 (pos 110908110605110302) ∷ [];
        prints = [];
        spawns = [];
        ending = Syncs;
      }
  pub no_row : (o : Left BoardRows) → GridMay digits 1 3 (pos 11) 5 board 4 (record { first = 2; end = 4 }) o → o.ending ≡ Fails 16
  -- from the first array into the second
  pub mapping : (o : Left Cells) → MapMay twice 0 1 5 arrays 5 inner o
      → o ≡ record { kept = inner; puts = set_to 1 1 (pos 40) ∷ set_to 1 2 (pos 80) ∷ []; prints = []; spawns = []; ending = Stops }
  pub no_cell : (o : Left Cells) → MapMay twice 0 1 5 arrays 5 (record { first = 1; end = 5 }) o → o.ending ≡ Fails 16
  pub largest_sum : (o : Left Cells) → ReduceMay same 0 1 3 large two_cells o → o ≡ sum (pos 9223372036854775807)
  pub too_large : (o : Left Cells) → ReduceMay same 0 1 3 larger two_cells o → o.ending ≡ Fails 17
  pub nothing_to_add : (o : Left Cells) → ReduceMay same 0 1 3 larger (record { first = 0; end = 4 }) o → o.ending ≡ Fails 16

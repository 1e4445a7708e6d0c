-- Packed deeds, worked out by hand: which bytes are which deeds (own).
use Rattle.std.specs.Prelude.{◌≡◌, ◌⊎◌, ℕ, ℤ, pos, negsuc, List, [], ◌∷◌, ◌++◌, Ok, Err, Option, None}
use Rattle.bsp_steps.specs.declared.packed.Block.{Block}
use Rattle.bsp_steps.specs.declared.packed.Unread.{Unread}
use Rattle.bsp_steps.specs.DeedBytes.{deeds_in}
use Rattle.bsp_steps.specs.declared.state.State.{State}
use Rattle.bsp_steps.specs.Calls.{ClosesPacked}
use Rattle.bsp_steps.specs.DeedReads.{deeds_of, IsClosedPacked}
use Rattle.bsp_steps.specs.Runs.{RunValue}
use Rattle.bsp_steps.specs.Worked.{lent, put, once, limited}

-- the cell 258 of the array 1 becomes 1; 2 is taken from the cell 3 of the array 512
abbrev pub puts : List ℕ
puts =
    (1 ∷ 1 ∷ 0 ∷ 2 ∷ 1 ∷ 0 ∷ 0 ∷ 1 ∷ 0 ∷ 0 ∷ 0 ∷ 0 ∷ 0 ∷ 0 ∷ 0 ∷ [])
    ++ (2 ∷ 0 ∷ 2 ∷ 3 ∷ 0 ∷ 0 ∷ 0 ∷ 254 ∷ 255 ∷ 255 ∷ 255 ∷ 255 ∷ 255 ∷ 255 ∷ 255 ∷ [])

-- the cells 4294967294 and 4294967295 of the array 0 become 5 and 2 ^ 63 - 1
abbrev pub row : List ℕ
row =
    (3 ∷ 0 ∷ 0 ∷ 254 ∷ 255 ∷ 255 ∷ 255 ∷ 2 ∷ 0 ∷ 0 ∷ 0 ∷ [])
    ++ (5 ∷ 0 ∷ 0 ∷ 0 ∷ 0 ∷ 0 ∷ 0 ∷ 0 ∷ []) ++ (255 ∷ 255 ∷ 255 ∷ 255 ∷ 255 ∷ 255 ∷ 255 ∷ 127 ∷ [])

-- 256 and -2 ^ 63 are printed
abbrev pub prints : List ℕ
prints = (4 ∷ 0 ∷ 1 ∷ 0 ∷ 0 ∷ 0 ∷ 0 ∷ 0 ∷ 0 ∷ []) ++ (4 ∷ 0 ∷ 0 ∷ 0 ∷ 0 ∷ 0 ∷ 0 ∷ 0 ∷ 128 ∷ [])

-- a task goes on that spawned 258 tasks; one stops; one fails
abbrev pub goes_on : List ℕ
goes_on = 0 ∷ 0 ∷ 2 ∷ 1 ∷ []

abbrev pub ends : ℕ → List ℕ
ends number = 0 ∷ number ∷ 0 ∷ 0 ∷ []

abbrev pub block : List ℕ → Block
block bytes = record { bytes = lent bytes }

abbrev pub at : ℕ → ℕ → Unread
at block byte = record { block = block; byte = byte }

-- a close by these blocks of a run gives this
abbrev pub ClosesTo : RunValue → List Block → (RunValue → Unread → Unread → ℤ → Type 0) → Type 0
ClosesTo v blocks P = (w : RunValue) (before after : Unread) (s : ℤ) → IsClosedPacked v w before after blocks s → P w before after s

pub record BytesAreWorkedOut : Type 0 where
  pub nothing : deeds_in [] ≡ Ok []
  pub idle : deeds_in (ends 1 ++ ends 255) ≡ Ok (
      record { puts = []; prints = []; spawns = 0; ending = 1 } ∷ record { puts = []; prints = []; spawns = 0; ending = 255 } ∷ [])
  pub all : deeds_in (puts ++ prints ++ row ++ goes_on ++ ends 16) ≡ Ok (
      record {
        puts =
            put 1 0 258 (pos 1) ∷ put 512 1 3 (negsuc 1) ∷ put 0 0 4294967294 (pos 5) ∷ put 0 0 4294967295 (pos 9223372036854775807) ∷ [];
        prints = pos 256 ∷ negsuc 9223372036854775807 ∷ [];
        spawns = 258;
        ending = 0;
      }
      ∷ record { puts = []; prints = []; spawns = 0; ending = 16 } ∷ [])
  -- how many bytes are left where no item begins: an ending from 2 to 15, another kind, an item that goes on past the end
  pub two : deeds_in (ends 1 ++ ends 2) ≡ Err 4
  pub fifteen : deeds_in (ends 15 ++ ends 1) ≡ Err 8
  pub kind : deeds_in (ends 1 ++ 5 ∷ ends 1) ≡ Err 5
  pub cut_end : deeds_in (ends 1 ++ 0 ∷ 1 ∷ 0 ∷ []) ≡ Err 3
  pub cut_put : deeds_in (1 ∷ 1 ∷ 0 ∷ 2 ∷ 1 ∷ 0 ∷ 0 ∷ 1 ∷ 0 ∷ 0 ∷ 0 ∷ 0 ∷ 0 ∷ 0 ∷ []) ≡ Err 14
  pub cut_row : deeds_in (3 ∷ 0 ∷ 0 ∷ 1 ∷ 0 ∷ 0 ∷ 0 ∷ 2 ∷ 0 ∷ 0 ∷ 0 ∷ 5 ∷ 0 ∷ 0 ∷ 0 ∷ 0 ∷ 0 ∷ 0 ∷ 0 ∷ []) ≡ Err 19
  -- a row without values, and one past the last cell
  pub empty_row : deeds_in (3 ∷ 0 ∷ 0 ∷ 1 ∷ 0 ∷ 0 ∷ 0 ∷ 0 ∷ 0 ∷ 0 ∷ 0 ∷ ends 1) ≡ Err 15
  pub far_row : deeds_in (3 ∷ 0 ∷ 0 ∷ 255 ∷ 255 ∷ 255 ∷ 255 ∷ 2 ∷ 0 ∷ 0 ∷ 0 ∷ 5 ∷ 0 ∷ 0 ∷ 0 ∷ 0 ∷ 0 ∷ 0 ∷ 0 ∷ 5 ∷ 0 ∷ 0 ∷ 0 ∷ 0 ∷ 0 ∷ 0 ∷ 0 ∷ []) ≡ Err 27
  -- a deed that isn't ended
  pub open_puts : deeds_in (ends 1 ++ puts) ≡ Err 0
  pub open_prints : deeds_in prints ≡ Err 0
  -- blocks: no deed goes on in the next one
  pub blocks : deeds_of 0 (block (ends 1) ∷ block [] ∷ block (ends 0) ∷ []) ≡ Ok (
      record { puts = []; prints = []; spawns = 0; ending = 1 } ∷ record { puts = []; prints = []; spawns = 0; ending = 0 } ∷ [])
  pub across : deeds_of 0 (block (ends 1) ∷ block prints ∷ block (ends 0) ∷ []) ≡ Err (at 1 18)
  pub second : deeds_of 0 (block (ends 1) ∷ block (ends 1 ++ ends 9) ∷ []) ≡ Err (at 1 4)
  -- the status and the place of bytes that are none, of a run that is over, and if nothing is open
  pub unread : ClosesTo once (block (ends 1) ∷ block (ends 1 ++ ends 9) ∷ [])
      (λ w before after s. (w ≡ once) × (((s ≡ pos 15) × (after ≡ at 1 4)) ⊎ ((s ≡ pos 6) × (after ≡ before))))
  pub over : ClosesTo limited (block (ends 9) ∷ []) (λ w before after s. (s ≡ pos 12) × (w ≡ limited) × (after ≡ before))
  pub closed : (after : Option State) (before place : Unread) (s : ℤ) → ClosesPacked None after before place [] s
      → (s ≡ pos 7) × (after ≡ None) × (place ≡ before)

-- What was read of packed deeds (own).
use Rattle.std.specs.Prelude.{◌≡◌, ◌-◌, ◌≤◌, ◌⊎◌, ℕ, suc, ℤ, pos, List, [], ◌∷◌, ◌++◌, map, length, Option, Some, None, MatchOption, IsSome, Result, Ok, Err, if◌then◌else◌}
use Rattle.std.specs.Option.{option_map}
use Rattle.std.specs.Borrow.{Bor}
use Rattle.programs.specs.Steps.{IsRunning, ended}
use Rattle.bsp_steps.specs.declared.given.PutGiven.{PutGiven}
use Rattle.bsp_steps.specs.declared.given.Deed.{Deed}
use Rattle.bsp_steps.specs.declared.packed.Block.{Block}
use Rattle.bsp_steps.specs.declared.packed.DeedRead.{DeedRead}
use Rattle.bsp_steps.specs.declared.packed.Head.{Head}
use Rattle.bsp_steps.specs.declared.packed.Head.TheVariants.{Put, Row, Print, End}
use Rattle.bsp_steps.specs.declared.packed.Unread.{Unread}
use Rattle.bsp_steps.specs.Runs.{RunValue, IsClosed}
use Rattle.bsp_steps.specs.DeedBytes.{Item, Leaves, Ends, DeedValue, deeds_in, row, row_of, row_values}

module _ {A : Type 0} where
  -- something, and the bytes after it
  abbrev pub after : A × Bor (List ℕ) → A × List ℕ
  after x = (x.0, x.1.now)

-- a deed that was read, and one that was given
abbrev pub read_deed : DeedRead → DeedValue
read_deed d = record { puts = d.puts.items; prints = d.prints.items; spawns = d.spawns; ending = d.ending }

abbrev pub deed_value : Deed → DeedValue
deed_value d = record { puts = d.puts.now; prints = d.prints.now; spawns = d.spawns; ending = d.ending }

-- the item that begins so, with these bytes after it
abbrev pub item_from : Head → List ℕ → Option (Item × List ℕ)
item_from (Put p) rest = Some (Leaves (p ∷ []) [], rest)
item_from (Row array first count) rest = row_of array first (row_values first count rest)
item_from (Print v) rest = Some (Leaves [] (v ∷ []), rest)
item_from (End spawns ending) rest = Some (Ends spawns ending, rest)

-- an item begins so, or none does
abbrev pub IsHead : Option (Item × List ℕ) → Option (Head × Bor (List ℕ)) → Type 0
IsHead item found = MatchOption found (item ≡ None) (λ x. item ≡ item_from x.0 x.1.now)

-- a row was put, or its values aren't there
abbrev pub IsRow : ℕ → ℕ → List PutGiven → List PutGiven → Option (Bor (List ℕ)) → Option (List ℤ × List ℕ) → Type 0
IsRow array first old new rest None = rest ≡ None
IsRow array first old new rest (Some found) = (option_map (λ r. r.now) rest ≡ Some found.1) × (new ≡ old ++ row array first found.0)

-- the open deed became the last one, with these spawns and this ending
abbrev pub HasEnded : DeedRead → DeedRead → List DeedRead → List DeedRead → ℕ → ℕ → Type 0
HasEnded old new deeds after spawns ending =
    (new.puts.items ≡ []) × (new.prints.items ≡ [])
    × (map read_deed after
    ≡ map read_deed deeds ++ record { puts = old.puts.items; prints = old.prints.items; spawns = spawns; ending = ending } ∷ [])

-- an item was taken, or none is there
abbrev pub IsTaken : DeedRead → DeedRead → List DeedRead → List DeedRead → Option (Bor (List ℕ)) → Option (Item × List ℕ) → Type 0
IsTaken old new deeds after rest None = rest ≡ None
IsTaken old new deeds after rest (Some (Leaves ps vs, more)) =
    (option_map (λ r. r.now) rest ≡ Some more) × (new.puts.items ≡ old.puts.items ++ ps) × (new.prints.items ≡ old.prints.items ++ vs)
    × (map read_deed after ≡ map read_deed deeds)
IsTaken old new deeds after rest (Some (Ends spawns ending, more)) =
    (option_map (λ r. r.now) rest ≡ Some more) × HasEnded old new deeds after spawns ending

-- the deeds of a block were read, or at a byte of it no item begins
abbrev pub IsBlock : ℕ → List DeedValue → List DeedValue → Option ℕ → Result (List DeedValue) ℕ → Type 0
IsBlock bytes old new fault (Ok ds) = (fault ≡ None) × (new ≡ old ++ ds)
IsBlock bytes old new fault (Err left) = fault ≡ Some (bytes - left)

-- the deeds of blocks, or the block and the byte of it where no item begins or a deed isn't ended
abbrev pub after_block : List DeedValue → Result (List DeedValue) Unread → Result (List DeedValue) Unread
after_block ds (Ok es) = Ok (ds ++ es)
after_block ds (Err u) = Err u

abbrev pub by_block : ℕ → ℕ → Result (List DeedValue) ℕ → Result (List DeedValue) Unread → Result (List DeedValue) Unread
by_block block bytes (Ok ds) later = after_block ds later
by_block block bytes (Err left) later = Err (record { block = block; byte = bytes - left })

abbrev pub deeds_of : ℕ → List Block → Result (List DeedValue) Unread
deeds_of block [] = Ok []
deeds_of block (b ∷ bs) = by_block block (length b.bytes.now) (deeds_in b.bytes.now) (deeds_of (suc block) bs)

-- a close by deeds that were read, or memory ran out (6) and nothing was changed
pub record ClosedBy (v w : RunValue) (read : List DeedValue) (status : ℤ) : Type 0 where
  pub deeds : List Deed
  pub are : map deed_value deeds ≡ read
  pub closed : IsClosed v w deeds status

abbrev pub ClosesBy : RunValue → RunValue → List DeedValue → ℤ → Type 0
ClosesBy v w read status = ((status ≡ pos 6) × (w ≡ v)) ⊎ ClosedBy v w read status

-- bytes that are no packed deeds (15): the place of the first item that is none was given, and nothing was changed, or memory ran out (6)
abbrev pub ClosesRead : RunValue → RunValue → Unread → Unread → ℤ → Result (List DeedValue) Unread → Type 0
ClosesRead v w before after status (Ok read) = (after ≡ before) × ClosesBy v w read status
ClosesRead v w before after status (Err place) =
    (w ≡ v) × (((status ≡ pos 15) × (after ≡ place)) ⊎ ((status ≡ pos 6) × (after ≡ before)))

-- the run was over (12), or it is closed by what the blocks say
pub record IsClosedPacked (v w : RunValue) (before after : Unread) (blocks : List Block) (status : ℤ) : Type 0 where
  pub over : IsSome (ended v) → (status ≡ pos 12) × (w ≡ v) × (after ≡ before)
  pub read : IsRunning v → ClosesRead v w before after status (deeds_of 0 blocks)

-- Deeds as bytes (own). Numbers have their low bytes first; values are in two's complement.
use Rattle.std.specs.Prelude.{ℕ, zero, suc, ◌+◌, ◌*◌, ℤ, Bool, true, false, ◌&&◌, ◌||◌, nat_eq, nat_le, nat_lt, if◌then◌else◌, List, [], ◌∷◌, ◌++◌, length, Option, Some, None, Result, Ok, Err}
use Rattle.std.specs.Option.{option_map}
use Rattle.std.specs.Int.{w64, cast_signed}
use Rattle.bsp_steps.specs.declared.given.PutGiven.{PutGiven}

module _ {A B : Type 0} where
  -- something at the front of bytes, and then something else after it
  abbrev pub and_then : Option (A × List ℕ) → (A → List ℕ → Option (B × List ℕ)) → Option (B × List ℕ)
  and_then None f = None
  and_then (Some x) f = f x.0 x.1

-- a number at the front of bytes, and the bytes after it: of one, two, four and eight bytes
abbrev pub one : List ℕ → Option (ℕ × List ℕ)
one [] = None
one (a ∷ rest) = Some (a, rest)

-- two numbers, the low one first
abbrev pub both : ℕ → Option (ℕ × List ℕ) → (List ℕ → Option (ℕ × List ℕ)) → Option (ℕ × List ℕ)
both scale low next = and_then low (λ a rest. and_then (next rest) (λ b more. Some (a + scale * b, more)))

abbrev pub two : List ℕ → Option (ℕ × List ℕ)
two bytes = both 256 (one bytes) one

abbrev pub four : List ℕ → Option (ℕ × List ℕ)
four bytes = both 65536 (two bytes) two

abbrev pub eight : List ℕ → Option (ℕ × List ℕ)
eight bytes = both 4294967296 (four bytes) four

-- a value of 64 bits, and so many of them
abbrev pub value : List ℕ → Option (ℤ × List ℕ)
value bytes = and_then (eight bytes) (λ n rest. Some (cast_signed w64 n, rest))

abbrev pub values : ℕ → List ℕ → Option (List ℤ × List ℕ)
values zero bytes = Some ([], bytes)
values (suc n) bytes = and_then (value bytes) (λ v rest. and_then (values n rest) (λ vs more. Some (v ∷ vs, more)))

abbrev pub set_to : ℕ → ℕ → ℤ → PutGiven
set_to array index value = record { array = array; adds = 0; index = index; value = value }

-- puts to cells side by side
abbrev pub row : ℕ → ℕ → List ℤ → List PutGiven
row array first [] = []
row array first (v ∷ vs) = set_to array first v ∷ row array (suc first) vs

-- what an item says: what a task put and printed, or how many tasks it spawned and how it ends the superstep, which ends its deed
pub data Item : Type 0 where
  Leaves : List PutGiven → List ℤ → Item
  Ends : ℕ → ℕ → Item

-- a put: its array of two bytes, its cell of four, its value
abbrev pub put_item : ℕ → List ℕ → Option (Item × List ℕ)
put_item adds bytes =
    and_then (two bytes) (λ array rest. and_then (four rest) (λ index more. and_then (value more) (λ v last.
    Some (Leaves (record { array = array; adds = adds; index = index; value = v } ∷ []) [], last))))

-- a row has a value, and no cell past the last number of four bytes
abbrev pub is_row : ℕ → ℕ → Bool
is_row first count = nat_lt 0 count && nat_le (first + count) 4294967296

abbrev pub row_values : ℕ → ℕ → List ℕ → Option (List ℤ × List ℕ)
row_values first count bytes = if is_row first count then values count bytes else None

abbrev pub row_of : ℕ → ℕ → Option (List ℤ × List ℕ) → Option (Item × List ℕ)
row_of array first found = and_then found (λ vs rest. Some (Leaves (row array first vs) [], rest))

-- a row: its array of two bytes, its first cell of four, the number of its values of four, its values
abbrev pub row_item : List ℕ → Option (Item × List ℕ)
row_item bytes =
    and_then (two bytes) (λ array rest. and_then (four rest) (λ first more. and_then (four more) (λ count last.
    row_of array first (row_values first count last))))

-- a printed value
abbrev pub print_item : List ℕ → Option (Item × List ℕ)
print_item bytes = and_then (value bytes) (λ v rest. Some (Leaves [] (v ∷ []), rest))

-- the end: how the task ends, 0, 1, or from 16 on, and how many tasks it spawned, of two bytes
abbrev pub end_item : List ℕ → Option (Item × List ℕ)
end_item bytes =
    and_then (one bytes) (λ ending rest. and_then (two rest) (λ spawns more.
    if nat_le ending 1 || nat_le 16 ending then Some (Ends spawns ending, more) else None))

abbrev pub item_by : ℕ → List ℕ → Option (Item × List ℕ)
item_by kind bytes =
    if nat_eq kind 0 then end_item bytes
    else if nat_eq kind 1 then put_item 0 bytes
    else if nat_eq kind 2 then put_item 1 bytes
    else if nat_eq kind 3 then row_item bytes
    else if nat_eq kind 4 then print_item bytes
    else None

-- the item at the front of bytes, by its first byte: an end (0), a put (1), an addition (2), a row (3), a print (4)
abbrev pub item_of : List ℕ → Option (Item × List ℕ)
item_of [] = None
item_of (kind ∷ bytes) = item_by kind bytes

-- a deed that was read
pub record DeedValue : Type 0 where
  pub puts : List PutGiven
  pub prints : List ℤ
  pub spawns : ℕ
  pub ending : ℕ

-- no bytes are left, and no deed is open
abbrev pub is_done : List ℕ → List PutGiven → List ℤ → Bool
is_done bytes puts prints = nat_eq (length bytes) 0 && nat_eq (length puts) 0 && nat_eq (length prints) 0

-- one deed more in front
abbrev pub with_deed : DeedValue → Result (List DeedValue) ℕ → Result (List DeedValue) ℕ
with_deed d (Ok ds) = Ok (d ∷ ds)
with_deed d (Err left) = Err left

-- an item is taken, and then reading goes on
abbrev pub taken : (List PutGiven → List ℤ → List ℕ → Result (List DeedValue) ℕ) → List PutGiven → List ℤ → List ℕ
    → Option (Item × List ℕ) → Result (List DeedValue) ℕ
taken go puts prints bytes None = Err (length bytes)
taken go puts prints bytes (Some (Leaves ps vs, rest)) = go (puts ++ ps) (prints ++ vs) rest
taken go puts prints bytes (Some (Ends spawns ending, rest)) =
    with_deed (record { puts = puts; prints = prints; spawns = spawns; ending = ending }) (go [] [] rest)

-- The deeds of these bytes, of the first of which this was read before; or how many bytes are left where no item begins, or a deed
-- isn't ended. So many items are read at most.
abbrev pub deeds_from : ℕ → List PutGiven → List ℤ → List ℕ → Result (List DeedValue) ℕ
deeds_from zero puts prints bytes = Err (length bytes)
deeds_from (suc n) puts prints bytes =
    if is_done bytes puts prints then Ok [] else taken (deeds_from n) puts prints bytes (item_of bytes)

-- the deeds of a block: no more items than bytes
abbrev pub deeds_in : List ℕ → Result (List DeedValue) ℕ
deeds_in bytes = deeds_from (length bytes + 1) [] [] bytes

-- An array as a strip of cells (own): a cell is one unit wide.
use Rattle.std.specs.Prelude.{ℕ, Bool, ◌&&◌, ◌||◌, Option, Some, None, ◌+◌, ◌-◌, ◌*◌, ◌/◌, min, max, ◌==◌, nat_le, nat_lt, if◌then◌else◌, ℤ, pos, ◌-ℤ◌, unsigned_abs, List, [], ◌∷◌, ◌++◌, length, codes, decimal}
use Rattle.std.specs.List.{fold}
use Rattle.std.specs.Int.{int_min, int_max}
use Rattle.std.specs.Fmt.{signed_decimal}
use Rattle.job_view.specs.declared.cells.Extent.{Extent}

-- a byte of a name as a text of XML may hold it; one that none may hold is a space
abbrev pub escaped : ℕ → List ℕ
escaped b =
    if b == 38 then codes "&amp;" else if b == 60 then codes "&lt;" else if b == 62 then codes "&gt;" else if nat_lt b 32 then codes " "
    else b ∷ []

-- the bytes of U+FFFE and of U+FFFF, which no text of XML may hold
abbrev pub is_none : ℕ → ℕ → ℕ → Bool
is_none a b c = a == 239 && (b == 191 && (c == 190 || c == 191))

-- what follows them, if a name begins with them
abbrev pub after_none : List ℕ → Option (List ℕ)
after_none (a ∷ b ∷ c ∷ rest) = if is_none a b c then Some rest else None
after_none name = None

-- a name as a text of XML: a space for each of them, and each other byte as it may be there
abbrev pub escape : List ℕ → List ℕ
escape [] = []
escape (a ∷ []) = escaped a
escape (a ∷ b ∷ []) = escaped a ++ escaped b
escape (a ∷ b ∷ c ∷ rest) = if is_none a b c then 32 ∷ escape rest else escaped a ++ escape (b ∷ c ∷ rest)

abbrev pub least : List ℤ → ℤ
least [] = pos 0
least (v ∷ vs) = fold int_min v vs

abbrev pub most : List ℤ → ℤ
most [] = pos 0
most (v ∷ vs) = fold int_max v vs

-- both
abbrev pub extent_of : List ℤ → Extent
extent_of values = record { low = least values; high = most values }

-- how far up a value is between the least and the greatest, in ninths
abbrev pub shade : Extent → ℤ → ℕ
shade e v =
    if unsigned_abs (e.high -ℤ e.low) == 0 then 0 else unsigned_abs (v -ℤ e.low) * 9 / unsigned_abs (e.high -ℤ e.low)

-- a cell, and how dark it is
abbrev pub cell : ℕ → ℕ → List ℕ
cell at dark =
    codes "<rect x=\"" ++ decimal at ++ codes "\" width=\"1\" height=\"1\" fill-opacity=\"." ++ decimal dark ++ codes "\"/>\n"

-- the last cells of an array of `count`
abbrev pub cells_from : Extent → ℕ → List ℤ → List ℕ
cells_from e count [] = []
cells_from e count (v ∷ vs) = cell (count - length (v ∷ vs)) (shade e v) ++ cells_from e count vs

-- how many signs the longest of these values has
abbrev pub longest : List ℤ → ℕ
longest values = fold (λ n v. max n (length (signed_decimal v))) 1 values

-- a value in the middle of its cell, of `count`
abbrev pub value_at : ℕ → ℕ → ℤ → List ℕ
value_at count at v =
    codes "<text class=\"v\" transform=\"translate(" ++ decimal at ++ codes ".5,.68) scale(" ++ decimal count
    ++ codes ",1) scale(.00125,.04)\">"
    ++ signed_decimal v ++ codes "</text>\n"

-- the last values, out of `count`
abbrev pub values_from : ℕ → List ℤ → List ℕ
values_from count [] = []
values_from count (v ∷ vs) = value_at count (count - length (v ∷ vs)) v ++ values_from count vs

-- the values of a few cells, in letters that have room
abbrev pub few_values : List ℤ → List ℕ
few_values values =
    codes "<g font-size=\"" ++ decimal (min (1300 / max (length values) 1 / longest values) 12) ++ codes "\">\n"
    ++ values_from (length values) values ++ codes "</g>\n"

-- the values of the cells, if there are 64 or fewer
abbrev pub shown_values : List ℤ → List ℕ
shown_values values = if nat_le (length values) 64 then few_values values else []

-- what is written over the cells of an array, `top` below the top: its name, how many cells it has, the least and the
-- greatest
abbrev pub caption : ℕ → List ℕ → ℕ → Extent → List ℕ
caption top name count e =
    codes "<g transform=\"translate(0," ++ decimal top ++ codes ")\"><text class=\"k\" x=\"80\" y=\"12\">" ++ escape name
    ++ codes ": cells " ++ decimal count ++ codes ", least " ++ signed_decimal e.low ++ codes ", greatest " ++ signed_decimal e.high

-- and the array
abbrev pub strip : ℕ → List ℕ × List ℤ → List ℕ
strip top a =
    caption top a.0 (length a.1) (extent_of a.1)
    ++ codes "</text>\n<svg x=\"80\" y=\"18\" width=\"800\" height=\"25\" viewBox=\"0 0 " ++ decimal (length a.1)
    ++ codes " 1\" preserveAspectRatio=\"none\" overflow=\"visible\"><g class=\"c\">\n" ++ cells_from (extent_of a.1) (length a.1) a.1
    ++ codes "</g>\n"
    ++ shown_values a.1 ++ codes "</svg><path class=\"o\" d=\"M80 18h800v25h-800z\"/></g>\n"

-- arrays, with `place` others before the first
abbrev pub strips_from : ℕ → List (List ℕ × List ℤ) → List ℕ
strips_from place [] = []
strips_from place (a ∷ rest) = strip (310 + 50 * place) a ++ strips_from (place + 1) rest

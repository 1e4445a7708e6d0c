-- The texts of the options (own): `NAME=N`, several with commas between them, and names with commas between them.
use Rattle.std.specs.Prelude.{ℕ, Bool, true, false, ◌||◌, ◌&&◌, ◌==◌, nat_le, if◌then◌else◌, ℤ, pos, negsuc, List, [], ◌∷◌, map, Option, Some, None, is_some}
use Rattle.std.specs.Str.{bytes_eq}
use Rattle.text_lines.specs.Number.{number_of}
use Rattle.text_lines.specs.Text.{words_of}

-- commas and equals signs separate words as spaces do
abbrev pub spaced : ℕ → ℕ
spaced c = if c == 44 || c == 61 then 32 else c

abbrev pub words_in : List ℕ → List (List ℕ)
words_in text = words_of (map spaced text)

-- a width is a number from 1 to 4096
abbrev pub width_by : Option ℤ → Option ℕ
width_by None = None
width_by (Some (pos n)) = if nat_le 1 n && nat_le n 4096 then Some n else None
width_by (Some (negsuc n)) = None

-- the width of an array: the word after its name, if names and widths take turns
abbrev pub width_in : List ℕ → List (List ℕ) → Option ℕ
width_in name [] = None
width_in name (n ∷ []) = None
width_in name (n ∷ w ∷ ws) = if bytes_eq n name then width_by (number_of w) else width_in name ws

-- whether these words give a width to the array of a name
abbrev pub is_given : List ℕ → List (List ℕ) → Bool
is_given name [] = false
is_given name (n ∷ []) = false
is_given name (n ∷ w ∷ ws) = if bytes_eq n name then true else is_given name ws

-- whether names and widths take turns, each width is one, and each name comes once
abbrev pub are_widths : List (List ℕ) → Bool
are_widths [] = true
are_widths (n ∷ []) = false
are_widths (n ∷ w ∷ ws) = if is_given n ws then false else if is_some (width_by (number_of w)) then are_widths ws else false

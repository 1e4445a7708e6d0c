-- What names are in a picture (own): texts of XML.
use Rattle.std.specs.Prelude.{◌≡◌, ℕ, ◌==◌, Bool, true, false, ◌&&◌, ◌||◌, not, nat_le, if◌then◌else◌, List, [], ◌∷◌, take, codes}
use Rattle.std.specs.Str.{bytes_eq}
use Rattle.job_view.specs.Cells.{escape}

-- what comes after an ampersand
abbrev pub begins_entity : List ℕ → Bool
begins_entity cs = bytes_eq (take 4 cs) (codes "amp;") || (bytes_eq (take 3 cs) (codes "lt;") || bytes_eq (take 3 cs) (codes "gt;"))

-- no byte below the space, no `<`, and no other ampersand
abbrev pub is_text : List ℕ → Bool
is_text [] = true
is_text (c ∷ cs) = (if c == 38 then begins_entity cs else nat_le 32 c && not (c == 60)) && is_text cs

-- the last byte of U+FFFE or of U+FFFF
abbrev pub is_third : List ℕ → Bool
is_third [] = false
is_third (c ∷ cs) = nat_le 190 c && nat_le c 191

-- the last two
abbrev pub is_second : List ℕ → Bool
is_second [] = false
is_second (b ∷ cs) = b == 191 && is_third cs

-- U+FFFE or U+FFFF, which no text of XML may hold
abbrev pub holds_none : List ℕ → Bool
holds_none [] = false
holds_none (a ∷ cs) = (a == 239 && is_second cs) || holds_none cs

-- Each name or title is a text in the picture.
abbrev pub NamesAreText : Type 0
NamesAreText = (name : List ℕ) → (is_text (escape name) ≡ true) × (holds_none (escape name) ≡ false)

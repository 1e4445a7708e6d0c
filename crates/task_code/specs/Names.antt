-- Names (own).
use Rattle.std.specs.Prelude.{ℕ, Bool, true, false, not, ◌&&◌, ◌||◌, nat_le, ◌==◌, List, [], ◌∷◌, length, codes}
use Rattle.std.specs.List.{list_all}
use Rattle.std.specs.Str.{bytes_eq}

abbrev pub is_lower : ℕ → Bool
is_lower c = nat_le 97 c && nat_le c 122

abbrev pub is_digit : ℕ → Bool
is_digit c = nat_le 48 c && nat_le c 57

abbrev pub is_in_name : ℕ → Bool
is_in_name c = is_lower c || is_digit c || (c == 95)

abbrev pub begins_lower : List ℕ → Bool
begins_lower [] = false
begins_lower (c ∷ cs) = is_lower c

-- a lower-case letter, and up to 15 lower-case letters, digits and underscores
abbrev pub is_name : List ℕ → Bool
is_name w = begins_lower w && nat_le (length w) 16 && list_all is_in_name w

-- a word of the language, and so no name
unfoldable pub is_reserved : List ℕ → Bool
is_reserved w =
    bytes_eq w (codes "arg") || bytes_eq w (codes "step") || bytes_eq w (codes "let") || bytes_eq w (codes "put")
    || bytes_eq w (codes "add") || bytes_eq w (codes "print") || bytes_eq w (codes "spawn") || bytes_eq w (codes "sync")
    || bytes_eq w (codes "stop") || bytes_eq w (codes "if") || bytes_eq w (codes "else") || bytes_eq w (codes "while")
    || bytes_eq w (codes "end") || bytes_eq w (codes "array") || bytes_eq w (codes "body") || bytes_eq w (codes "start")
    || bytes_eq w (codes "bsp")

-- what an array, a body or a local may be called
abbrev pub is_free : List ℕ → Bool
is_free w = is_name w && not (is_reserved w)

abbrev pub is_among : List (List ℕ) → List ℕ → Bool
is_among [] w = false
is_among (n ∷ ns) w = bytes_eq n w || is_among ns w

-- names that may be used, each once
abbrev pub are_names : List (List ℕ) → Bool
are_names [] = true
are_names (n ∷ ns) = is_free n && not (is_among ns n) && are_names ns

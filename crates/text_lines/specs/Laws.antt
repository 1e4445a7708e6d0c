-- What lines, words and numbers mean, read backwards.
use Rattle.std.specs.Prelude.{◌≡◌, ◌≢◌, ◌⊎◌, ◌==◌, ℕ, Bool, true, false, not, List, [], ◌∷◌, ◌++◌, ℤ, Some, FitsSigned}
use Rattle.std.specs.List.{list_all}
use Rattle.std.specs.Fmt.{signed_decimal}
use Rattle.std.specs.Int.{w64}
use Rattle.text_lines.specs.Text.{lines_of, words_of}
use Rattle.text_lines.specs.Number.{number_of}

-- a line holds no LF, and a word no space but at least one byte
abbrev pub is_line : List ℕ → Bool
is_line line = list_all (λ c. not (c == 10)) line

abbrev pub is_word : List ℕ → Bool
is_word [] = false
is_word (c ∷ cs) = list_all (λ d. not (d == 32)) (c ∷ cs)

-- lines, each followed by an LF
abbrev pub joined : List (List ℕ) → List ℕ
joined [] = []
joined (l ∷ ls) = l ++ 10 ∷ joined ls

-- words, each followed by a space
abbrev pub spaced : List (List ℕ) → List ℕ
spaced [] = []
spaced (w ∷ ws) = w ++ 32 ∷ spaced ws

-- Lines are the lines of what they join to, and a last one may lack its LF.
abbrev pub JoinedLinesAreRead : Type 0
JoinedLinesAreRead =
    (lines : List (List ℕ)) → list_all is_line lines ≡ true
    → (lines_of (joined lines) ≡ lines)
    × ((last : List ℕ) → is_line last ≡ true → last ≢ [] → lines_of (joined lines ++ last) ≡ lines ++ last ∷ [])

-- The lines of a text hold no LF, and joined they are the text, or the text and the LF that its last line lacks.
abbrev pub LinesGiveBackTheText : Type 0
LinesGiveBackTheText =
    (text : List ℕ)
    → (list_all is_line (lines_of text) ≡ true) × ((joined (lines_of text) ≡ text) ⊎ (joined (lines_of text) ≡ text ++ 10 ∷ []))

-- Words are the words of what they join to.
abbrev pub SpacedWordsAreRead : Type 0
SpacedWordsAreRead =
    (words : List (List ℕ)) → list_all is_word words ≡ true
    → (words_of (spaced words) ≡ words)
    × ((last : List ℕ) → is_word last ≡ true → words_of (spaced words ++ last) ≡ words ++ last ∷ [])

-- The words of a line are words, and spaces in front of a line change none of them.
abbrev pub WordsOfALine : Type 0
WordsOfALine = (line : List ℕ) → (list_all is_word (words_of line) ≡ true) × (words_of (32 ∷ line) ≡ words_of line)

-- The text of a number of 64 signed bits is read as that number, and nothing else is.
abbrev pub NumbersAreRead : Type 0
NumbersAreRead =
    ((n : ℤ) → FitsSigned w64 n → number_of (signed_decimal n) ≡ Some n)
    × ((word : List ℕ) (n : ℤ) → number_of word ≡ Some n → (word ≡ signed_decimal n) × FitsSigned w64 n)

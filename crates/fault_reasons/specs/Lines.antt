-- The lines of a body in the text of its job (own).
use Rattle.std.specs.Prelude.{ℕ, zero, suc, ◌+◌, Bool, false, if◌then◌else◌, List, [], ◌∷◌, ◌++◌, codes, Option, slice_get}
use Rattle.std.specs.Str.{bytes_eq}
use Rattle.text_lines.specs.Text.{is_skipped, lines_of, words_of}
use Rattle.job_reader.specs.Words.{Words}

-- a line that isn't skipped: its number, and its words
pub record Numbered : Type 0 where
  pub number : ℕ
  pub words : Words

-- the lines that aren't skipped, if the first of all has this number
abbrev pub kept_from : ℕ → List (List ℕ) → List Numbered
kept_from number [] = []
kept_from number (l ∷ ls) =
    if is_skipped (words_of l) then kept_from (number + 1) ls
    else record { number = number; words = words_of l } ∷ kept_from (number + 1) ls

abbrev pub begins_body : Words → Bool
begins_body [] = false
begins_body (w ∷ ws) = bytes_eq w (codes "body")

-- the lines from the first of the body of this number on; bodies are numbered from 0
abbrev pub from_body : ℕ → List Numbered → List Numbered
from_body body [] = []
from_body zero (l ∷ ls) = if begins_body l.words then l ∷ ls else from_body zero ls
from_body (suc body) (l ∷ ls) = if begins_body l.words then from_body body ls else from_body (suc body) ls

-- the line of this body that comes so many lines after its first one, if there is one
abbrev pub line_in : List ℕ → ℕ → ℕ → Option Numbered
line_in text body count = slice_get (from_body body (kept_from 1 (lines_of text))) count

-- words, each with a space in front
abbrev pub spaced : Words → List ℕ
spaced [] = []
spaced (w ∷ ws) = 32 ∷ w ++ spaced ws

-- words with a space between them
abbrev pub joined : Words → List ℕ
joined [] = []
joined (w ∷ ws) = w ++ spaced ws

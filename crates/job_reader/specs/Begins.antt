-- What the reader checks of a text before it allocates.
use Rattle.std.specs.Prelude.{◌≡◌, ◌≤◌, ℕ, Bool, true, false, if◌then◌else◌, List, [], ◌∷◌, length, None, is_some}
use Rattle.text_lines.specs.Limits.{most_bytes}
use Rattle.text_lines.specs.Text.{lines_of, words_of, is_skipped, bad_byte_line}
use Rattle.job_reader.specs.Reading.{format_of}

-- the first line that isn't skipped is the header
abbrev pub has_header : List (List ℕ) → Bool
has_header [] = false
has_header (l ∷ ls) = if is_skipped (words_of l) then has_header ls else is_some (format_of (words_of l))

-- a text that isn't too long, whose bytes are allowed, and that begins with the header
pub record BeginsWell (text : List ℕ) : Type 0 where
  pub short : length text ≤ most_bytes
  pub clean : bad_byte_line 1 text ≡ None
  pub header : has_header (lines_of text) ≡ true

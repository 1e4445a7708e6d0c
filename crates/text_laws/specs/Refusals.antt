-- That a refusal of a line holds whatever follows the line, and that the lines above it may go on to a job.
use Rattle.std.specs.Prelude.{◌≡◌, ◌≢◌, ◌⊎◌, ◌≤◌, ℕ, ◌-◌, false, List, [], ◌++◌, length, replicate, codes, take, slice_get, unwrap_or, if◌then◌else◌, ◌||◌, ◌∷◌, Option, None, Some, Err}
use Rattle.std.specs.List.{filter_map}
use Rattle.std.specs.Str.{bytes_eq}
use Rattle.text_lines.specs.declared.refusal.Code.TheVariants.{BadHeader, UnknownName}
use Rattle.text_lines.specs.declared.refusal.Refusal.{Refusal}
use Rattle.text_lines.specs.Limits.{most_bytes}
use Rattle.text_lines.specs.Text.{lines_of, words_of, bad_byte_line}
use Rattle.text_lines.specs.Laws.{joined}
use Rattle.task_code.specs.Names.{is_among}
use Rattle.job_reader.specs.Words.{Word, Words}
use Rattle.job_reader.specs.Trees.{JobTree}
use Rattle.job_reader.specs.Reading.{declared_by, declared, is_missing, job_in}
use Rattle.text_laws.specs.Laws.{IsTextOfJob, IsAJobs}

-- the words of the line of this number
abbrev pub words_at : List (List ℕ) → ℕ → Words
words_at lines n = words_of (unwrap_or (slice_get lines (n - 1)) [])

-- A text is refused of one of its lines: not for its length, nor at its end, nor for a body that may still follow.
pub record IsRefusedOfALine (text : List ℕ) (r : Refusal) : Type 0 where
  pub refused : job_in text ≡ Err r
  pub short : length text ≤ most_bytes
  pub within : r.line ≤ length (lines_of text)
  pub named : r.code ≡ UnknownName → is_missing (declared (lines_of text)) (words_at (lines_of text) r.line) ≡ false

-- two texts have the same first lines
abbrev pub BeginAlike : ℕ → List ℕ → List ℕ → Type 0
BeginAlike n text other = take n (lines_of text) ≡ take n (lines_of other)

-- If a text is refused at a line, no text that has the same lines up to it is a job's.
abbrev pub RefusalsHoldForAllThatFollows : Type 0
RefusalsHoldForAllThatFollows =
    (text other : List ℕ) (r : Refusal) → IsRefusedOfALine text r → BeginAlike r.line text other → (j : JobTree) → IsTextOfJob j other → ⊥

-- Texts that have the same lines up to it, that are short and whose bytes are allowed, are refused of it alike.
abbrev pub PlainTextsAreRefusedAlike : Type 0
PlainTextsAreRefusedAlike =
    (text other : List ℕ) (r : Refusal) → IsRefusedOfALine text r → BeginAlike r.line text other → length other ≤ most_bytes
    → bad_byte_line 1 other ≡ None
    → job_in other ≡ Err r

-- If the bytes of the text are allowed, no text that has the lines above that line is refused at one of them.
abbrev pub LinesAboveAreRead : Type 0
LinesAboveAreRead =
    (text other : List ℕ) (r s : Refusal) → IsRefusedOfALine text r → bad_byte_line 1 text ≡ None → BeginAlike (r.line - 1) text other
    → IsRefusedOfALine other s
    → r.line ≤ s.line

-- the body that a line names, if it is a `spawn` or a start line
abbrev pub named_by : Words → Option Word
named_by (k ∷ b ∷ ws) = if bytes_eq k (codes "spawn") || bytes_eq k (codes "start") then Some b else None
named_by _ = None

-- the bodies that lines declare, and those that they name
abbrev pub declared_in : List (List ℕ) → List Word
declared_in lines = filter_map (λ l. declared_by (words_of l)) lines

abbrev pub named_in : List (List ℕ) → List Word
named_in lines = filter_map (λ l. named_by (words_of l)) lines

-- the names that aren't among others, each once
abbrev pub lacking : List Word → List Word → List Word
lacking others [] = []
lacking others (w ∷ ws) = if is_among others w then lacking others ws else w ∷ lacking (others ++ w ∷ []) ws

abbrev pub missing_in : List (List ℕ) → List Word
missing_in lines = lacking (declared_in lines) (named_in lines)

-- bodies without statements
abbrev pub empty_bodies : List Word → List (List ℕ)
empty_bodies [] = []
empty_bodies (n ∷ ns) = (codes "body " ++ n) ∷ codes "end" ∷ empty_bodies ns

-- the text of these lines, of this many ends, and of a body for each missing name
abbrev pub completed : List (List ℕ) → ℕ → List ℕ
completed lines n = joined (lines ++ (replicate n (codes "end") ++ empty_bodies (missing_in lines)))

-- the lines above a line
abbrev pub above : List ℕ → ℕ → List (List ℕ)
above text n = take (n - 1) (lines_of text)

-- Lines may be the beginning of a job: with the ends of what is open, at most 17, and empty bodies for the missing
-- names they are a job's, if a text has room for all.
abbrev pub IsABeginning : List (List ℕ) → Type 0
IsABeginning lines =
    (n : ℕ) × (n ≤ 17)
    × (length (declared_in lines ++ missing_in lines) ≤ 64 → length (completed lines n) ≤ most_bytes → IsAJobs (completed lines n))

-- The lines above that line, unless it should have been the header, may go on to a job.
abbrev pub LinesAboveGoOn : Type 0
LinesAboveGoOn =
    (text : List ℕ) (r : Refusal) → IsRefusedOfALine text r → bad_byte_line 1 text ≡ None → r.code ≢ BadHeader
    → IsABeginning (above text r.line)

-- No text with the same lines up to the refused one is a job's, and the lines above it may go on to one.
pub record IsOfItsLine (text : List ℕ) (r : Refusal) : Type 0 where
  pub within : r.line ≤ length (lines_of text)
  pub holds : (other : List ℕ) (j : JobTree) → BeginAlike r.line text other → IsTextOfJob j other → ⊥
  pub above : IsABeginning (above text r.line)

-- Each refusal of a short text of allowed bytes, unless it is for a missing header, is of its line, or the whole text
-- may be the beginning of a job.
abbrev pub RefusalsAreOfALineOrTextsGoOn : Type 0
RefusalsAreOfALineOrTextsGoOn =
    (text : List ℕ) (r : Refusal) → job_in text ≡ Err r → length text ≤ most_bytes → bad_byte_line 1 text ≡ None → r.code ≢ BadHeader
    → IsOfItsLine text r ⊎ IsABeginning (lines_of text)

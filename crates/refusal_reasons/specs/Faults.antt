-- The faulty lines of the text of a job (own): its first refusal, and then those of the text in which that line is left out.
use Rattle.std.specs.Prelude.{◌==◌, ℕ, zero, suc, ◌-◌, Bool, true, false, ◌||◌, if◌then◌else◌, List, [], ◌∷◌, codes, Option, Some, None, Result, Ok, Err}
use Rattle.std.specs.Str.{bytes_eq}
use Rattle.text_lines.specs.declared.refusal.Code.{Code}
use Rattle.text_lines.specs.declared.refusal.Code.TheVariants.{TooLong, BadHeader, BadName, BadNumber, BadLine, UnknownName, Unclosed, Reserved}
use Rattle.text_lines.specs.declared.refusal.Refusal.{Refusal}
use Rattle.text_lines.specs.Laws.{joined}
use Rattle.text_lines.specs.Text.{lines_of, words_of}
use Rattle.job_reader.specs.Words.{Words}
use Rattle.refusal_reasons.specs.Lines.{line_at}
use Rattle.job_reader.specs.Reading.{job_in}
use Rattle.job_reader.specs.Trees.{JobTree}

-- another line in the place of the one of this number, from 1
abbrev pub replaced : ℕ → List ℕ → List (List ℕ) → List (List ℕ)
replaced n other [] = []
replaced n other (l ∷ ls) = (if n == 1 then other else l) ∷ replaced (n - 1) other ls

-- a line that opens or closes a block still does, without the rest of its words
abbrev pub block_left : Words → List ℕ
block_left [] = []
block_left (k ∷ ws) =
    if bytes_eq k (codes "if") || bytes_eq k (codes "while") then codes "if 0"
    else if bytes_eq k (codes "end") then codes "end" else []

-- What a faulty line is read as when the lines after it are looked at: if only its words are wrong, what it does to
-- blocks; else nothing.
abbrev pub stand_in : Code → Words → List ℕ
stand_in BadLine ws = block_left ws
stand_in Reserved ws = block_left ws
stand_in BadName ws = block_left ws
stand_in BadNumber ws = block_left ws
stand_in UnknownName ws = block_left ws
stand_in _ ws = []

abbrev pub opens_body : Words → Bool
opens_body [] = false
opens_body (k ∷ ws) = bytes_eq k (codes "body")

-- whether no line after this fault is read in its place: it is a fault of the whole text, or of a line that was to open a body
abbrev pub ends_list : Code → Words → Bool
ends_list TooLong ws = true
ends_list BadHeader ws = true
ends_list Unclosed ws = true
ends_list _ ws = opens_body ws

abbrev pub repaired_by : List ℕ → Refusal → Words → Option (List ℕ)
repaired_by text r ws = if ends_list r.code ws then None else Some (joined (replaced r.line (stand_in r.code ws) (lines_of text)))

-- the text with a replacement for the refused line
abbrev pub repaired : List ℕ → Refusal → Option (List ℕ)
repaired text r = repaired_by text r (words_of (line_at r.line (lines_of text)))

abbrev pub or_none : (List ℕ → List Refusal) → Option (List ℕ) → List Refusal
or_none more None = []
or_none more (Some text) = more text

abbrev pub listed : (List ℕ → List Refusal) → List ℕ → Result JobTree Refusal → List Refusal
listed more text (Ok job) = []
listed more text (Err r) = r ∷ or_none more (repaired text r)

-- the first refusal, and then those of the text without that line, up to a given number
unfoldable pub faulty : ℕ → List ℕ → List Refusal
faulty zero text = []
faulty (suc n) text = listed (faulty n) text (job_in text)

-- at most twenty
abbrev pub faults_in : List ℕ → List Refusal
faults_in text = faulty 20 text

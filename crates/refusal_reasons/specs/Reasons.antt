-- Why a text is refused, in words for people (own): where, what the code means, and the line with a mark below what counts.
use Rattle.std.specs.Prelude.{◌≡◌, ◌≤◌, ℕ, ◌==◌, ◌+◌, ◌-◌, ◌/◌, ◌%◌, max, min, Bool, false, ◌&&◌, ◌||◌, nat_le, nat_lt, if◌then◌else◌, List, [], ◌∷◌, ◌++◌, length, take, drop, replicate, codes, decimal, Option, None}
use Rattle.std.specs.List.{flat_map}
use Rattle.std.specs.Str.{bytes_eq}
use Rattle.text_lines.specs.declared.refusal.Code.{Code}
use Rattle.text_lines.specs.declared.refusal.Code.TheVariants.{TooLong, UnknownLine, Unclosed}
use Rattle.text_lines.specs.declared.refusal.Refusal.{Refusal}
use Rattle.text_lines.specs.Refusals.{code_number}
use Rattle.text_lines.specs.Text.{lines_of, words_of}
use Rattle.job_reader.specs.Words.{Words}
use Rattle.refusal_reasons.specs.Lines.{line_at}
use Rattle.refusal_reasons.specs.Known.{open_block}
use Rattle.refusal_reasons.specs.Names.{code_name}
use Rattle.refusal_reasons.specs.Places.{place_by}
use Rattle.refusal_reasons.specs.declared.marks.Mark.{Mark}
use Rattle.refusal_reasons.specs.declared.place.Place.{Place}
use Rattle.refusal_reasons.specs.Meanings.{meaning}
use Rattle.refusal_reasons.specs.declared.meaning.Kind.{Kind}

-- a digit of base 16
abbrev pub hex : ℕ → ℕ
hex n = if nat_lt n 10 then 48 + n else 87 + n

-- a byte as it is shown: from the space to the tilde as it is, and any other by its number
abbrev pub shown_byte : ℕ → List ℕ
shown_byte c = if nat_le 32 c && nat_le c 126 then c ∷ [] else codes "\\x" ++ hex (c / 16) ∷ hex (c % 16) ∷ []

abbrev pub shown : List ℕ → List ℕ
shown line = flat_map shown_byte line

-- carets below the bytes that count, at least one
abbrev pub mark : ℕ → ℕ → List ℕ → List ℕ
mark before count line =
    replicate (length (shown (take before line))) 32 ++ replicate (max (length (shown (take count (drop before line)))) 1) 94

-- how many bytes of a line may be shown
abbrev pub most_shown : ℕ
most_shown = 160

-- how many bytes at the front of a line aren't shown: the line begins at most 40 bytes before the mark, and ends with what is shown
-- or after it
abbrev pub hidden : ℕ → List ℕ → ℕ
hidden before line = min (before - 40) (length line - most_shown)

-- dots in the place of bytes that aren't shown
abbrev pub dots : Bool → List ℕ
dots cut = if cut then codes "..." else []

-- a part of a line with the line's number and the mark below it; whether bytes are left out before it, and after it
abbrev pub part_line : ℕ → Bool → Bool → ℕ → ℕ → List ℕ → List ℕ
part_line number cut goes_on before count part =
    codes "  " ++ decimal number ++ codes " | " ++ dots cut ++ shown part ++ dots goes_on ++ codes "\n  "
    ++ replicate (length (decimal number)) 32
    ++ codes " | " ++ replicate (length (dots cut)) 32 ++ mark before count part ++ codes "\n"

-- a line without its first `from` bytes
abbrev pub cut_line : ℕ → ℕ → ℕ → ℕ → List ℕ → List ℕ
cut_line number from before count line =
    part_line number (nat_lt 0 from) (nat_lt (from + most_shown) (length line)) (before - from) count (take most_shown (drop from line))

-- the bytes round the mark; nothing, if the line is empty
abbrev pub line_shown : ℕ → ℕ → ℕ → List ℕ → List ℕ
line_shown number before count [] = []
line_shown number before count (c ∷ cs) = cut_line number (hidden before (c ∷ cs)) before count (c ∷ cs)

-- the place, the code with its name, and what it means
abbrev pub head : List ℕ → Kind → Place → List ℕ
head source kind p =
    source ++ codes ":" ++ decimal p.line ++ codes ":" ++ decimal p.column ++ codes ": code " ++ decimal (code_number p.code) ++ codes " "
    ++ code_name p.code
    ++ codes ": " ++ meaning kind p.code ++ codes "\n"

-- the line of a place
abbrev pub place_shown : Place → List ℕ → List ℕ
place_shown p text = line_shown p.line (p.column - 1) p.count (line_at p.line (lines_of text))

-- a line of a text as a whole
abbrev pub first_word_at : List ℕ → ℕ → Place
first_word_at text line = place_by text (record { line = line; code = UnknownLine }) None

-- what is shown: of a text that ends in a body, the line whose block is still open; of a text that is too long, no line
abbrev pub shown_by : Code → List ℕ → Refusal → Option Mark → Place
shown_by Unclosed text r m = first_word_at text (open_block r.line (lines_of text))
shown_by TooLong text r m = first_word_at text 0
shown_by code text r m = place_by text r m

-- whether a line begins as one outside bodies
abbrev pub is_outer : Words → Bool
is_outer [] = false
is_outer (w ∷ ws) = bytes_eq w (codes "array") || (bytes_eq w (codes "body") || bytes_eq w (codes "start"))

-- the line of the block that is still open above such a line
abbrev pub open_shown : ℕ → List ℕ → List ℕ
open_shown line text =
    if line == 0 then []
    else codes "the block of line " ++ decimal line ++ codes " is still open:\n" ++ place_shown (first_word_at text line) text

abbrev pub open_line : Code → List ℕ → Refusal → ℕ
open_line UnknownLine text r =
    if is_outer (words_of (line_at r.line (lines_of text))) then open_block r.line (lines_of text) else 0
open_line code text r = 0

-- why a text of this source is refused, by what the refusal is about
abbrev pub refusal_reason : List ℕ → List ℕ → Kind → Refusal → Option Mark → List ℕ
refusal_reason source text kind r m =
    head source kind (place_by text r m) ++ (place_shown (shown_by r.code text r m) text ++ open_shown (open_line r.code text r) text)

-- A reason begins with the source and the line of the refusal, a column, and the refusal's code, with its name and its meaning.
abbrev pub ReasonsAreOfRefusals : Type 0
ReasonsAreOfRefusals =
    (source text : List ℕ) (kind : Kind) (r : Refusal) (m : Option Mark)
    → (column : ℕ) × (rest : List ℕ) × (refusal_reason source text kind r m
    ≡ (source ++ codes ":" ++ decimal r.line ++ codes ":" ++ decimal column ++ codes ": code " ++ decimal (code_number r.code) ++ codes " "
    ++ code_name r.code
    ++ codes ": " ++ meaning kind r.code ++ codes "\n") ++ rest)

-- A reason has at most 4096 bytes more than its source's name, for texts as long as those that are read.
abbrev pub ReasonsAreShort : Type 0
ReasonsAreShort =
    (source text : List ℕ) (kind : Kind) (r : Refusal) (m : Option Mark) → length text ≤ 1048577 → r.line ≤ 1048577
    → length (refusal_reason source text kind r m) ≤ length source + 4096

-- Where in a refused text its fault is shown (own): the line of the refusal, and in it what the fault is about.
use Rattle.std.specs.Prelude.{◌≡◌, ℕ, zero, suc, ◌+◌, max, Bool, true, false, ◌==◌, if◌then◌else◌, List, [], ◌∷◌, take, drop, length, Option, Some, None}
use Rattle.text_lines.specs.declared.refusal.Code.{Code}
use Rattle.text_lines.specs.declared.refusal.Code.TheVariants.{BadByte, BadLine}
use Rattle.text_lines.specs.declared.refusal.Refusal.{Refusal}
use Rattle.text_lines.specs.Text.{is_allowed, lines_of, words_of}
use Rattle.refusal_reasons.specs.Lines.{line_at}
use Rattle.refusal_reasons.specs.Known.{known_at}
use Rattle.refusal_reasons.specs.Marks.{mark_on}
use Rattle.refusal_reasons.specs.declared.marks.Mark.{Mark}
use Rattle.refusal_reasons.specs.declared.marks.Part.{Part}
use Rattle.refusal_reasons.specs.declared.marks.Part.TheVariants.{Whole, Array, Index}
use Rattle.refusal_reasons.specs.declared.place.Place.{Place}

-- how many bytes of a line, from its start or from after a space, are before the word of this number
abbrev pub before_word : Bool → ℕ → List ℕ → ℕ
before_word spaced n [] = 0
before_word true zero (c ∷ cs) = if c == 32 then before_word true zero cs + 1 else 0
before_word true (suc n) (c ∷ cs) = if c == 32 then before_word true (suc n) cs + 1 else before_word false n cs + 1
before_word false n (c ∷ cs) = before_word (c == 32) n cs + 1

-- how many bytes are before the first that is this one
abbrev pub before_byte : ℕ → List ℕ → ℕ
before_byte b [] = 0
before_byte b (c ∷ cs) = if c == b then 0 else before_byte b cs + 1

-- how many bytes are before the first that isn't allowed
abbrev pub before_bad : List ℕ → ℕ
before_bad [] = 0
before_bad (c ∷ cs) = if is_allowed c then before_bad cs + 1 else 0

-- the word at the front
abbrev pub front_word : List ℕ → List ℕ
front_word line = take (before_byte 32 line) line

-- how many bytes of a word are before a part of it, and how many the part has: an array ends at the opening bracket, and an
-- index is between the brackets
abbrev pub before_part : Part → List ℕ → ℕ
before_part Index w = before_byte 91 w + 1
before_part part w = 0

abbrev pub part_count : Part → List ℕ → ℕ
part_count Whole w = length w
part_count Array w = before_byte 91 w
part_count Index w = before_byte 93 (drop (before_byte 91 w + 1) w)

-- how many bytes of a line are before what counts: a byte that isn't allowed, what the fault is about, or else the first word
abbrev pub before_mark : Option Mark → List ℕ → ℕ
before_mark None line = before_word true 0 line
before_mark (Some m) line = before_word true m.word line + before_part m.part (front_word (drop (before_word true m.word line) line))

abbrev pub before_fault : Code → Option Mark → List ℕ → ℕ
before_fault BadByte mark line = before_bad line
before_fault code mark line = before_mark mark line

-- how many bytes that has: for a line with too many or too few words all from its first word on
abbrev pub mark_count : Option Mark → List ℕ → ℕ
mark_count None line = length (front_word (drop (before_word true 0 line) line))
mark_count (Some m) line = part_count m.part (front_word (drop (before_word true m.word line) line))

abbrev pub count_of : Code → Option Mark → List ℕ → ℕ
count_of BadByte mark line = 1
count_of BadLine mark line = length (drop (before_word true 0 line) line)
count_of code mark line = mark_count mark line

abbrev pub place_on : Refusal → Option Mark → List ℕ → Place
place_on r mark line = record {
  line = r.line;
  code = r.code;
  column = before_fault r.code mark line + 1;
  count = max (count_of r.code mark line) 1;
}

-- the place of a refusal in its text, by what it is about
abbrev pub place_by : List ℕ → Refusal → Option Mark → Place
place_by text r mark = place_on r mark (line_at r.line (lines_of text))

-- what the refusal of a job's text is about
abbrev pub job_mark : List ℕ → Refusal → Option Mark
job_mark text r = mark_on (known_at r.line (lines_of text)) r.code (words_of (line_at r.line (lines_of text)))

-- the place of a refusal in the text of a job
abbrev pub place_in : List ℕ → Refusal → Place
place_in text r = place_by text r (job_mark text r)

-- The line and the code that are shown are those of the refusal.
abbrev pub PlacesAreOfRefusals : Type 0
PlacesAreOfRefusals =
    (text : List ℕ) (r : Refusal) (mark : Option Mark) → ((place_by text r mark).line ≡ r.line) × ((place_by text r mark).code ≡ r.code)

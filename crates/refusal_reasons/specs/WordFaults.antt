-- Each fault of a word is marked (own).
use Rattle.std.specs.Prelude.{◌≡◌, ◌⊎◌, ℕ, ◌+◌, Bool, true, false, Option, Some, None, IsSome, Err, slice_get}
use Rattle.text_lines.specs.declared.refusal.Code.{Code}
use Rattle.text_lines.specs.declared.refusal.Code.TheVariants.{BadName, BadNumber, UnknownName, Reserved}
use Rattle.job_reader.specs.Exprs.{Names, cell_parts}
use Rattle.job_reader.specs.Lines.{line_behind}
use Rattle.job_reader.specs.Words.{Word, Words, declared_at, named, numbered}
use Rattle.job_reader.specs.declared.lines.Keyword.{Keyword}
use Rattle.refusal_reasons.specs.Marks.{Known, inner_mark}
use Rattle.refusal_reasons.specs.declared.marks.Mark.{Mark}
use Rattle.refusal_reasons.specs.declared.marks.Part.{Part}
use Rattle.refusal_reasons.specs.declared.marks.Part.TheVariants.{Whole, Array, Index}

-- whether a fault is that of a word: no name, no number, a reserved word, or a name that isn't known
abbrev pub is_of_word : Code → Bool
is_of_word BadName = true
is_of_word BadNumber = true
is_of_word UnknownName = true
is_of_word Reserved = true
is_of_word code = false

abbrev pub known_of : Names → Known
known_of s = record { arrays = s.arrays; locals = Some s.locals }

-- If a line in a body is refused by such a fault, with any names, then a word of it, or a part of one, is marked.
abbrev pub WordFaultsAreMarked : Type 0
WordFaultsAreMarked =
    (s : Names) (fits : Bool) (keyword : Keyword) (ws : Words) (c : Code) → is_of_word c ≡ true
    → line_behind s fits (Some keyword) ws ≡ Err c
    → IsSome (inner_mark (known_of s) c keyword ws)

-- whether a word is no local, if locals are known
abbrev pub IsNoLocal : Option Words → Code → Word → Type 0
IsNoLocal None c w = ⊥
IsNoLocal (Some locals) c w = declared_at locals w ≡ Err c

-- a word is refused by this code where a name, a number or a local is read
abbrev pub IsRefused : Known → Code → Word → Type 0
IsRefused k c w = (named w ≡ Err c) ⊎ ((numbered w ≡ Err c) ⊎ IsNoLocal k.locals c w)

-- and so is a part of one
abbrev pub IsRefusedPart : Known → Code → Part → Word → Type 0
IsRefusedPart k c Whole w = IsRefused k c w
IsRefusedPart k c Array w = (p : Word × Word) × (cell_parts w ≡ Some p) × (declared_at k.arrays p.0 ≡ Err c)
IsRefusedPart k c Index w = (p : Word × Word) × (cell_parts w ≡ Some p) × IsRefused k c p.1

-- what is marked, if anything is, is a part of one of these words, of which the first has this number, and is refused
abbrev pub MarksRefused : Known → Code → ℕ → Words → Option Mark → Type 0
MarksRefused k c n ws None = Unit {0}
MarksRefused k c n ws (Some m) = (i : ℕ) × (w : Word) × (m.word ≡ n + i) × (slice_get ws i ≡ Some w) × IsRefusedPart k c m.part w

-- What is marked of a line in a body, from its keyword and the words after it, is refused by the fault when it is read by itself.
abbrev pub MarksAreRefused : Type 0
MarksAreRefused = (k : Known) (keyword : Keyword) (ws : Words) (c : Code) → MarksRefused k c 1 ws (inner_mark k c keyword ws)

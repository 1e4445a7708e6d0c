-- What the refusal of a trace is about (own).
use Rattle.std.specs.Prelude.{ℕ, List, Option, None}
use Rattle.std.specs.Option.{option_map}
use Rattle.text_lines.specs.declared.refusal.Code.{Code}
use Rattle.text_lines.specs.declared.refusal.Code.TheVariants.{BadNumber}
use Rattle.text_lines.specs.declared.refusal.Refusal.{Refusal}
use Rattle.text_lines.specs.Text.{lines_of}
use Rattle.trace_text.specs.Faulty.{faulty_number}
use Rattle.refusal_reasons.specs.Lines.{line_at}
use Rattle.refusal_reasons.specs.Marks.{word_mark}
use Rattle.refusal_reasons.specs.declared.marks.Mark.{Mark}

-- a number that is none, or none of its range, is marked
abbrev pub mark_by : Code → List ℕ → List ℕ → Option Mark
mark_by BadNumber text line = option_map word_mark (faulty_number text line)
mark_by code text line = None

abbrev pub trace_mark : List ℕ → Refusal → Option Mark
trace_mark text r = mark_by r.code text (line_at r.line (lines_of text))

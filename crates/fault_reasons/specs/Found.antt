-- A line of a text as the code has it.
use Rattle.text_lines.specs.Text.{words_of}
use Rattle.fault_reasons.specs.Lines.{Numbered}
use Rattle.fault_reasons.specs.declared.lines.Found.{Found}

abbrev pub line_found : Found → Numbered
line_found f = record { number = f.number; words = words_of f.line.now }

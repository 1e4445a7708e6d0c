-- Reasons worked out by hand (own).
use Rattle.std.specs.Prelude.{◌≡◌, ℕ, List, [], ◌∷◌, ◌++◌, codes, Option, Some, None}
use Rattle.text_lines.specs.declared.refusal.Code.{Code}
use Rattle.text_lines.specs.declared.refusal.Code.TheVariants.{TooLong, BadByte, BadHeader, UnknownLine, BadName, BadNumber, UnknownName, Unclosed}
use Rattle.refusal_reasons.specs.Marks.{word_mark}
use Rattle.refusal_reasons.specs.Places.{job_mark}
use Rattle.refusal_reasons.specs.Reasons.{refusal_reason, shown}
use Rattle.refusal_reasons.specs.declared.marks.Mark.{Mark}
use Rattle.refusal_reasons.specs.declared.meaning.Kind.{Kind}
use Rattle.refusal_reasons.specs.declared.meaning.Kind.TheVariants.{Job, Trace}

abbrev pub SaysBy : List ℕ → Kind → ℕ → Code → Option Mark → List ℕ → Type 0
SaysBy text kind line code mark reason = refusal_reason (codes "a") text kind (record { line = line; code = code }) mark ≡ reason

abbrev pub Says : List ℕ → ℕ → Code → List ℕ → Type 0
Says text line code reason = SaysBy text Job line code (job_mark text (record { line = line; code = code })) reason

pub record ReasonsAreWorkedOut : Type 0 where
  pub word : Says (codes "bsp 1\nbody b\n  let x = c[0] + 1\nend\n") 3 UnknownName
      (codes "a:3:11: code 9 UnknownName: no such array above, no such body, or in bsp 2 no such local\n"
      ++ codes "  3 |   let x = c[0] + 1\n" ++ codes "    |           ^\n")
  pub byte : Says (codes "bsp 1\nbody b\nlet\tx = 1\nend\n") 3 BadByte
      (codes "a:3:4: code 2 BadByte: a byte that isn't allowed\n" ++ codes "  3 | let\\x09x = 1\n" ++ codes "    |    ^^^^\n")
  pub unclosed : Says (codes "bsp 1\nbody a\nend\nbody b\nlet x = 1\n") 6 Unclosed
      (codes "a:6:1: code 10 Unclosed: the text ends in a body\n" ++ codes "  4 | body b\n" ++ codes "    | ^^^^\n")
  -- a block in it that isn't closed
  pub unclosed_block : Says (codes "bsp 1\nbody b\nif 1\nend\n  while 1\nend\nwhile 2\n") 8 Unclosed
      (codes "a:8:1: code 10 Unclosed: the text ends in a body\n" ++ codes "  7 | while 2\n" ++ codes "    | ^^^^^\n")
  -- a block that isn't closed before the next body
  pub block : Says (codes "bsp 1\nbody b\n  if 1\n  print 1\nend\nstart b 0\n") 6 UnknownLine
      (codes "a:6:1: code 4 UnknownLine: a line whose first word isn't allowed there\n" ++ codes "  6 | start b 0\n"
      ++ codes "    | ^^^^^\n"
      ++ codes "the block of line 2 is still open:\n" ++ codes "  2 | body b\n" ++ codes "    | ^^^^\n")
  pub empty : Says (codes "") 1 BadHeader (codes "a:1:1: code 3 BadHeader: the first line is neither bsp 1 nor bsp 2\n")
  pub trace : SaysBy (codes "phaser 1\nhop\n") Trace 2 UnknownLine None
      (codes "a:2:1: code 4 UnknownLine: a line whose first word is no command\n" ++ codes "  2 | hop\n" ++ codes "    | ^^^\n")
  pub trace_number : SaysBy (codes "phaser 1 least 70000\n") Trace 1 BadNumber (Some (word_mark 3))
      (codes "a:1:16: code 6 BadNumber: not a number, or one out of its range\n" ++ codes "  1 | phaser 1 least 70000\n"
      ++ codes "    |                ^^^^^\n")
  -- a line with a number of two digits
  pub far : Says (codes "bsp 1\n\n\n\n\n\n\n\n\n\n\nshow\n") 12 UnknownLine
      (codes "a:12:1: code 4 UnknownLine: a line whose first word isn't allowed there\n" ++ codes "  12 | show\n" ++ codes "     | ^^^^\n")
  -- no line of a text that is too long, and 160 bytes of a long line
  pub too_long : Says (codes "show\n") 1 TooLong (codes "a:1:1: code 1 TooLong: over 1048576 bytes\n")
  pub long : Says
      (codes
      "bsp 1\nbody b\nprint                                                                                                                                                                                                         Y\nend\n")
      3 BadName
      (codes "a:3:207: code 5 BadName: not a name\n"
      ++ codes
      "  3 | ...                                                                                                                                                               Y\n"
      ++ codes
      "    |                                                                                                                                                                   ^\n")
  -- bytes that a terminal doesn't print
  pub bytes : shown (13 ∷ 127 ∷ 255 ∷ []) ≡ codes "\\x0d\\x7f\\xff"

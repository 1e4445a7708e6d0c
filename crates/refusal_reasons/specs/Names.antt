-- The names of codes (own).
use Rattle.std.specs.Prelude.{ℕ, List, codes}
use Rattle.text_lines.specs.declared.refusal.Code.{Code}
use Rattle.text_lines.specs.declared.refusal.Code.TheVariants.{TooLong, BadByte, BadHeader, UnknownLine, BadName, BadNumber, BadLine, Twice, UnknownName, Unclosed, BadNesting, TooMany, BadLength, Reserved}

abbrev pub code_name : Code → List ℕ
code_name TooLong = codes "TooLong"
code_name BadByte = codes "BadByte"
code_name BadHeader = codes "BadHeader"
code_name UnknownLine = codes "UnknownLine"
code_name BadName = codes "BadName"
code_name BadNumber = codes "BadNumber"
code_name BadLine = codes "BadLine"
code_name Twice = codes "Twice"
code_name UnknownName = codes "UnknownName"
code_name Unclosed = codes "Unclosed"
code_name BadNesting = codes "BadNesting"
code_name TooMany = codes "TooMany"
code_name BadLength = codes "BadLength"
code_name Reserved = codes "Reserved"

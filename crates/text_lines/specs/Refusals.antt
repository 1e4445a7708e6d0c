-- Why a text is refused, by number, and its place (own).
pub use Rattle.text_lines.specs.declared.refusal.Code.{Code}
pub use
    Rattle.text_lines.specs.declared.refusal.Code.TheVariants.{
      TooLong,
      BadByte,
      BadHeader,
      UnknownLine,
      BadName,
      BadNumber,
      BadLine,
      Twice,
      UnknownName,
      Unclosed,
      BadNesting,
      TooMany,
      BadLength,
      Reserved,
    }
pub use Rattle.text_lines.specs.declared.refusal.Refusal.{Refusal}
use Rattle.std.specs.Prelude.{ℕ}

abbrev pub code_number : Code → ℕ
code_number TooLong = 1
code_number BadByte = 2
code_number BadHeader = 3
code_number UnknownLine = 4
code_number BadName = 5
code_number BadNumber = 6
code_number BadLine = 7
code_number Twice = 8
code_number UnknownName = 9
code_number Unclosed = 10
code_number BadNesting = 11
code_number TooMany = 12
code_number BadLength = 13
code_number Reserved = 14

-- Of several faults of a line the one that counts (own).
use Rattle.std.specs.Prelude.{ℕ, Bool, nat_le, if◌then◌else◌, Result, Ok, Err}
use Rattle.text_lines.specs.declared.refusal.Code.{Code}
use Rattle.text_lines.specs.declared.refusal.Code.TheVariants.{
  TooLong,
  BadByte,
  BadHeader,
  UnknownLine,
  BadName,
  BadNumber,
  BadLine,
  Twice,
  UnknownName,
  Unclosed,
  BadNesting,
  TooMany,
  BadLength,
  Reserved,
}

-- the place of a fault in the order in which the faults of a line count
abbrev pub rank : Code → ℕ
rank TooLong = 0
rank BadByte = 1
rank BadHeader = 2
rank UnknownLine = 3
rank BadNesting = 4
rank BadLine = 5
rank Reserved = 6
rank BadName = 7
rank BadNumber = 8
rank BadLength = 9
rank UnknownName = 10
rank Twice = 11
rank TooMany = 12
rank Unclosed = 13

-- of two faults the one that counts
abbrev pub earlier : Code → Code → Code
earlier a b = if nat_le (rank a) (rank b) then a else b

-- two parts of a line, wherever they are: both, or of their faults the one that counts
abbrev pub both : {A B : Type 0} → Result A Code → Result B Code → Result (A × B) Code
both (Ok a) (Ok b) = Ok (a, b)
both (Ok a) (Err d) = Err d
both (Err c) (Ok b) = Err c
both (Err c) (Err d) = Err (earlier c d)

-- what is made of a part
abbrev pub made : {A B : Type 0} → (A → B) → Result A Code → Result B Code
made f (Ok a) = Ok (f a)
made f (Err c) = Err c

-- a fault unless this holds
abbrev pub checked : Bool → Code → Result (Unit {0}) Code
checked holds c = if holds then Ok tt else Err c

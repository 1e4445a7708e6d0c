-- Refusals worked out: which of several faults counts is written down, and not said by any rule (own).
use Rattle.std.specs.Prelude.{◌≡◌, ◌==◌, ◌&&◌, ℕ, Bool, true, List, [], ◌∷◌, ◌++◌, map, codes, Result, Err}
use Rattle.std.specs.List.{list_all}
use Rattle.text_lines.specs.declared.refusal.Code.{Code}
use Rattle.text_lines.specs.declared.refusal.Code.TheVariants.{TooLong, BadByte, BadHeader, UnknownLine, BadName, BadNumber, BadLine, Twice, UnknownName, Unclosed, BadNesting, TooMany, BadLength, Reserved}
use Rattle.text_lines.specs.declared.refusal.Refusal.{Refusal}
use Rattle.text_lines.specs.Refusals.{code_number}
use Rattle.job_reader.specs.Faults.{earlier}
use Rattle.job_reader.specs.Trees.{JobTree}
use Rattle.job_reader.specs.Reading.{job_in}

-- the codes in the order in which the faults of a line count
abbrev pub counting : List Code
counting =
    TooLong ∷ BadByte ∷ BadHeader ∷ UnknownLine ∷ BadNesting ∷ BadLine ∷ Reserved ∷ BadName ∷ BadNumber ∷ BadLength ∷ UnknownName ∷ Twice
    ∷ TooMany
    ∷ Unclosed ∷ []

-- it counts before each of these, whichever of the two is first in the line
abbrev pub counts_before : Code → List Code → Bool
counts_before c ds = list_all (λ d. (code_number (earlier c d) == code_number c) && (code_number (earlier d c) == code_number c)) ds

abbrev pub are_in_order : List Code → Bool
are_in_order [] = true
are_in_order (c ∷ cs) = counts_before c cs && are_in_order cs

-- Of two faults of a line the one counts whose code is further to the front of the list.
abbrev pub FaultsCountInOrder : Type 0
FaultsCountInOrder = are_in_order counting ≡ true

-- the codes and their numbers
abbrev pub CodesAreNumbered : Type 0
CodesAreNumbered =
    map code_number
    (TooLong ∷ BadByte ∷ BadHeader ∷ UnknownLine ∷ BadName ∷ BadNumber ∷ BadLine ∷ Twice ∷ UnknownName ∷ Unclosed ∷ BadNesting ∷ TooMany
    ∷ BadLength ∷ Reserved ∷ [])
    ≡ 1 ∷ 2 ∷ 3 ∷ 4 ∷ 5 ∷ 6 ∷ 7 ∷ 8 ∷ 9 ∷ 10 ∷ 11 ∷ 12 ∷ 13 ∷ 14 ∷ []

abbrev pub refused : ℕ → Code → Result JobTree Refusal
refused line code = Err (record { line = line; code = code })

-- sixteen arrays
abbrev pub arrays : List ℕ
arrays =
    codes
    "bsp 1\narray a 1\narray b 1\narray c 1\narray d 1\narray e 1\narray f 1\narray g 1\narray h 1\narray i 1\narray j 1\narray k 1\narray l 1\narray m 1\narray n 1\narray o 1\narray p 1\n"

-- Each of these lines has two faults and more.
pub record RefusalsAreWorkedOut : Type 0 where
  pub nesting_first : job_in (codes "bsp 1\nbody c\nelse 1\nend\n") ≡ refused 3 BadNesting
  pub words_before_reserved : job_in (codes "bsp 1\nbody c\nlet let = 1 +\nend\n") ≡ refused 3 BadLine
  pub words_before_operands : job_in (codes "bsp 1\nbody c\nlet let = X ** 05\nend\n") ≡ refused 3 BadLine
  pub few_words_before_reserved : job_in (codes "bsp 1\narray step\n") ≡ refused 2 BadLine
  pub reserved_before_name : job_in (codes "bsp 1\nbody c\nlet arg = b!\nend\n") ≡ refused 3 Reserved
  pub reserved_behind_name : job_in (codes "bsp 1\nbody c\nlet X = arg + let\nend\n") ≡ refused 3 Reserved
  pub reserved_before_number : job_in (codes "bsp 1\narray step x\n") ≡ refused 2 Reserved
  pub name_before_number : job_in (codes "bsp 1\narray a! x\n") ≡ refused 2 BadName
  pub name_behind_number : job_in (codes "bsp 1\nbody c\nlet x = 05 + X\nend\n") ≡ refused 3 BadName
  pub number_before_length : job_in (codes "bsp 1\narray a 0 05\n") ≡ refused 2 BadNumber
  pub number_before_unknown : job_in (codes "bsp 1\nbody c\nlet x = b[0] + 05\nend\n") ≡ refused 3 BadNumber
  pub name_before_unknown : job_in (codes "bsp 1\nbody c\nlet x = b[0] + X\nend\n") ≡ refused 3 BadName
  pub number_before_twice : job_in (codes "bsp 1\narray a 1\narray a 05\n") ≡ refused 3 BadNumber
  pub length_before_twice : job_in (codes "bsp 1\narray a 1\narray a 0\n") ≡ refused 3 BadLength
  pub length_before_many : job_in (arrays ++ codes "array z 0\n") ≡ refused 18 BadLength
  pub twice_before_many : job_in (arrays ++ codes "array a 1\n") ≡ refused 18 Twice
  pub many : job_in (arrays ++ codes "array z 1\n") ≡ refused 18 TooMany
  pub many_mentions : job_in (codes "bsp 1\nbody c\nif 1\nelse\nif y\nprint b[0]\n") ≡ refused 6 UnknownName
  -- a keyword alone has too few words, whatever each of its words would have to be
  pub let_alone : job_in (codes "bsp 1\nbody c\nlet\nend\n") ≡ refused 3 BadLine
  pub put_alone : job_in (codes "bsp 1\nbody c\nput\nend\n") ≡ refused 3 BadLine
  pub add_alone : job_in (codes "bsp 2\nbody c\nadd\nend\n") ≡ refused 3 BadLine
  pub print_alone : job_in (codes "bsp 1\nbody c\nprint\nend\n") ≡ refused 3 BadLine
  pub spawn_alone : job_in (codes "bsp 1\nbody c\nspawn\nend\n") ≡ refused 3 BadLine
  pub if_alone : job_in (codes "bsp 1\nbody c\nif\nend\n") ≡ refused 3 BadLine
  pub while_alone : job_in (codes "bsp 1\nbody c\nwhile\nend\n") ≡ refused 3 BadLine
  pub array_alone : job_in (codes "bsp 1\narray\n") ≡ refused 2 BadLine
  pub body_alone : job_in (codes "bsp 1\nbody\n") ≡ refused 2 BadLine
  pub start_alone : job_in (codes "bsp 1\nstart\n") ≡ refused 2 BadLine
  pub start_without : job_in (codes "bsp 1\nstart c\n") ≡ refused 2 BadLine
  -- a first word that begins with a slash is no comment, and one that begins with a colon isn't meant as a number
  pub slash_counts : job_in (codes "/ bsp 1\nbsp 1\n") ≡ refused 1 BadHeader
  pub slash_in_body : job_in (codes "bsp 1\nbody c\n/\nend\n") ≡ refused 3 UnknownLine
  pub colon_is_name : job_in (codes "bsp 1\nbody c\nprint :5\nend\n") ≡ refused 3 BadName
  -- the first line that is refused counts, whatever its fault, and a body that is missing is looked for at the end
  pub first_line : job_in (codes "bsp 1\nstart X 0\narray step\n") ≡ refused 2 BadName
  pub line_before_missing : job_in (codes "bsp 1\nstart b 0\narray a 0\n") ≡ refused 3 BadLength
  pub two_missing : job_in (codes "bsp 1\nstart b 0\nbody c\nspawn d 0\nend\nstart e 0\n") ≡ refused 2 UnknownName
  pub two_missing_behind : job_in (codes "bsp 1\nbody c\nspawn d 0\nend\nstart e 0\nstart c 0\n") ≡ refused 3 UnknownName
  pub unclosed_before_missing : job_in (codes "bsp 1\nstart c 0\nbody b\nspawn d 1\n") ≡ refused 5 Unclosed
  -- the length, then a byte, then the lines
  pub byte_before_line : job_in (codes "bsp 1\nend\n\tsync\n") ≡ refused 3 BadByte

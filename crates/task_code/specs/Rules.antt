-- What the types of a body and of a job keep (own).
use Rattle.std.specs.Prelude.{◌≡◌, ◌≤◌, ℕ, ℤ, Bool, ◌&&◌, ◌||◌, ◌==◌, nat_lt, nat_le, IsTrue, List, length, map, Some}
use Rattle.std.specs.List.{list_all, AllByRecursion}
use Rattle.text_lines.specs.Number.{fits_i64}
use Rattle.task_code.specs.BodyValue.{BodyValue}
use Rattle.task_code.specs.JobValue.{JobValue}
use Rattle.task_code.specs.Reading.{IsMatched}
use Rattle.task_code.specs.Most.{most_locals, most_statements, most_open, most_arrays, most_bodies, most_tasks, most_cells}
use Rattle.task_code.specs.Names.{is_free, are_names}
use Rattle.task_code.specs.Mentions.{mentions, mentioned, are_below}
use Rattle.task_code.specs.Limits.{statements, deepest, is_line, is_of_first, fits_line}

-- the locals are those that the lines mention, by first mention
abbrev pub IsByMention : BodyValue → Type 0
IsByMention b = mentioned 0 (mentions b.code) ≡ Some (length b.locals)

-- A body has a name, matched jumps, at most 1024 statements, at most 16 lines open at once, and at most 32 locals with
-- distinct names. Its lines mention no other locals, and their numbers are of 64 signed bits.
pub record IsBody (b : BodyValue) : Type 0 where
  pub name : IsTrue (is_free b.name)
  pub few : length b.locals ≤ most_locals
  pub locals : IsTrue (are_names b.locals)
  pub statements : statements b.code ≤ most_statements
  pub depth : deepest 0 b.code ≤ most_open
  pub mentions : IsTrue (are_below (length b.locals) (mentions b.code))
  pub matched : IsMatched b.code
  pub numbers : IsTrue (list_all fits_line b.code)

-- an array has a name and 1 to 4096 cells
abbrev pub is_array : List ℕ × List ℤ → Bool
is_array a = is_free a.0 && nat_le 1 (length a.1) && nat_le (length a.1) most_cells

-- What a body of format 1 keeps besides: its locals are in the order of first mention, and no line is an add.
pub record IsOfFirst (b : BodyValue) : Type 0 where
  pub order : IsByMention b
  pub lines : IsTrue (list_all is_of_first b.code)

-- the formats are 1 and 2
abbrev pub is_format : ℕ → Bool
is_format n = (n == 1) || (n == 2)

-- A job is of format 1 or 2, and of format 1 only with bodies as that has them. It has at most 16 arrays, 64 bodies and
-- 4096 start lines. The names of its arrays are distinct, and so are those of its bodies. What its lines and start
-- lines name exists. Its numbers are of 64 signed bits.
pub record IsJob (j : JobValue) : Type 0 where
  pub format : IsTrue (is_format j.format)
  pub first : j.format ≡ 1 → AllByRecursion IsOfFirst j.bodies
  pub few_arrays : length j.arrays ≤ most_arrays
  pub few_bodies : length j.bodies ≤ most_bodies
  pub few_starts : length j.starts ≤ most_tasks
  pub arrays : IsTrue (list_all is_array j.arrays)
  pub named : IsTrue (are_names (map (λ a. a.0) j.arrays))
  pub bodies : IsTrue (are_names (map (λ b. b.name) j.bodies))
  pub each : AllByRecursion IsBody j.bodies
  pub lines : IsTrue (list_all (λ b. list_all (is_line (length j.arrays) (length j.bodies)) b.code) j.bodies)
  pub starts : IsTrue (list_all (λ s. nat_lt s.body (length j.bodies)) j.starts)
  pub cells : IsTrue (list_all (λ a. list_all fits_i64 a.1) j.arrays)
  pub args : IsTrue (list_all (λ s. fits_i64 s.arg) j.starts)

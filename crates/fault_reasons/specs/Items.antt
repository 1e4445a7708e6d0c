-- What a statement reads, each name with its value (own).
use Rattle.std.specs.Prelude.{ℕ, ◌-◌, ℤ, if◌then◌else◌, List, [], ◌∷◌, ◌++◌, length, map, codes, decimal, Option, Some, None, Result, Ok, Err, slice_get}
use Rattle.std.specs.Fmt.{signed_decimal}
use Rattle.task_code.specs.Names.{is_among}
use Rattle.task_code.specs.declared.code.Index.{Index}
use Rattle.task_code.specs.declared.code.Index.TheVariants as index
use Rattle.task_code.specs.declared.code.Cell.{Cell}
use Rattle.task_code.specs.declared.code.Operand.{Operand}
use Rattle.task_code.specs.declared.code.Operand.TheVariants as operand
use Rattle.task_code.specs.declared.code.Expr.{Expr}
use Rattle.task_code.specs.declared.code.Expr.TheVariants.{One, Two}
use Rattle.task_code.specs.declared.code.Action.{Action}
use Rattle.task_code.specs.declared.code.Action.TheVariants.{Let, Put, Print, Spawn, Sync, Stop}
use Rattle.task_code.specs.declared.code.Line.{Line}
use Rattle.task_code.specs.declared.code.Line.TheVariants as line
use Rattle.task_lang.specs.declared.fault.Fault.{Fault}
use Rattle.task_lang.specs.Meaning.{Setting, index_value, cell_value}
use Rattle.job_reader.specs.Words.{Word, Words, name_at, index_word}

-- what a statement reads: the setting of its task, and the names and the values of its locals
pub record Seen : Type 0 where
  pub setting : Setting
  pub names : List Word
  pub locals : List ℤ

-- items, each of them once
abbrev pub with_item : Words → Word → Words
with_item items item = if is_among items item then items else items ++ item ∷ []

abbrev pub cells_in : Option (List ℕ × List ℤ) → ℕ
cells_in None = 0
cells_in (Some a) = length a.1

module _ (s : Seen) where
  abbrev pub array_name : ℕ → Word
  array_name array = name_at (map (λ a. a.0) s.setting.arrays) array

  -- a name and its value
  abbrev pub index_item : Index → Word
  index_item i = index_word s.names i ++ codes " = " ++ signed_decimal (index_value s.setting s.locals i)

  abbrev pub with_index : Words → Index → Words
  with_index items (index.Number n) = items
  with_index items (index.Local i) = with_item items (index_item (index.Local i))
  with_index items index.Arg = with_item items (index_item index.Arg)
  with_index items index.Step = with_item items (index_item index.Step)

  -- which cells an array has
  abbrev pub size_item : ℕ → Word
  size_item array = array_name array ++ codes " has cells 0 to " ++ decimal (cells_in (slice_get s.setting.arrays array) - 1)

  abbrev pub named_cell : Cell → Word
  named_cell c = array_name c.array ++ codes "[" ++ index_word s.names c.index ++ codes "]"

  -- the value of a cell; if there is none, which cells its array has
  abbrev pub value_item : Cell → Result ℤ Fault → Word
  value_item c (Ok v) = named_cell c ++ codes " = " ++ signed_decimal v
  value_item c (Err f) = size_item c.array

  abbrev pub with_cell : Words → Cell → Words
  with_cell items c = with_item (with_index items c.index) (value_item c (cell_value s.setting s.locals c))

  -- a cell that is put to isn't read; if there is none, which cells its array has
  abbrev pub unless_there : Words → Cell → Result ℤ Fault → Words
  unless_there items c (Ok v) = items
  unless_there items c (Err f) = with_item items (size_item c.array)

  abbrev pub with_target : Words → Cell → Words
  with_target items c = unless_there (with_index items c.index) c (cell_value s.setting s.locals c)

  abbrev pub with_operand : Words → Operand → Words
  with_operand items (operand.Plain i) = with_index items i
  with_operand items (operand.Cell c) = with_cell items c

  abbrev pub with_expr : Words → Expr → Words
  with_expr items (One a) = with_operand items a
  with_expr items (Two a op b) = with_operand (with_operand items a) b

  abbrev pub with_action : Words → Action → Words
  with_action items (Let i e) = with_expr items e
  with_action items (Put kind c e) = with_expr (with_target items c) e
  with_action items (Print e) = with_expr items e
  with_action items (Spawn b e) = with_expr items e
  with_action items Sync = items
  with_action items Stop = items

  -- what the line reads
  abbrev pub reads : Line → Words
  reads (line.Do a) = with_action [] a
  reads (line.If e n) = with_expr [] e
  reads (line.Else n) = []
  reads line.EndIf = []
  reads (line.While e n) = with_expr [] e
  reads (line.EndWhile e n) = with_expr [] e

-- items with commas between them, and a word before the last
abbrev pub listed_on : Words → List ℕ
listed_on [] = []
listed_on (w ∷ []) = codes " and " ++ w
listed_on (w ∷ v ∷ ws) = codes ", " ++ w ++ listed_on (v ∷ ws)

abbrev pub listed : Words → List ℕ
listed [] = []
listed (w ∷ ws) = codes ", where " ++ w ++ listed_on ws

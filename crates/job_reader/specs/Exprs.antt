-- Cells and expressions as words (own).
use Rattle.std.specs.Prelude.{ℕ, Bool, false, ◌||◌, ◌==◌, if◌then◌else◌, List, [], ◌∷◌, ◌++◌, codes, Option, Some, None, Result, Ok, Err}
use Rattle.std.specs.Option.{option_map}
use Rattle.std.specs.Str.{bytes_eq}
use Rattle.text_lines.specs.declared.refusal.Code.{Code}
use Rattle.text_lines.specs.declared.refusal.Code.TheVariants.{BadLine}
use Rattle.task_code.specs.declared.code.Index.{Index}
use Rattle.task_code.specs.declared.code.Cell.{Cell}
use Rattle.task_code.specs.declared.code.Operand.{Operand}
use Rattle.task_code.specs.declared.code.Operand.TheVariants as operand
use Rattle.task_code.specs.declared.code.Operator.{Operator}
use Rattle.task_code.specs.declared.code.Operator.TheVariants.{
  Add,
  Subtract,
  Multiply,
  Divide,
  Remainder,
  Below,
  AtMost,
  Equal,
  NotEqual,
}
use Rattle.task_code.specs.declared.code.Expr.{Expr}
use Rattle.task_code.specs.declared.code.Expr.TheVariants.{One, Two}
use Rattle.job_reader.specs.Faults.{both, made}
use Rattle.job_reader.specs.Words.{Word, Words, name_at, declared_at, index_word, index_of, in_index}

-- the names that a line may use: the arrays above it, the bodies of the text, and its body's locals
pub record Names : Type 0 where
  pub arrays : List Word
  pub bodies : List Word
  pub locals : List Word

-- nothing, if a word ends
abbrev pub at_end : Word → Option Word
at_end [] = Some []
at_end (c ∷ cs) = None

-- what is in front of a bracket that closes a word, if there is no other bracket
abbrev pub index_part : Word → Option Word
index_part [] = None
index_part (c ∷ cs) =
    if c == 91 then None
    else if c == 93 then at_end cs
    else option_map (λ i. c ∷ i) (index_part cs)

-- the name and the index of a cell, if a word has one opening bracket, one closing one, and ends in the latter
abbrev pub cell_parts : Word → Option (Word × Word)
cell_parts [] = None
cell_parts (c ∷ cs) =
    if c == 91 then option_map (λ i. ([], i)) (index_part cs)
    else if c == 93 then None
    else option_map (λ p. (c ∷ p.0, p.1)) (cell_parts cs)

-- how a cell is written
abbrev pub cell_word : Names → Cell → Word
cell_word s c = name_at s.arrays c.array ++ 91 ∷ (index_word s.locals c.index ++ 93 ∷ [])

abbrev pub cell_at : ℕ × Index → Cell
cell_at p = record { array = p.0; index = p.1 }

abbrev pub cell_from : Names → Option (Word × Word) → Result Cell Code
cell_from s None = Err BadLine
cell_from s (Some p) = made cell_at (both (declared_at s.arrays p.0) (index_of s.locals p.1))

-- the cell that a word says
unfoldable pub cell_of : Names → Word → Result Cell Code
cell_of s w = cell_from s (cell_parts w)

-- a word with an opening bracket is meant as a cell
abbrev pub has_bracket : Word → Bool
has_bracket [] = false
has_bracket (c ∷ cs) = (c == 91) || has_bracket cs

abbrev pub operand_word : Names → Operand → Word
operand_word s (operand.Plain i) = index_word s.locals i
operand_word s (operand.Cell c) = cell_word s c

unfoldable pub operand_of : Names → Word → Result Operand Code
operand_of s w = if has_bracket w then made operand.Cell (cell_of s w) else made operand.Plain (index_of s.locals w)

abbrev pub in_parts : Option (Word × Word) → List Word
in_parts None = []
in_parts (Some p) = in_index p.1

-- the local that the word of an operand mentions, if any
unfoldable pub in_operand : Word → List Word
in_operand w = if has_bracket w then in_parts (cell_parts w) else in_index w

abbrev pub operator_word : Operator → Word
operator_word Add = codes "+"
operator_word Subtract = codes "-"
operator_word Multiply = codes "*"
operator_word Divide = codes "/"
operator_word Remainder = codes "%"
operator_word Below = codes "<"
operator_word AtMost = codes "<="
operator_word Equal = codes "=="
operator_word NotEqual = codes "!="

-- the operator that a word says
unfoldable pub operator_of : Word → Result Operator Code
operator_of w =
    if bytes_eq w (codes "+") then Ok Add
    else if bytes_eq w (codes "-") then Ok Subtract
    else if bytes_eq w (codes "*") then Ok Multiply
    else if bytes_eq w (codes "/") then Ok Divide
    else if bytes_eq w (codes "%") then Ok Remainder
    else if bytes_eq w (codes "<") then Ok Below
    else if bytes_eq w (codes "<=") then Ok AtMost
    else if bytes_eq w (codes "==") then Ok Equal
    else if bytes_eq w (codes "!=") then Ok NotEqual
    else Err BadLine

abbrev pub expr_words : Names → Expr → Words
expr_words s (One a) = operand_word s a ∷ []
expr_words s (Two a op b) = operand_word s a ∷ operator_word op ∷ operand_word s b ∷ []

abbrev pub two : (Operand × Operator) × Operand → Expr
two p = Two p.0.0 p.0.1 p.1

-- the expression that words say
abbrev pub expr_of : Names → Words → Result Expr Code
expr_of s (a ∷ []) = made One (operand_of s a)
expr_of s (a ∷ op ∷ b ∷ []) = made two (both (both (operand_of s a) (operator_of op)) (operand_of s b))
expr_of s _ = Err BadLine

-- the locals that the words of an expression mention
abbrev pub in_expr : Words → List Word
in_expr (a ∷ []) = in_operand a
in_expr (a ∷ op ∷ b ∷ []) = in_operand a ++ in_operand b
in_expr _ = []

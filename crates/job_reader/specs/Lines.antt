-- Lines of a body as words.
use Rattle.std.specs.Prelude.{
  ℕ,
  Bool,
  true,
  ◌&&◌,
  ◌||◌,
  not,
  nat_lt,
  length,
  ◌==◌,
  if◌then◌else◌,
  List,
  [],
  ◌∷◌,
  ◌++◌,
  codes,
  Option,
  Some,
  None,
  Result,
  Ok,
  Err,
  unwrap_or,
}
use Rattle.std.specs.Str.{bytes_eq}
use Rattle.std.specs.List.{list_all}
use Rattle.superstep_memory.specs.declared.arrays.PutKind.{PutKind}
use Rattle.superstep_memory.specs.declared.arrays.PutKind.TheVariants.{Set, Add}
use Rattle.task_code.specs.Limits.{is_expr, is_action, is_set}
use Rattle.task_code.specs.Mentions.{in_line}
use Rattle.text_lines.specs.declared.refusal.Code.{Code}
use Rattle.text_lines.specs.declared.refusal.Code.TheVariants.{BadLine, BadNesting, UnknownLine}
use Rattle.task_code.specs.declared.code.Cell.{Cell}
use Rattle.task_code.specs.declared.code.Expr.{Expr}
use Rattle.task_code.specs.declared.code.Action.{Action}
use Rattle.task_code.specs.declared.code.Action.TheVariants as action
use Rattle.task_code.specs.declared.code.Line.{Line}
use Rattle.task_code.specs.declared.code.Line.TheVariants as line
use Rattle.job_reader.specs.declared.lines.Keyword.{Keyword}
use Rattle.job_reader.specs.declared.lines.Keyword.TheVariants.{Let, Put, Print, Spawn, Sync, Stop, If, Else, While, End}
use Rattle.job_reader.specs.Faults.{both, made, checked}
use Rattle.job_reader.specs.Words.{Word, Words, named, place_from, declared_at, name_at}
use Rattle.job_reader.specs.Exprs.{Names, cell_word, cell_of, expr_words, expr_of, in_operand, in_expr}

-- the first word of a line in a body
unfoldable pub keyword_of : Word → Option Keyword
keyword_of w =
    if bytes_eq w (codes "let") then Some Let
    else if bytes_eq w (codes "put") then Some (Put Set)
    else if bytes_eq w (codes "add") then Some (Put Add)
    else if bytes_eq w (codes "print") then Some Print
    else if bytes_eq w (codes "spawn") then Some Spawn
    else if bytes_eq w (codes "sync") then Some Sync
    else if bytes_eq w (codes "stop") then Some Stop
    else if bytes_eq w (codes "if") then Some If
    else if bytes_eq w (codes "else") then Some Else
    else if bytes_eq w (codes "while") then Some While
    else if bytes_eq w (codes "end") then Some End
    else None

-- whether format 1 has lines that begin so: it has no `add`
abbrev pub is_of_first : Keyword → Bool
is_of_first (Put kind) = is_set kind
is_of_first _ = true

-- the first words of lines in a body that a format has
abbrev pub known_in : ℕ → Option Keyword → Option Keyword
known_in format None = None
known_in format (Some k) = if is_of_first k || not (format == 1) then Some k else None

abbrev pub kind_word : PutKind → Word
kind_word Set = codes "put"
kind_word Add = codes "add"

-- how lines are written; the ends of an `if` and of a `while` are the same word, and jumps aren't written
abbrev pub action_words : Names → Action → Words
action_words s (action.Let i e) = codes "let" ∷ name_at s.locals i ∷ codes "=" ∷ expr_words s e
action_words s (action.Put kind c e) = kind_word kind ∷ cell_word s c ∷ codes "=" ∷ expr_words s e
action_words s (action.Print e) = codes "print" ∷ expr_words s e
action_words s (action.Spawn b e) = codes "spawn" ∷ name_at s.bodies b ∷ expr_words s e
action_words s action.Sync = codes "sync" ∷ []
action_words s action.Stop = codes "stop" ∷ []

abbrev pub end_words : Words
end_words = codes "end" ∷ []

abbrev pub line_words : Names → Line → Words
line_words s (line.Do a) = action_words s a
line_words s (line.If e n) = codes "if" ∷ expr_words s e
line_words s (line.Else n) = codes "else" ∷ []
line_words s line.EndIf = end_words
line_words s (line.While e n) = codes "while" ∷ expr_words s e
line_words s (line.EndWhile e n) = end_words

abbrev pub is_equals : Word → Result (Unit {0}) Code
is_equals w = checked (bytes_eq w (codes "=")) BadLine

-- the place of a body, or 0 if there is none: the reader checks that at the end of the text
abbrev pub body_at : List Word → Word → Result ℕ Code
body_at bodies w = made (λ _. unwrap_or (place_from 0 bodies w) 0) (named w)

abbrev pub let_line : (Unit {0} × ℕ) × Expr → Line
let_line p = line.Do (action.Let p.0.1 p.1)

abbrev pub put_line : PutKind → (Cell × Unit {0}) × Expr → Line
put_line kind p = line.Do (action.Put kind p.0.0 p.1)

abbrev pub spawn_line : ℕ × Expr → Line
spawn_line p = line.Do (action.Spawn p.0 p.1)

abbrev pub let_of : Names → Words → Result Line Code
let_of s (name ∷ is ∷ ws) = made let_line (both (both (is_equals is) (declared_at s.locals name)) (expr_of s ws))
let_of s _ = Err BadLine

abbrev pub put_of : Names → PutKind → Words → Result Line Code
put_of s kind (cell ∷ is ∷ ws) = made (put_line kind) (both (both (cell_of s cell) (is_equals is)) (expr_of s ws))
put_of s kind _ = Err BadLine

abbrev pub spawn_of : Names → Words → Result Line Code
spawn_of s [] = Err BadLine
spawn_of s (body ∷ ws) = made spawn_line (both (body_at s.bodies body) (expr_of s ws))

-- a line of one word
abbrev pub alone : Line → Words → Result Line Code
alone l [] = Ok l
alone l (w ∷ ws) = Err BadLine

-- an `else`, if one fits here
abbrev pub else_of : Bool → Words → Result Line Code
else_of fits ws = made (λ p. p.1) (both (checked fits BadNesting) (alone (line.Else 0) ws))

-- a line in a body, from its keyword and the words after it; `fits` says whether an `else` may be here
unfoldable pub line_behind : Names → Bool → Option Keyword → Words → Result Line Code
line_behind s fits None ws = Err UnknownLine
line_behind s fits (Some Let) ws = let_of s ws
line_behind s fits (Some (Put kind)) ws = put_of s kind ws
line_behind s fits (Some Print) ws = made (λ e. line.Do (action.Print e)) (expr_of s ws)
line_behind s fits (Some Spawn) ws = spawn_of s ws
line_behind s fits (Some Sync) ws = alone (line.Do action.Sync) ws
line_behind s fits (Some Stop) ws = alone (line.Do action.Stop) ws
line_behind s fits (Some If) ws = made (λ e. line.If e 0) (expr_of s ws)
line_behind s fits (Some Else) ws = else_of fits ws
line_behind s fits (Some While) ws = made (λ e. line.While e 0) (expr_of s ws)
line_behind s fits (Some End) ws = alone line.EndIf ws

-- the line that words in a body say
abbrev pub line_of : Names → Bool → Words → Result Line Code
line_of s fits [] = Err UnknownLine
line_of s fits (k ∷ ws) = line_behind s fits (keyword_of k) ws

abbrev pub in_let : Words → List Word
in_let (name ∷ is ∷ ws) = name ∷ in_expr ws
in_let _ = []

abbrev pub in_put : Words → List Word
in_put (cell ∷ is ∷ ws) = in_operand cell ++ in_expr ws
in_put _ = []

abbrev pub in_spawn : Words → List Word
in_spawn [] = []
in_spawn (body ∷ ws) = in_expr ws

-- the locals that a line mentions, from left to right
unfoldable pub mentions_behind : Option Keyword → Words → List Word
mentions_behind (Some Let) ws = in_let ws
mentions_behind (Some (Put kind)) ws = in_put ws
mentions_behind (Some Print) ws = in_expr ws
mentions_behind (Some Spawn) ws = in_spawn ws
mentions_behind (Some If) ws = in_expr ws
mentions_behind (Some While) ws = in_expr ws
mentions_behind _ ws = []

abbrev pub mentions_of : Words → List Word
mentions_of [] = []
mentions_of (k ∷ ws) = mentions_behind (keyword_of k) ws

-- the arrays and bodies that a line names are among the first `n` and `m`; the end of a loop doesn't repeat its test
abbrev pub line_names : ℕ → ℕ → Line → Bool
line_names n m (line.Do a) = is_action n m a
line_names n m (line.If e j) = is_expr n e
line_names n m (line.While e j) = is_expr n e
line_names n m _ = true

-- the arrays, bodies and locals that a line names exist
abbrev pub line_fits : Names → Line → Bool
line_fits s l = line_names (length s.arrays) (length s.bodies) l && list_all (λ i. nat_lt i (length s.locals)) (in_line l)

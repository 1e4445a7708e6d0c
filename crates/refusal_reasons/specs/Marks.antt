-- What a fault of a line of a job is about (own): a word, or the array or the index of a cell. Each is read as the reader of jobs
-- reads it.
use Rattle.std.specs.Prelude.{ℕ, ◌+◌, ◌==◌, ◌||◌, if◌then◌else◌, [], ◌∷◌, ◌++◌, take, codes, Option, Some, None, Result, Ok, Err}
use Rattle.std.specs.Option.{option_map, option_or}
use Rattle.std.specs.Str.{bytes_eq}
use Rattle.text_lines.specs.Number.{begins_number}
use Rattle.text_lines.specs.Refusals.{code_number}
use Rattle.text_lines.specs.declared.refusal.Code.{Code}
use Rattle.text_lines.specs.declared.refusal.Code.TheVariants.{BadName, BadNumber, UnknownName, Twice, BadLength, Reserved}
use Rattle.task_code.specs.Names.{is_among}
use Rattle.job_reader.specs.Exprs.{cell_parts, has_bracket}
use Rattle.job_reader.specs.Lines.{keyword_of}
use Rattle.job_reader.specs.Views.{lent}
use Rattle.job_reader.specs.Words.{Word, Words, declared_at, named, numbered}
use Rattle.job_reader.specs.declared.lines.Keyword.{Keyword}
use Rattle.job_reader.specs.declared.lines.Keyword.TheVariants.{Let, Put, Print, Spawn, If, While}
use Rattle.refusal_reasons.specs.declared.known.Known.{Known as Borrowed}
use Rattle.refusal_reasons.specs.declared.marks.Mark.{Mark}
use Rattle.refusal_reasons.specs.declared.marks.Part.{Part}
use Rattle.refusal_reasons.specs.declared.marks.Part.TheVariants.{Whole, Array, Index}

-- the names that a line may use: the arrays above it, and the locals of its body; none, if any name may be a local
pub record Known : Type 0 where
  pub arrays : Words
  pub locals : Option Words

abbrev pub known_in : Borrowed → Known
known_in k = record { arrays = lent k.arrays.now; locals = option_map (λ l. lent l.now) k.locals }

-- a part of a word, if it is refused by this code
abbrev pub at_fault : {A : Type 0} → Code → ℕ → Part → Result A Code → Option Mark
at_fault code n part (Ok a) = None
at_fault code n part (Err c) = if code_number c == code_number code then Some (record { word = n; part = part }) else None

abbrev pub local_mark : Option Words → Code → ℕ → Part → Word → Option Mark
local_mark None code n part w = at_fault code n part (named w)
local_mark (Some locals) code n part w = at_fault code n part (declared_at locals w)

abbrev pub index_mark : Known → Code → ℕ → Part → Word → Option Mark
index_mark k code n part w =
    if begins_number w then at_fault code n part (numbered w)
    else if bytes_eq w (codes "arg") || bytes_eq w (codes "step") then None
    else local_mark k.locals code n part w

-- the name of a cell's array, or its index
abbrev pub cell_mark : Known → Code → ℕ → Option (Word × Word) → Option Mark
cell_mark k code n None = None
cell_mark k code n (Some p) = option_or (at_fault code n Array (declared_at k.arrays p.0)) (index_mark k code n Index p.1)

abbrev pub operand_mark : Known → Code → ℕ → Word → Option Mark
operand_mark k code n w = if has_bracket w then cell_mark k code n (cell_parts w) else index_mark k code n Whole w

-- the operands of an expression, whose first word has this number
abbrev pub expr_mark : Known → Code → ℕ → Words → Option Mark
expr_mark k code n (a ∷ []) = operand_mark k code n a
expr_mark k code n (a ∷ op ∷ b ∷ []) = option_or (operand_mark k code n a) (operand_mark k code (n + 2) b)
expr_mark k code n _ = None

abbrev pub let_mark : Known → Code → Words → Option Mark
let_mark k code (name ∷ is ∷ ws) = option_or (local_mark k.locals code 1 Whole name) (expr_mark k code 3 ws)
let_mark k code _ = None

abbrev pub put_mark : Known → Code → Words → Option Mark
put_mark k code (cell ∷ is ∷ ws) = option_or (cell_mark k code 1 (cell_parts cell)) (expr_mark k code 3 ws)
put_mark k code _ = None

abbrev pub spawn_mark : Known → Code → Words → Option Mark
spawn_mark k code [] = None
spawn_mark k code (body ∷ ws) = option_or (at_fault code 1 Whole (named body)) (expr_mark k code 2 ws)

-- a line in a body, from its keyword and the words after it, of which the first has number 1
abbrev pub inner_mark : Known → Code → Keyword → Words → Option Mark
inner_mark k code Let ws = let_mark k code ws
inner_mark k code (Put kind) ws = put_mark k code ws
inner_mark k code Print ws = expr_mark k code 1 ws
inner_mark k code Spawn ws = spawn_mark k code ws
inner_mark k code If ws = expr_mark k code 1 ws
inner_mark k code While ws = expr_mark k code 1 ws
inner_mark k code _ ws = None

-- the first of the words that is no number, and that is no name, if the first of them has this number
abbrev pub number_mark : Code → ℕ → Words → Option Mark
number_mark code n [] = None
number_mark code n (w ∷ ws) = option_or (at_fault code n Whole (numbered w)) (number_mark code (n + 1) ws)

abbrev pub name_mark : Code → ℕ → Words → Option Mark
name_mark code n [] = None
name_mark code n (w ∷ ws) = option_or (at_fault code n Whole (named w)) (name_mark code (n + 1) ws)

abbrev pub array_mark : Code → Words → Option Mark
array_mark code [] = None
array_mark code (name ∷ values) = option_or (at_fault code 1 Whole (named name)) (number_mark code 2 values)

abbrev pub start_mark : Code → Words → Option Mark
start_mark code [] = None
start_mark code (body ∷ ws) = option_or (at_fault code 1 Whole (named body)) (number_mark code 2 ws)

-- a line outside bodies
abbrev pub outer_mark : Code → Word → Words → Option Mark
outer_mark code w ws =
    if bytes_eq w (codes "array") then array_mark code ws
    else if bytes_eq w (codes "body") then name_mark code 1 ws
    else if bytes_eq w (codes "start") then start_mark code ws
    else None

abbrev pub mark_behind : Known → Code → Word → Option Keyword → Words → Option Mark
mark_behind k code w None ws = outer_mark code w ws
mark_behind k code w (Some keyword) ws = inner_mark k code keyword ws

-- the first part of a line that is refused by this code
abbrev pub read_mark : Known → Code → Words → Option Mark
read_mark k code [] = None
read_mark k code (w ∷ ws) = mark_behind k code w (keyword_of w) ws

abbrev pub word_mark : ℕ → Mark
word_mark n = record { word = n; part = Whole }

-- the first word that is among those before it, if the first of them has this number
abbrev pub repeated : Words → ℕ → Words → Option Mark
repeated seen n [] = None
repeated seen n (w ∷ ws) = if is_among seen w then Some (word_mark n) else repeated (seen ++ w ∷ []) (n + 1) ws

-- a body's local that is listed twice, one of the first 33, as more than 32 are too many; else the name of the array or body
abbrev pub twice_mark : Words → Mark → Option Mark
twice_mark (k ∷ b ∷ ws) name = if bytes_eq k (codes "body") then option_or (repeated [] 2 (take 33 ws)) (Some name) else Some name
twice_mark _ name = Some name

-- What a fault of this code is about: a name or a number, a name that is there twice, a length, or a body that isn't there. None is the
-- whole line.
abbrev pub mark_on : Known → Code → Words → Option Mark
mark_on k BadName ws = read_mark k BadName ws
mark_on k BadNumber ws = read_mark k BadNumber ws
mark_on k Reserved ws = read_mark k Reserved ws
mark_on k UnknownName ws = option_or (read_mark k UnknownName ws) (Some (word_mark 1))
mark_on k Twice ws = twice_mark ws (word_mark 1)
mark_on k BadLength ws = Some (word_mark 2)
mark_on k code ws = None

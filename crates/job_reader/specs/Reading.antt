-- What a text says as a job, or its first refusal.
use Rattle.std.specs.Prelude.{◌==◌, ℕ, ◌+◌, ◌-◌, Bool, true, false, not, ◌&&◌, ◌||◌, nat_le, nat_lt, if◌then◌else◌, List, [], ◌∷◌, ◌++◌, length, take, replicate, codes, Option, Some, None, Result, Ok, Err, ℤ, pos, negsuc}
use Rattle.std.specs.List.{filter_map, list_all, list_any}
use Rattle.std.specs.Str.{bytes_eq}
pub use Rattle.text_lines.specs.Reading.{◌>>=◌, refused, at, unless_bad}
use Rattle.text_lines.specs.declared.refusal.Code.{Code}
use Rattle.text_lines.specs.declared.refusal.Code.TheVariants.{TooLong, BadHeader, UnknownLine, BadLine, Twice, UnknownName, Unclosed, TooMany, BadLength, BadName, Reserved}
use Rattle.text_lines.specs.declared.refusal.Refusal.{Refusal}
use Rattle.text_lines.specs.Limits.{most_bytes}
use Rattle.text_lines.specs.Text.{lines_of, words_of, is_skipped, bad_byte_line}
use Rattle.job_reader.specs.Faults.{both, made}
use Rattle.job_reader.specs.Words.{Word, Words, named, numbered}
use Rattle.job_reader.specs.declared.lines.Keyword.{Keyword}
use Rattle.job_reader.specs.Lines.{body_at, keyword_of, known_in, line_behind, mentions_behind}
use Rattle.task_code.specs.Names.{is_name, is_reserved, is_among}
use Rattle.task_code.specs.Limits.{opened}
use Rattle.task_code.specs.Tree.{Block}
use Rattle.task_code.specs.Open.{Frame, step_of}
use Rattle.task_code.specs.declared.code.Line.{Line}
use Rattle.task_code.specs.declared.job.Start.{Start}
use Rattle.job_reader.specs.declared.outer.Outer.{Outer}
use Rattle.job_reader.specs.declared.outer.Outer.TheVariants as outer
use Rattle.job_reader.specs.Trees.{JobTree, array_names, body_names}
use Rattle.job_reader.specs.Grammar.{locals_behind}
use Rattle.job_reader.specs.Limits.{most_cells, most_starts}
use Rattle.job_reader.specs.Above.{Inside, Above, nothing, can_else, begun, statements_behind, grown, ended}

-- the format that a word says
abbrev pub format_in : Word → Option ℕ
format_in w = if bytes_eq w (codes "1") then Some 1 else if bytes_eq w (codes "2") then Some 2 else None

-- the format that the first line says
abbrev pub format_of : Words → Option ℕ
format_of (a ∷ b ∷ []) = if bytes_eq a (codes "bsp") then format_in b else None
format_of _ = None

-- the first word of a line outside bodies
unfoldable pub outer_of : Word → Option Outer
outer_of w =
    if bytes_eq w (codes "array") then Some outer.Array
    else if bytes_eq w (codes "body") then Some outer.Body
    else if bytes_eq w (codes "start") then Some outer.Start
    else None

-- the name that a line gives to a body, if it is such a line
abbrev pub name_if_body : Option Outer → Words → Option Word
name_if_body (Some outer.Body) (name ∷ ws) = Some name
name_if_body _ _ = None

abbrev pub declared_by : Words → Option Word
declared_by [] = None
declared_by (k ∷ ws) = name_if_body (outer_of k) ws

-- the bodies of a text in declared order: a body may be named before its line
abbrev pub declared : List (List ℕ) → List Word
declared lines = take 64 (filter_map (λ l. declared_by (words_of l)) lines)

-- numbers in front of those that are read
abbrev pub with_front : List ℤ → Result (List ℤ) Code → Result (List ℤ) Code
with_front front read = read >>= λ ns. Ok (front ++ ns)

-- values as numbers
abbrev pub all_numbered : Words → Result (List ℤ) Code
all_numbered [] = Ok []
all_numbered (w ∷ ws) = numbered w >>= λ n. all_numbered ws >>= λ ns. Ok (n ∷ ns)

-- at least one cell and at most the limit; the values that are left out are 0
abbrev pub filled : ℤ × List ℤ → Result (List ℤ) Code
filled (negsuc n, values) = Err BadLength
filled (pos n, values) =
    if nat_le 1 n && nat_le n most_cells && nat_le (length values) n then Ok (values ++ replicate (n - length values) (pos 0))
    else Err BadLength

abbrev pub cells_of : Word → Words → Result (List ℤ) Code
cells_of len values = both (numbered len) (all_numbered values) >>= filled

abbrev pub array_of : Words → Result (Word × List ℤ) Code
array_of (name ∷ len ∷ values) = made (λ p. (name, p.1)) (both (named name) (cells_of len values))
array_of _ = Err BadLine

-- names; none of them is reserved
abbrev pub all_named : Words → Result (Unit {0}) Code
all_named ws = if list_any is_reserved ws then Err Reserved else if list_all is_name ws then Ok tt else Err BadName

-- whether a body line may have these after the name: format 1 has none
abbrev pub may_list : ℕ → Words → Bool
may_list format [] = true
may_list format (w ∷ ws) = not (format == 1)

-- the name of a body, and the locals that its line lists
abbrev pub body_of : ℕ → Words → Result (Word × List Word) Code
body_of format [] = Err BadLine
body_of format (name ∷ locals) =
    if may_list format locals then made (λ _. (name, locals)) (both (named name) (all_named locals)) else Err BadLine

-- no word is there twice
abbrev pub are_apart : Words → Bool
are_apart [] = true
are_apart (w ∷ ws) = not (is_among ws w) && are_apart ws

abbrev pub start_from : ℕ × ℤ → Start
start_from p = record { body = p.0; arg = p.1 }

abbrev pub start_of : List Word → Words → Result Start Code
start_of bodies (body ∷ n ∷ []) = made start_from (both (body_at bodies body) (numbered n))
start_of bodies _ = Err BadLine

-- an array with a name that no array has yet, of at most 16
abbrev pub with_array : JobTree → Word × List ℤ → Result JobTree Code
with_array j x =
    if is_among (array_names j) x.0 then Err Twice
    else if nat_le 16 (length (array_names j)) then Err TooMany
    else Ok (record j { arrays = j.arrays ++ x ∷ [] })

-- a body with a name that no body has yet, of at most 64; it lists at most 32 locals, each once
abbrev pub new_body : JobTree → Word × List Word → Result Inside Code
new_body j head =
    if is_among (body_names j) head.0 || not (are_apart head.1) then Err Twice
    else if nat_le 64 (length (body_names j)) || nat_lt 32 (length head.1) then Err TooMany
    else Ok (begun head)

-- a start line, up to the limit
abbrev pub with_start : JobTree → Start → Result JobTree Code
with_start j s = if nat_le most_starts (length j.starts) then Err TooMany else Ok (record j { starts = j.starts ++ s ∷ [] })

abbrev pub array_line : JobTree → Words → Result JobTree Code
array_line j ws = array_of ws >>= with_array j

abbrev pub body_line : JobTree → Words → Result Inside Code
body_line j ws = body_of j.format ws >>= new_body j

abbrev pub start_line : List Word → JobTree → Words → Result JobTree Code
start_line bodies j ws = start_of bodies ws >>= with_start j

-- a line outside bodies: the job after it, and the body that it opens
abbrev pub outer_line : List Word → JobTree → Option Outer → Words → Result (JobTree × Option Inside) Code
outer_line bodies j None ws = Err UnknownLine
outer_line bodies j (Some outer.Array) ws = made (λ k. (k, None)) (array_line j ws)
outer_line bodies j (Some outer.Body) ws = made (λ o. (j, Some o)) (body_line j ws)
outer_line bodies j (Some outer.Start) ws = made (λ k. (k, None)) (start_line bodies j ws)

-- at most 1024 statements, 32 locals and 16 lines open at once
abbrev pub is_over : ℕ → ℕ → ℕ → Bool
is_over statements locals open_lines = nat_lt 1024 statements || nat_lt 32 locals || nat_lt 16 open_lines

abbrev pub within_limits : Inside → Line → Result Line Code
within_limits o l =
    if is_over (statements_behind o.statements l) (length o.locals) (opened (length o.frames) l) then Err TooMany else Ok l

-- the job and the open body after a line in it, by what the line made of the open lines: nothing if it ends the body
abbrev pub behind : JobTree → Inside → ℕ → Option (List Frame × Block) → JobTree × Option Inside
behind j o statements None = (record j { bodies = j.bodies ++ ended o ∷ [] }, None)
behind j o statements (Some s) = (j, Some (grown o statements s))

abbrev pub with_line : JobTree → Inside → Line → JobTree × Option Inside
with_line j o l = behind j o (statements_behind o.statements l) (step_of l o.frames o.block)

-- the open body with its locals after a line
abbrev pub mentioning : ℕ → Inside → Option Keyword → Words → Inside
mentioning format o k ws = record o { locals = locals_behind format o.locals (mentions_behind k ws) }

-- the line that words say in an open body with its locals after that line
abbrev pub said : List Word → List Word → Inside → Option Keyword → Words → Result Line Code
said arrays bodies o k ws =
    line_behind (record { arrays = arrays; bodies = bodies; locals = o.locals }) (can_else o.frames) k ws >>= within_limits o

-- a line in a body with its locals after that line
abbrev pub noted_line : List Word → JobTree → Inside → Option Keyword → Words → Result (JobTree × Option Inside) Code
noted_line bodies j o k ws = made (with_line j o) (said (array_names j) bodies o k ws)

abbrev pub inner_line : List Word → JobTree → Inside → Option Keyword → Words → Result (JobTree × Option Inside) Code
inner_line bodies j o k ws = noted_line bodies j (mentioning j.format o k ws) k ws

abbrev pub any_line : List Word → JobTree → Option Inside → Words → Result (JobTree × Option Inside) Code
any_line bodies j i [] = Err UnknownLine
any_line bodies j (Some o) (k ∷ ws) = inner_line bodies j o (known_in j.format (keyword_of k)) ws
any_line bodies j None (k ∷ ws) = outer_line bodies j (outer_of k) ws

-- whether a line names a body that doesn't exist
abbrev pub is_missing : List Word → Words → Bool
is_missing bodies (k ∷ b ∷ ws) = (bytes_eq k (codes "spawn") || bytes_eq k (codes "start")) && not (is_among bodies b)
is_missing bodies _ = false

abbrev pub first_missing : Option ℕ → ℕ → Bool → Option ℕ
first_missing (Some n) line b = Some n
first_missing None line b = if b then Some line else None

-- what a line makes of the lines above it
abbrev pub line_step : List Word → ℕ → Above → Words → Result Above Code
line_step bodies line a ws =
    made (λ p. record { job = p.0; inside = p.1; missing = first_missing a.missing line (is_missing bodies ws) })
    (any_line bodies a.job a.inside ws)

abbrev pub kept_step : List Word → ℕ → Above → Words → Result Above Code
kept_step bodies line a ws = if is_skipped ws then Ok a else line_step bodies line a ws

-- no body is open, and each that is named exists
abbrev pub finished : ℕ → Above → Option Inside → Option ℕ → Result JobTree Refusal
finished line a (Some o) missing = refused line Unclosed
finished line a None (Some n) = refused n UnknownName
finished line a None None = Ok a.job

-- the lines from this number on, after the lines above
abbrev pub read_lines : List Word → ℕ → Above → List (List ℕ) → Result JobTree Refusal
read_lines bodies line a [] = finished line a a.inside a.missing
read_lines bodies line a (l ∷ ls) =
    at line (kept_step bodies line a (words_of l)) >>= λ b. read_lines bodies (line + 1) b ls

-- the lines after the first one, which has this number, by the format that it says
abbrev pub read_behind : List Word → ℕ → Option ℕ → List (List ℕ) → Result JobTree Refusal
read_behind bodies line None ls = refused line BadHeader
read_behind bodies line (Some format) ls = read_lines bodies (line + 1) (nothing format) ls

-- the first line, and the lines after it
abbrev pub read_from : List Word → ℕ → List (List ℕ) → Result JobTree Refusal
read_from bodies line [] = refused line BadHeader
read_from bodies line (l ∷ ls) =
    if is_skipped (words_of l) then read_from bodies (line + 1) ls
    else read_behind bodies line (format_of (words_of l)) ls

-- What a text says: its length is checked first, then its bytes, then line by line.
unfoldable pub job_in : List ℕ → Result JobTree Refusal
job_in text =
    if nat_lt most_bytes (length text) then refused 1 TooLong
    else unless_bad (bad_byte_line 1 text) (read_from (declared (lines_of text)) 1 (lines_of text))

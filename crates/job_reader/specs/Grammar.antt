-- How a job is written, as lines of words, and which texts are a job's (own).
use Rattle.std.specs.Prelude.{◌≡◌, ◌≤◌, ◌<◌, ℕ, ◌-◌, ◌==◌, ◌||◌, not, Bool, true, List, [], ◌∷◌, ◌++◌, length, codes, map, replicate, ℤ, pos, if◌then◌else◌}
use Rattle.std.specs.List.{flat_map, list_all}
use Rattle.std.specs.Fmt.{decimal, signed_decimal}
use Rattle.text_lines.specs.Text.{words_of, is_skipped}
use Rattle.task_code.specs.Limits.{is_of_first}
use Rattle.task_code.specs.declared.code.Line.{Line}
use Rattle.task_code.specs.Tree.{Block, Done, Do, If, IfElse, While, flat}
use Rattle.task_code.specs.declared.job.Start.{Start}
use Rattle.job_reader.specs.Words.{Word, Words, name_at}
pub use Rattle.job_reader.specs.Words.{locals_behind}
use Rattle.job_reader.specs.Exprs.{Names, expr_words}
use Rattle.job_reader.specs.Lines.{action_words, end_words, line_fits, mentions_of}
use Rattle.job_reader.specs.Trees.{BodyTree, JobTree, array_names, body_names}

-- the lines of statements
abbrev pub block_lines : Names → Block → List Words
block_lines s Done = []
block_lines s (Do a r) = action_words s a ∷ block_lines s r
block_lines s (If e a r) = (codes "if" ∷ expr_words s e) ∷ (block_lines s a ++ end_words ∷ block_lines s r)
block_lines s (IfElse e a b r) =
    (codes "if" ∷ expr_words s e) ∷ (block_lines s a ++ (codes "else" ∷ []) ∷ (block_lines s b ++ end_words ∷ block_lines s r))
block_lines s (While e a r) = (codes "while" ∷ expr_words s e) ∷ (block_lines s a ++ end_words ∷ block_lines s r)

abbrev pub header_words : ℕ → Words
header_words format = codes "bsp" ∷ decimal format ∷ []

-- an array of this many cells, with values for the first ones
abbrev pub array_words : Word → ℕ → List ℤ → Words
array_words name len values = codes "array" ∷ name ∷ decimal len ∷ map signed_decimal values

-- the locals that a body line lists: none in format 1, and all in format 2
abbrev pub listed_in : ℕ → List Word → List Word
listed_in format locals = if format == 1 then [] else locals

-- the first line of a body
abbrev pub body_words : ℕ → Word → List Word → Words
body_words format name locals = codes "body" ∷ name ∷ listed_in format locals

abbrev pub start_words : List Word → Start → Words
start_words bodies s = codes "start" ∷ name_at bodies s.body ∷ signed_decimal s.arg ∷ []

-- a body, if these arrays are above it, and these are the bodies of the text
abbrev pub names_above : List Word → List Word → BodyTree → Names
names_above arrays bodies b = record { arrays = arrays; bodies = bodies; locals = b.locals }

abbrev pub body_lines : ℕ → List Word → List Word → BodyTree → List Words
body_lines format arrays bodies b =
    body_words format b.name b.locals ∷ (block_lines (names_above arrays bodies b) b.block ++ end_words ∷ [])

-- What is outside bodies, in the order of the text: an array with the values that its line gives and its cells, a body,
-- a start line.
pub data Item : Type 0 where
  AnArray : Word → List ℤ → List ℤ → Item
  ABody : BodyTree → Item
  AStart : Start → Item

-- the lines of items, if these arrays are above them
module _ (format : ℕ) where
  abbrev pub items_lines : List Word → List Word → List Item → List Words
  items_lines arrays bodies [] = []
  items_lines arrays bodies (AnArray name given cells ∷ is) =
      array_words name (length cells) given ∷ items_lines (arrays ++ name ∷ []) bodies is
  items_lines arrays bodies (ABody b ∷ is) = body_lines format arrays bodies b ++ items_lines arrays bodies is
  items_lines arrays bodies (AStart s ∷ is) = start_words bodies s ∷ items_lines arrays bodies is

-- the locals of a body whose first line lists these, after its lines
abbrev pub locals_by : ℕ → List Word → List Words → List Word
locals_by format listed lines = locals_behind format listed (flat_map mentions_of lines)

-- the lines that a format has
abbrev pub is_in_format : ℕ → Line → Bool
is_in_format format l = is_of_first l || not (format == 1)

-- A body names only arrays above it, bodies of the text, and its locals: those that its first line lists, and in format
-- 1 those that it mentions, in the order of their first mentions. It has no add in format 1.
pub record IsSoundBody (format : ℕ) (arrays bodies : List Word) (b : BodyTree) : Type 0 where
  pub names : list_all (line_fits (names_above arrays bodies b)) (flat b.block) ≡ true
  pub locals : locals_by format (listed_in format b.locals) (block_lines (names_above arrays bodies b) b.block) ≡ b.locals
  pub lines : list_all (is_in_format format) (flat b.block) ≡ true

-- the values that an array line leaves out are 0
abbrev pub IsFilled : List ℤ → List ℤ → Type 0
IsFilled given cells = (length given ≤ length cells) × (cells ≡ given ++ replicate (length cells - length given) (pos 0))

module _ (format : ℕ) where
  abbrev pub AreSound : List Word → List Word → List Item → Type 0
  AreSound arrays bodies [] = Unit {0}
  AreSound arrays bodies (AnArray name given cells ∷ is) = IsFilled given cells × AreSound (arrays ++ name ∷ []) bodies is
  AreSound arrays bodies (ABody b ∷ is) = IsSoundBody format arrays bodies b × AreSound arrays bodies is
  AreSound arrays bodies (AStart s ∷ is) = (s.body < length bodies) × AreSound arrays bodies is

-- what items say: each kind in its order
abbrev pub with_item : Item → JobTree → JobTree
with_item (AnArray name given cells) j = record j { arrays = (name, cells) ∷ j.arrays }
with_item (ABody b) j = record j { bodies = b ∷ j.bodies }
with_item (AStart s) j = record j { starts = s ∷ j.starts }

abbrev pub no_job : ℕ → JobTree
no_job format = record { format = format; arrays = []; bodies = []; starts = [] }

abbrev pub job_of : ℕ → List Item → JobTree
job_of format [] = no_job format
job_of format (i ∷ is) = with_item i (job_of format is)

-- the lines of a text that aren't skipped
abbrev pub kept : List (List ℕ) → List Words
kept [] = []
kept (l ∷ ls) = if is_skipped (words_of l) then kept ls else words_of l ∷ kept ls

-- The grammar: these lines are a job's if they are its items as they are written. A text is free in the lines that are
-- skipped, in the order of items of different kinds, and in values left out; all else is written in one way. The first
-- line has the format.
pub record IsTextOf (j : JobTree) (lines : List Words) : Type 0 where
  pub items : List Item
  pub written : lines ≡ header_words j.format ∷ items_lines j.format [] (body_names j) items
  pub said : job_of j.format items ≡ j
  pub sound : AreSound j.format [] (body_names j) items

-- the one text of a job: the arrays with all values, the bodies, the start lines
abbrev pub array_lines : List (Word × List ℤ) → List Words
array_lines arrays = map (λ a. array_words a.0 (length a.1) a.1) arrays

module _ (format : ℕ) where
  abbrev pub bodies_lines : List Word → List Word → List BodyTree → List Words
  bodies_lines arrays bodies [] = []
  bodies_lines arrays bodies (b ∷ bs) = body_lines format arrays bodies b ++ bodies_lines arrays bodies bs

abbrev pub start_lines : List Word → List Start → List Words
start_lines bodies starts = map (start_words bodies) starts

abbrev pub canonical : JobTree → List Words
canonical j =
    header_words j.format
    ∷ (array_lines j.arrays ++ (bodies_lines j.format (array_names j) (body_names j) j.bodies ++ start_lines (body_names j) j.starts))

-- single spaces between words, and an LF after each line
abbrev pub spaced : Words → List ℕ
spaced [] = []
spaced (w ∷ ws) = 32 ∷ w ++ spaced ws

abbrev pub line_text : Words → List ℕ
line_text [] = 10 ∷ []
line_text (w ∷ ws) = w ++ spaced ws ++ 10 ∷ []

abbrev pub text_of : List Words → List ℕ
text_of [] = []
text_of (l ∷ ls) = line_text l ++ text_of ls

-- the canonical text of a job
abbrev pub canonical_text : JobTree → List ℕ
canonical_text j = text_of (canonical j)

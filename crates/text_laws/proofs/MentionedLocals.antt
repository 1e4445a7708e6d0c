-- Written lines mention the locals that their code does.
use Rattle.std.proofs.Common.{◌≡◌, ℕ, suc, ◌+◌, ◌<◌, Bool, true, false, List, [], ◌∷◌, ◌++◌, length, map, take, Some, None, Result, Ok, Err, ℤ, refl, sym, ap, ◌∙◌, arith, codes, nat_eq}
use Rattle.std.specs.Prelude.{if◌then◌else◌, nat_lt, ◌||◌}
use Rattle.std.specs.List.{list_all, flat_map}
use Rattle.std.specs.Fmt.{signed_decimal}
use Rattle.std.specs.Str.{bytes_eq}
use Rattle.std.proofs.lemmas.Bool.{ltb-true}
use Rattle.std.proofs.lemmas.List.{map-append}
use Rattle.text_lines.specs.declared.refusal.Code.{Code}
use Rattle.task_code.specs.Names.{is_among, are_names}
use Rattle.task_code.specs.Mentions as mentions
use Rattle.task_code.specs.declared.code.Index.{Index}
use Rattle.task_code.specs.declared.code.Index.TheVariants as index
use Rattle.task_code.specs.declared.code.Cell.{Cell}
use Rattle.task_code.specs.declared.code.Operand.{Operand}
use Rattle.task_code.specs.declared.code.Operand.TheVariants as operand
use Rattle.task_code.specs.declared.code.Expr.{Expr}
use Rattle.task_code.specs.declared.code.Expr.TheVariants.{One, Two}
use Rattle.task_code.specs.declared.code.Action.{Action}
use Rattle.task_code.specs.declared.code.Action.TheVariants as action
use Rattle.task_code.specs.declared.code.Line.{Line}
use Rattle.task_code.specs.declared.code.Line.TheVariants as line
use Rattle.superstep_memory.specs.declared.arrays.PutKind.TheVariants.{Set, Add}
use Rattle.job_reader.specs.Faults.{made}
use Rattle.job_reader.specs.Words.{Word, begins_number, numbered, declared_at, name_at, index_word, index_of, in_index, noted}
use Rattle.job_reader.specs.Exprs.{Names, cell_parts, cell_word, has_bracket, operand_word, expr_words, in_parts, in_operand, in_expr}
use Rattle.job_reader.specs.Lines.{keyword_of, line_words, action_words, mentions_behind, mentions_of}
use Rattle.job_reader.proofs.GrowLemmas.{and-left, and-right}
use Rattle.job_reader.proofs.WrittenLemmas.{names-free, local-written}
use Rattle.text_lines.proofs.NumbersLemmas.{number-begins}
use Rattle.job_reader.proofs.WrittenExprs.{plain-cell, cell-bracket, plain-bracket, name-plain, IndexIs, AreGood, CellIs, OperandIs, ExprIs, index-plain}
use Rattle.job_reader.proofs.WrittenLines.{ActionIs, LineIs}
use Rattle.job_reader.specs.Writing.{code_lines}
use Rattle.job_reader.proofs.NotedNames.{among-below, among-beyond, take-next, same-number}

number-mentions : (w : Word) (a b c : Bool) → a ≡ true → (if a || b || c then [] else w ∷ []) ≡ []
number-mentions w true b c e = refl
number-mentions w false b c e = absurd cc

pub number-none : (w : Word) → begins_number w ≡ true → in_index w ≡ []
unfolding in_index
number-none w e = number-mentions w (begins_number w) (bytes_eq w (codes "arg")) (bytes_eq w (codes "step")) e

local-cases : (w : Word) (i : ℕ) (a b c : Bool) (r : Result ℤ Code) (t : Result Index Code)
    → (if a then made index.Number r else if b then Ok index.Arg else if c then Ok index.Step else t) ≡ Ok (index.Local i)
    → (if a || b || c then [] else w ∷ []) ≡ w ∷ []
local-cases w i true b c (Ok n) t e = absurd cc
local-cases w i true b c (Err d) t e = absurd cc
local-cases w i false true c r t e = absurd cc
local-cases w i false false true r t e = absurd cc
local-cases w i false false false r t e = refl

-- a word that says a local mentions it
local-one : (locals : List Word) (w : Word) (i : ℕ) → index_of locals w ≡ Ok (index.Local i) → in_index w ≡ w ∷ []
unfolding in_index index_of
local-one locals w i e =
    local-cases w i (begins_number w) (bytes_eq w (codes "arg")) (bytes_eq w (codes "step")) (numbered w)
    (made index.Local (declared_at locals w)) e

pub arg-none : in_index (codes "arg") ≡ []
unfolding in_index
arg-none = refl

pub step-none : in_index (codes "step") ≡ []
unfolding in_index
step-none = refl

index-mentions : (locals : List Word) (i : Index) → are_names locals ≡ true → IndexIs locals i
    → in_index (index_word locals i) ≡ map (name_at locals) (mentions.in_index i)
index-mentions locals (index.Number n) g h = number-none (signed_decimal n) (number-begins n h)
index-mentions locals (index.Local i) g h = local-one locals (name_at locals i) i (local-written locals i g h)
index-mentions locals index.Arg g h = arg-none
index-mentions locals index.Step g h = step-none

pub operand-if : (w : Word) (b : Bool) → has_bracket w ≡ b → in_operand w ≡ (if b then in_parts (cell_parts w) else in_index w)
unfolding in_operand
operand-if w b e = ap (λ (x : Bool). if x then in_parts (cell_parts w) else in_index w) e

cell-mentions : (s : Names) (c : Cell) → AreGood s → CellIs s c
    → in_operand (cell_word s c) ≡ map (name_at s.locals) (mentions.in_index c.index)
cell-mentions s c g h =
    let name : Word = name_at s.arrays c.array in
    let at : Word = index_word s.locals c.index in
    let parts : cell_parts (cell_word s c) ≡ Some (name, at) =
    plain-cell name at (name-plain name (names-free s.arrays c.array g.arrays h.0)) (index-plain s.locals c.index g.locals h.1) in
    operand-if (cell_word s c) true (cell-bracket name (at ++ 93 ∷ [])) ∙ ap in_parts parts ∙ index-mentions s.locals c.index g.locals h.1

operand-mentions : (s : Names) (o : Operand) → AreGood s → OperandIs s o
    → in_operand (operand_word s o) ≡ map (name_at s.locals) (mentions.in_operand o)
operand-mentions s (operand.Plain i) g h =
    operand-if (index_word s.locals i) false (plain-bracket (index_word s.locals i) (index-plain s.locals i g.locals h))
    ∙ index-mentions s.locals i g.locals h
operand-mentions s (operand.Cell c) g h = cell-mentions s c g h

expr-mentions : (s : Names) (e : Expr) → AreGood s → ExprIs s e → in_expr (expr_words s e) ≡ map (name_at s.locals) (mentions.in_expr e)
expr-mentions s (One a) g h = operand-mentions s a g h
expr-mentions s (Two a op b) g h =
    ap (λ (x : List Word). x ++ in_operand (operand_word s b)) (operand-mentions s a g h.0)
    ∙ ap (λ (x : List Word). map (name_at s.locals) (mentions.in_operand a) ++ x) (operand-mentions s b g h.1)
    ∙ sym (map-append (name_at s.locals) (mentions.in_operand a) (mentions.in_operand b))

action-mentions : (s : Names) (a : Action) → AreGood s → ActionIs s a
    → mentions_of (action_words s a) ≡ map (name_at s.locals) (mentions.in_action a)
unfolding keyword_of mentions_behind
action-mentions s (action.Let i e) g h = ap (λ (x : List Word). name_at s.locals i ∷ x) (expr-mentions s e g h.1)
action-mentions s (action.Put Set c e) g h =
    ap (λ (x : List Word). x ++ in_expr (expr_words s e)) (cell-mentions s c g h.0)
    ∙ ap (λ (x : List Word). map (name_at s.locals) (mentions.in_index c.index) ++ x) (expr-mentions s e g h.1)
    ∙ sym (map-append (name_at s.locals) (mentions.in_index c.index) (mentions.in_expr e))
action-mentions s (action.Put Add c e) g h =
    ap (λ (x : List Word). x ++ in_expr (expr_words s e)) (cell-mentions s c g h.0)
    ∙ ap (λ (x : List Word). map (name_at s.locals) (mentions.in_index c.index) ++ x) (expr-mentions s e g h.1)
    ∙ sym (map-append (name_at s.locals) (mentions.in_index c.index) (mentions.in_expr e))
action-mentions s (action.Print e) g h = expr-mentions s e g h
action-mentions s (action.Spawn b e) g h = expr-mentions s e g h.1
action-mentions s action.Sync g h = refl
action-mentions s action.Stop g h = refl

line-mentions : (s : Names) (l : Line) → AreGood s → LineIs s true l
    → mentions_of (line_words s l) ≡ map (name_at s.locals) (mentions.in_line l)
unfolding keyword_of mentions_behind
line-mentions s (line.Do a) g h = action-mentions s a g h
line-mentions s (line.If e n) g h = expr-mentions s e g h
line-mentions s (line.Else n) g h = refl
line-mentions s line.EndIf g h = refl
line-mentions s (line.While e n) g h = expr-mentions s e g h
line-mentions s (line.EndWhile e n) g h = refl

-- what all lines need
abbrev pub AllLines : Names → List Line → Type 0
AllLines s [] = Unit {0}
AllLines s (l ∷ ls) = LineIs s true l × AllLines s ls

pub code-mentions : (s : Names) (code : List Line) → AreGood s → AllLines s code
    → flat_map mentions_of (code_lines s code) ≡ map (name_at s.locals) (mentions.mentions code)
code-mentions s [] g h = refl
code-mentions s (l ∷ ls) g h =
    ap (λ (x : List Word). x ++ flat_map mentions_of (code_lines s ls)) (line-mentions s l g h.0)
    ∙ ap (λ (x : List Word). map (name_at s.locals) (mentions.in_line l) ++ x) (code-mentions s ls g h.1)
    ∙ sym (map-append (name_at s.locals) (mentions.in_line l) (mentions.mentions ls))

-- locals after those that the first mention of the rest is of
abbrev pub NotesFirsts : List Word → ℕ → List ℕ → Type 0
NotesFirsts ns m is = (k : ℕ) → mentions.mentioned k is ≡ Some m → noted (take k ns) (map (name_at ns) is) ≡ take m ns

one-more : (ns : List Word) (k m i : ℕ) (is : List ℕ) (a b : Bool) → are_names ns ≡ true → i < length ns → NotesFirsts ns m is
    → nat_eq i k ≡ a → nat_lt i k ≡ b
    → (if a then mentions.mentioned (k + 1) is else if b then mentions.mentioned k is else None) ≡ Some m
    → noted (if is_among (take k ns) (name_at ns i) then take k ns else take k ns ++ name_at ns i ∷ []) (map (name_at ns) is) ≡ take m ns
one-more ns k m i is true b g below later p q f =
    let same : i ≡ k = same-number i k p in
    let new : is_among (take k ns) (name_at ns i) ≡ false =
    ap (λ (x : ℕ). is_among (take k ns) (name_at ns x)) same ∙ among-beyond ns k k g (omega arith) (omega arith) in
    let more : suc k ≡ k + 1 = omega arith in
    let grown : take k ns ++ name_at ns i ∷ [] ≡ take (k + 1) ns =
    ap (λ (x : ℕ). take k ns ++ name_at ns x ∷ []) same ∙ take-next ns k (omega arith) ∙ ap (λ (x : ℕ). take x ns) more in
    ap (λ (x : Bool). noted (if x then take k ns else take k ns ++ name_at ns i ∷ []) (map (name_at ns) is)) new
    ∙ ap (λ (x : List Word). noted x (map (name_at ns) is)) grown ∙ later (k + 1) f
one-more ns k m i is false true g below later p q f =
    let known : is_among (take k ns) (name_at ns i) ≡ true = among-below ns k i (ltb-true i k q) below in
    ap (λ (x : Bool). noted (if x then take k ns else take k ns ++ name_at ns i ∷ []) (map (name_at ns) is)) known ∙ later k f
one-more ns k m i is false false g below later p q f = absurd cc

-- locals that are mentioned in their order are noted in it
pub noted-firsts : (ns : List Word) (m : ℕ) (is : List ℕ) → are_names ns ≡ true → list_all (λ i. nat_lt i (length ns)) is ≡ true
    → NotesFirsts ns m is
noted-firsts ns m [] g h = λ k e. ap (λ (x : ℕ). take x ns) (none-more k m e)
  where
    none-more : (k m : ℕ) → mentions.mentioned k [] ≡ Some m → k ≡ m
    none-more k m e = cc
noted-firsts ns m (i ∷ is) g h =
    λ k e.
    one-more ns k m i is (nat_eq i k) (nat_lt i k) g (ltb-true i (length ns) (and-left _ (list_all (λ i. nat_lt i (length ns)) is) h))
    (noted-firsts ns m is g (and-right (nat_lt i (length ns)) _ h)) refl refl e

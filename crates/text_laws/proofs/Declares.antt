-- The bodies that the lines of a job declare are those of the job.
use Rattle.std.proofs.Common.{◌≡◌, ℕ, ◌≤◌, Bool, true, false, List, [], ◌∷◌, ◌++◌, length, take, take_all, Option, None, refl, sym, ap, ◌∙◌}
use Rattle.std.specs.Prelude.{if◌then◌else◌}
use Rattle.std.specs.List.{filter_map, cons_option}
use Rattle.std.proofs.lemmas.List.Elements.{filter_map-append}
use Rattle.text_lines.specs.Text.{words_of, is_skipped}
use Rattle.task_code.specs.declared.code.Action.{Action}
use Rattle.task_code.specs.declared.code.Action.TheVariants as action
use Rattle.task_code.specs.declared.code.Line.{Line}
use Rattle.task_code.specs.declared.code.Line.TheVariants as line
use Rattle.task_code.specs.Tree.{Block, flat}
use Rattle.superstep_memory.specs.declared.arrays.PutKind.TheVariants.{Set, Add}
use Rattle.job_reader.specs.Words.{Word, Words}
use Rattle.job_reader.specs.Exprs.{Names}
use Rattle.job_reader.specs.Lines.{line_words, end_words}
use Rattle.job_reader.specs.Trees.{BodyTree, body_names}
use Rattle.job_reader.specs.Grammar.{
  Item,
  AnArray,
  ABody,
  AStart,
  header_words,
  body_words,
  block_lines,
  body_lines,
  items_lines,
  names_above,
  job_of,
  kept,
}
use Rattle.job_reader.specs.Reading.{outer_of, declared_by, declared}
use Rattle.job_reader.specs.Writing.{code_lines}
use Rattle.job_reader.proofs.CodeLemmas.{block-code}
use Rattle.job_reader.proofs.SpelledNames.{names_in, skipped-none}

abbrev pub declared_in : List Words → List Word
declared_in lines = filter_map declared_by lines

kept-cases : (l : List ℕ) (ls : List (List ℕ)) (b : Bool) → is_skipped (words_of l) ≡ b → names_in ls ≡ declared_in (kept ls)
    → names_in (l ∷ ls) ≡ declared_in (if b then kept ls else words_of l ∷ kept ls)
kept-cases l ls true s e = ap (λ (o : Option Word). cons_option o (names_in ls)) (skipped-none (words_of l) s) ∙ e
kept-cases l ls false s e = ap (λ (x : List Word). cons_option (declared_by (words_of l)) x) e

-- lines that are skipped declare nothing
names-kept : (ls : List (List ℕ)) → names_in ls ≡ declared_in (kept ls)
names-kept [] = refl
names-kept (l ∷ ls) = kept-cases l ls (is_skipped (words_of l)) refl (names-kept ls)

action-none : (s : Names) (a : Action) → declared_by (line_words s (line.Do a)) ≡ None
unfolding outer_of
action-none s (action.Let i e) = refl
action-none s (action.Put Set c e) = refl
action-none s (action.Put Add c e) = refl
action-none s (action.Print e) = refl
action-none s (action.Spawn b e) = refl
action-none s action.Sync = refl
action-none s action.Stop = refl

line-none : (s : Names) (l : Line) → declared_by (line_words s l) ≡ None
unfolding outer_of
line-none s (line.Do a) = action-none s a
line-none s (line.If e n) = refl
line-none s (line.Else n) = refl
line-none s line.EndIf = refl
line-none s (line.While e n) = refl
line-none s (line.EndWhile e n) = refl

code-none : (s : Names) (code : List Line) → declared_in (code_lines s code) ≡ []
code-none s [] = refl
code-none s (l ∷ ls) = ap (λ (o : Option Word). cons_option o (declared_in (code_lines s ls))) (line-none s l) ∙ code-none s ls

block-none : (s : Names) (b : Block) → declared_in (block_lines s b) ≡ []
block-none s b = ap declared_in (sym (block-code s b)) ∙ code-none s (flat b)

end-none : declared_in (end_words ∷ []) ≡ []
unfolding outer_of
end-none = refl

body-declares : (format : ℕ) (name : Word) (locals : List Word) (lines : List Words)
    → declared_in (body_words format name locals ∷ lines) ≡ name ∷ declared_in lines
unfolding outer_of
body-declares format name locals lines = refl

body-names : (format : ℕ) (arrays bodies : List Word) (b : BodyTree) → declared_in (body_lines format arrays bodies b) ≡ b.name ∷ []
body-names format arrays bodies b =
    let s : Names = names_above arrays bodies b in
    body-declares format b.name b.locals (block_lines s b.block ++ end_words ∷ [])
    ∙ ap (λ (x : List Word). b.name ∷ x) (filter_map-append declared_by (block_lines s b.block) (end_words ∷ []))
    ∙ ap (λ (x : List Word). b.name ∷ (x ++ declared_in (end_words ∷ []))) (block-none s b.block)
    ∙ ap (λ (x : List Word). b.name ∷ x) end-none

-- the lines of items declare their bodies
items-names : (format : ℕ) (arrays bodies : List Word) (is : List Item)
    → declared_in (items_lines format arrays bodies is) ≡ body_names (job_of format is)
unfolding outer_of
items-names format arrays bodies [] = refl
items-names format arrays bodies (AnArray name given cells ∷ is) = items-names format (arrays ++ name ∷ []) bodies is
items-names format arrays bodies (ABody b ∷ is) =
    filter_map-append declared_by (body_lines format arrays bodies b) (items_lines format arrays bodies is)
    ∙ ap (λ (x : List Word). x ++ declared_in (items_lines format arrays bodies is)) (body-names format arrays bodies b)
    ∙ ap (λ (x : List Word). b.name ∷ x) (items-names format arrays bodies is)
items-names format arrays bodies (AStart t ∷ is) = items-names format arrays bodies is

header-none : (format : ℕ) (lines : List Words) → declared_in (header_words format ∷ lines) ≡ declared_in lines
unfolding outer_of
header-none format lines = refl

-- the reader looks for the bodies of the job
pub job-declared : (format : ℕ) (ls : List (List ℕ)) (bodies : List Word) (is : List Item)
    → kept ls ≡ header_words format ∷ items_lines format [] bodies is
    → length (body_names (job_of format is)) ≤ 64
    → declared ls ≡ body_names (job_of format is)
job-declared format ls bodies is e few =
    let all : names_in ls ≡ body_names (job_of format is) =
    names-kept ls ∙ ap declared_in e ∙ header-none format (items_lines format [] bodies is) ∙ items-names format [] bodies is in
    ap (λ (x : List Word). take 64 x) all ∙ take_all 64 (body_names (job_of format is)) few

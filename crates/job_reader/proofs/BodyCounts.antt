-- The limits of an open body, line by line.
use Rattle.std.proofs.Common.{◌≡◌, ℕ, ◌+◌, ◌-◌, ◌≤◌, Bool, true, false, List, [], ◌∷◌, ◌++◌, length, map, Some, refl, sym, ap, subst, ◌∙◌, arith, cond}
use Rattle.std.specs.Prelude.{if◌then◌else◌, max}
use Rattle.std.specs.List.{list_all}
use Rattle.std.proofs.lemmas.List.Folds.{list_all-append}
use Rattle.std.proofs.lemmas.List.Recursion.{is_count_by}
use Rattle.task_code.specs.Limits.{is_statement, statements, opened, deepest, fits_line}
use Rattle.task_code.specs.Tree.{Block, Done}
use Rattle.task_code.specs.Open.{Frame, InIf, InElse, InWhile, open_code, step_of}
use Rattle.task_code.specs.declared.code.Line.{Line}
use Rattle.task_code.specs.declared.code.Line.TheVariants as line
use Rattle.job_reader.proofs.SaidLemmas.{and-true}
use Rattle.job_reader.specs.Above.{statements_behind}
use Rattle.job_reader.specs.Kept.{open_behind, Counted}
use Rattle.job_reader.proofs.StepCode.{step-map}
use Rattle.job_reader.proofs.SpelledInside.{all-mapped}

-- what a line does to the number of open lines
data Change : Type 0 where
  Stays : Change
  Opens : Change
  Closes : Change

abbrev change_of : Line → Change
change_of (line.Do a) = Stays
change_of (line.If e n) = Opens
change_of (line.Else n) = Stays
change_of line.EndIf = Closes
change_of (line.While e n) = Opens
change_of (line.EndWhile e n) = Closes

abbrev turned : ℕ → Change → ℕ
turned k Stays = k
turned k Opens = k + 1
turned k Closes = k - 1

abbrev after : ℕ → List Change → ℕ
after k [] = k
after k (c ∷ cs) = after (turned k c) cs

abbrev highest : ℕ → List Change → ℕ
highest k [] = k
highest k (c ∷ cs) = max k (highest (turned k c) cs)

opened-turned : (k : ℕ) (l : Line) → opened k l ≡ turned k (change_of l)
opened-turned k (line.Do a) = refl
opened-turned k (line.If e n) = refl
opened-turned k (line.Else n) = refl
opened-turned k line.EndIf = refl
opened-turned k (line.While e n) = refl
opened-turned k (line.EndWhile e n) = refl

deepest-highest : (k : ℕ) (code : List Line) → deepest k code ≡ highest k (map change_of code)
deepest-highest k [] = refl
deepest-highest k (l ∷ ls) =
    ap (λ (x : ℕ). max k (deepest x ls)) (opened-turned k l) ∙ ap (max k) (deepest-highest (turned k (change_of l)) ls)

after-one : (k : ℕ) (cs : List Change) (c : Change) → after k (cs ++ c ∷ []) ≡ turned (after k cs) c
after-one k [] c = refl
after-one k (d ∷ ds) c = after-one (turned k d) ds c

highest-one : (k : ℕ) (cs : List Change) (c : Change) (n : ℕ) → highest k cs ≤ n → turned (after k cs) c ≤ n → highest k (cs ++ c ∷ []) ≤ n
highest-one k [] c n h t = omega arith
highest-one k (d ∷ ds) c n h t =
    let first : k ≤ n = omega arith in
    let later : highest (turned k d) ds ≤ n = omega arith in
    let rest : highest (turned k d) (ds ++ c ∷ []) ≤ n = highest-one (turned k d) ds c n later t in
    omega arith

abbrev one_if : Bool → ℕ
one_if true = 1
one_if false = 0

abbrev count : List Bool → ℕ
count [] = 0
count (b ∷ bs) = one_if b + count bs

count-one : (bs : List Bool) (b : Bool) → count (bs ++ b ∷ []) ≡ count bs + one_if b
count-one [] b = omega arith
count-one (c ∷ bs) b = let rest = count-one bs b in omega arith

one-counted : (b : Bool) (n : ℕ) → one_if b + n ≡ cond b (1 + n) n
one-counted true n = refl
one-counted false n = omega arith

statements-count : (code : List Line) → statements code ≡ count (map is_statement code)
statements-count code =
    sym
    (is_count_by (λ c. count (map is_statement c)) is_statement refl (λ l ls. one-counted (is_statement l) (count (map is_statement ls))) code)

behind-count : (n : ℕ) (l : Line) → statements_behind n l ≡ n + one_if (is_statement l)
behind-count n l = by-line (is_statement l)
  where
    by-line : (b : Bool) → (if b then n + 1 else n) ≡ n + one_if b
    by-line true = omega arith
    by-line false = omega arith

pub length-step : (l : Line) (fs : List Frame) (b : Block) (s : List Frame × Block) → step_of l fs b ≡ Some s
    → length s.0 ≡ opened (length fs) l
length-step (line.Do a) fs b s e = let same : fs ≡ s.0 = cc in ap (λ (x : List Frame). length x) (sym same)
length-step (line.If t n) fs b s e = let same : InIf t b ∷ fs ≡ s.0 = cc in ap (λ (x : List Frame). length x) (sym same) ∙ omega arith
length-step (line.While t n) fs b s e = let same : InWhile t b ∷ fs ≡ s.0 = cc in ap (λ (x : List Frame). length x) (sym same) ∙ omega arith
length-step (line.Else n) [] b s e = absurd cc
length-step (line.Else n) (InIf t before ∷ fs) b s e = let same : InElse t before b ∷ fs ≡ s.0 = cc in
    ap (λ (x : List Frame). length x) (sym same)
length-step (line.Else n) (InElse t before a ∷ fs) b s e = absurd cc
length-step (line.Else n) (InWhile t before ∷ fs) b s e = absurd cc
length-step line.EndIf [] b s e = absurd cc
length-step line.EndIf (f ∷ fs) b s e = let same : fs ≡ s.0 = cc in ap (λ (x : List Frame). length x) (sym same) ∙ omega arith
length-step (line.EndWhile t n) [] b s e = absurd cc
length-step (line.EndWhile t n) (f ∷ fs) b s e = let same : fs ≡ s.0 = cc in ap (λ (x : List Frame). length x) (sym same) ∙ omega arith

open-after : (k : ℕ) (code : List Line) → open_behind k code ≡ after k (map change_of code)
open-after k [] = refl
open-after k (l ∷ ls) = ap (λ (x : ℕ). open_behind x ls) (opened-turned k l) ∙ open-after (turned k (change_of l)) ls

pub counted-none : Counted [] Done 0
counted-none = record { counts = refl; few = omega arith; open_lines = refl; shallow = omega arith; numbers = refl }

-- a line more
pub counted-step : (l : Line) (fs : List Frame) (b : Block) (s : List Frame × Block) (n : ℕ) → Counted fs b n → step_of l fs b ≡ Some s
    → fits_line l ≡ true → statements_behind n l ≤ 1024 → opened (length fs) l ≤ 16 → Counted s.0 s.1 (statements_behind n l)
counted-step l fs b s n h e fits few shallow =
    let code : List Line = open_code fs b in
    let changes = step-map change_of (λ e n m. refl) (λ n m. refl) (λ e n m. refl) (λ e n. refl) l fs b s e in
    let kinds = step-map is_statement (λ e n m. refl) (λ n m. refl) (λ e n m. refl) (λ e n. refl) l fs b s e in
    let numbers = step-map fits_line (λ e n m. refl) (λ n m. refl) (λ e n m. refl) (λ e n. refl) l fs b s e in
    let level : turned (after 0 (map change_of code)) (change_of l) ≡ opened (length fs) l =
    sym (opened-turned (after 0 (map change_of code)) l) ∙ ap (λ (k : ℕ). opened k l) (sym (open-after 0 code) ∙ h.open_lines) in
    let before : highest 0 (map change_of code) ≤ 16 = subst (λ (k : ℕ). k ≤ 16) (deepest-highest 0 code) h.shallow in
    let here : turned (after 0 (map change_of code)) (change_of l) ≤ 16 = subst (λ (k : ℕ). k ≤ 16) (sym level) shallow in
    record {
      counts = statements-count (open_code s.0 s.1) ∙ ap count kinds ∙ count-one (map is_statement code) (is_statement l)
          ∙ ap (λ (k : ℕ). k + one_if (is_statement l)) (sym (statements-count code) ∙ h.counts) ∙ sym (behind-count n l);
      few = few;
      open_lines =
          open-after 0 (open_code s.0 s.1) ∙ ap (after 0) changes ∙ after-one 0 (map change_of code) (change_of l) ∙ level
          ∙ sym (length-step l fs b s e);
      shallow = subst (λ (k : ℕ). k ≤ 16) (sym (deepest-highest 0 (open_code s.0 s.1) ∙ ap (highest 0) changes))
          (highest-one 0 (map change_of code) (change_of l) 16 before here);
      numbers = sym (all-mapped fits_line (open_code s.0 s.1)) ∙ ap (λ (c : List Bool). list_all (λ (b : Bool). b) c) numbers
          ∙ list_all-append (λ (b : Bool). b) (map fits_line code) (fits_line l ∷ [])
          ∙ and-true _ _ (all-mapped fits_line code ∙ h.numbers) (and-true _ true fits refl);
    }

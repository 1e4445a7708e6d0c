-- Lines that a format has.
use Rattle.std.proofs.Common.{◌≡◌, ℕ, Bool, true, false, List, [], ◌∷◌, Option, Some, None, Result, Ok, Err, refl, sym, ap, ◌∙◌}
use Rattle.std.specs.Prelude.{◌||◌, ◌==◌, not, if◌then◌else◌}
use Rattle.text_lines.specs.declared.refusal.Code.{Code}
use Rattle.task_code.specs.Limits as lines
use Rattle.task_code.specs.declared.code.Line.{Line}
use Rattle.task_code.specs.declared.code.Line.TheVariants as line
use Rattle.job_reader.specs.Faults.{made}
use Rattle.job_reader.specs.Words.{Word, Words}
use Rattle.job_reader.specs.Exprs.{Names}
use Rattle.job_reader.specs.declared.lines.Keyword.{Keyword}
use Rattle.job_reader.specs.declared.lines.Keyword.TheVariants.{Let, Put, Print, Spawn, Sync, Stop, If, Else, While, End}
use Rattle.job_reader.specs.Lines.{is_of_first, known_in, alone, line_behind}
use Rattle.job_reader.proofs.SaidLemmas.{made-ok}
use Rattle.job_reader.specs.Trees.{JobTree, array_names}
use Rattle.job_reader.specs.Above.{Inside}
use Rattle.job_reader.specs.Grammar.{is_in_format}
use Rattle.job_reader.specs.Reading.{said, with_line, mentioning, inner_line}
use Rattle.job_reader.proofs.LineLemmas.{within-sits}

-- what is known stays known
pub known-twice : (format : ℕ) (k : Option Keyword) → known_in format (known_in format k) ≡ known_in format k
known-twice format None = refl
known-twice format (Some k) = by (is_of_first k || not (format == 1)) refl
  where
    by : (b : Bool) → (is_of_first k || not (format == 1)) ≡ b → known_in format (if b then Some k else None) ≡ (if b then Some k else None)
    by true e = ap (λ (x : Bool). if x then Some k else None) e
    by false e = refl

pub known-some : (format : ℕ) (k : Keyword) → known_in format (Some k) ≡ Some k → (is_of_first k || not (format == 1)) ≡ true
known-some format k e = by (is_of_first k || not (format == 1)) e
  where
    by : (b : Bool) → (if b then Some k else None) ≡ Some k → b ≡ true
    by true e = refl
    by false e = absurd cc

-- a line that is read begins as the format knows it
pub known-cases : (s : Names) (fits : Bool) (format : ℕ) (k : Option Keyword) (ws : Words) (l : Line)
    → line_behind s fits (known_in format k) ws ≡ Ok l → known_in format k ≡ k
unfolding line_behind
known-cases s fits format None ws l e = absurd cc
known-cases s fits format (Some k) ws l e = by (is_of_first k || not (format == 1)) e
  where
    by : (b : Bool) → line_behind s fits (if b then Some k else None) ws ≡ Ok l → (if b then Some k else None) ≡ Some k
    by true e = refl
    by false e = absurd cc

pub known-line : (bodies : List Word) (j : JobTree) (o : Inside) (k : Option Keyword) (ws : Words) (p : JobTree × Option Inside)
    → inner_line bodies j o (known_in j.format k) ws ≡ Ok p → (inner_line bodies j o k ws ≡ Ok p) × (known_in j.format k ≡ k)
known-line bodies j o k ws p e =
    let o' : Inside = mentioning j.format o (known_in j.format k) ws in
    let m = made-ok (with_line j o') (said (array_names j) bodies o' (known_in j.format k) ws) p e in
    let same : known_in j.format k ≡ k = known-cases _ _ j.format k ws m.0 (within-sits _ o' m.0 m.1) in
    (ap (λ (x : Option Keyword). inner_line bodies j o x ws) (sym same) ∙ e, same)

made-first : {A : Type 0} (f : A → Line) (b : Bool) → ((a : A) → lines.is_of_first (f a) ≡ b) → (r : Result A Code) (l : Line)
    → made f r ≡ Ok l → lines.is_of_first l ≡ b
made-first f b h (Ok a) l e = let same : f a ≡ l = cc in ap lines.is_of_first (sym same) ∙ h a
made-first f b h (Err c) l e = absurd cc

alone-first : (k l : Line) (ws : Words) → lines.is_of_first k ≡ true → alone k ws ≡ Ok l → lines.is_of_first l ≡ true
alone-first k l [] h e = let same : k ≡ l = cc in ap lines.is_of_first (sym same) ∙ h
alone-first k l (w ∷ ws) h e = absurd cc

-- a line is of the first format if its first word is
pub said-first : (s : Names) (fits : Bool) (k : Keyword) (ws : Words) (l : Line) → line_behind s fits (Some k) ws ≡ Ok l
    → lines.is_of_first l ≡ is_of_first k
unfolding line_behind
said-first s fits Let [] l e = absurd cc
said-first s fits Let (w ∷ []) l e = absurd cc
said-first s fits Let (w ∷ v ∷ ws) l e = made-first _ true (λ a. refl) _ l e
said-first s fits (Put kind) [] l e = absurd cc
said-first s fits (Put kind) (w ∷ []) l e = absurd cc
said-first s fits (Put kind) (w ∷ v ∷ ws) l e = made-first _ (lines.is_set kind) (λ a. refl) _ l e
said-first s fits Print ws l e = made-first _ true (λ a. refl) _ l e
said-first s fits Spawn [] l e = absurd cc
said-first s fits Spawn (w ∷ ws) l e = made-first _ true (λ a. refl) _ l e
said-first s fits Sync ws l e = alone-first _ l ws refl e
said-first s fits Stop ws l e = alone-first _ l ws refl e
said-first s fits If ws l e = made-first _ true (λ a. refl) _ l e
said-first s true Else [] l e = let same : line.Else 0 ≡ l = cc in ap lines.is_of_first (sym same)
said-first s true Else (w ∷ ws) l e = absurd cc
said-first s false Else [] l e = absurd cc
said-first s false Else (w ∷ ws) l e = absurd cc
said-first s fits While ws l e = made-first _ true (λ a. refl) _ l e
said-first s fits End ws l e = alone-first _ l ws refl e

-- a line that is said by a word that the format knows is one of the format
pub said-known : (s : Names) (fits : Bool) (format : ℕ) (k : Option Keyword) (ws : Words) (l : Line) → known_in format k ≡ k
    → line_behind s fits k ws ≡ Ok l
    → is_in_format format l ≡ true
unfolding line_behind
said-known s fits format None ws l h e = absurd cc
said-known s fits format (Some k) ws l h e =
    ap (λ (b : Bool). b || not (format == 1)) (said-first s fits k ws l e) ∙ known-some format k h

-- a line of the format begins as the format knows it
pub word-known : (s : Names) (fits : Bool) (format : ℕ) (k : Option Keyword) (ws : Words) (l : Line) → line_behind s fits k ws ≡ Ok l
    → is_in_format format l ≡ true
    → known_in format k ≡ k
word-known s fits format None ws l e h = refl
word-known s fits format (Some k) ws l e h =
    ap (λ (b : Bool). if b then Some k else None) (ap (λ (b : Bool). b || not (format == 1)) (sym (said-first s fits k ws l e)) ∙ h)

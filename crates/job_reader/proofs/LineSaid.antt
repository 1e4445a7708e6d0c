-- What the words of a line say is written so.
use Rattle.std.proofs.Common.{◌≡◌, ℕ, ◌<◌, Bool, true, false, List, [], ◌∷◌, length, Option, Some, None, Ok, refl, sym, ap, subst, ◌∙◌, codes}
use Rattle.std.specs.Prelude.{if◌then◌else◌, unwrap_or}
use Rattle.std.specs.Str.{bytes_eq}
use Rattle.text_lines.specs.declared.refusal.Code.{Code}
use Rattle.text_lines.specs.declared.refusal.Code.TheVariants.{BadLine}
use Rattle.task_code.specs.Names.{is_among}
use Rattle.task_code.specs.Limits.{is_expr}
use Rattle.task_code.specs.Mentions as mentions
use Rattle.task_code.specs.declared.code.Expr.{Expr}
use Rattle.task_code.specs.declared.code.Action.TheVariants as action
use Rattle.task_code.specs.declared.code.Line.{Line}
use Rattle.task_code.specs.declared.code.Line.TheVariants as line
use Rattle.job_reader.specs.declared.lines.Keyword.{Keyword}
use Rattle.superstep_memory.specs.declared.arrays.PutKind.{PutKind}
use Rattle.superstep_memory.specs.declared.arrays.PutKind.TheVariants.{Set, Add}
use Rattle.job_reader.specs.declared.lines.Keyword.TheVariants.{Let, Put, Print, Spawn, Sync, Stop, If, Else, While, End}
use Rattle.job_reader.specs.Faults.{both, made, checked}
use Rattle.job_reader.specs.Words.{Word, Words, named, place_from, declared_at, name_at}
use Rattle.job_reader.specs.Exprs.{Names, cell_word, cell_of, expr_words, expr_of}
use Rattle.job_reader.specs.Lines.{keyword_of, line_words, is_equals, body_at, let_line, kind_word, put_line, spawn_line, let_of, put_of, spawn_of, alone, else_of, line_behind, line_fits}
use Rattle.job_reader.proofs.NotedLemmas.{among-none}
use Rattle.job_reader.proofs.SaidLemmas.{
  made-ok,
  both-ok,
  and-true,
  below-true,
  same-word,
  place-said,
  declared-said,
  cell-said,
  expr-said,
  all-both,
  AllBelow,
}

abbrev pub keyword_text : Keyword → Word
keyword_text Let = codes "let"
keyword_text (Put kind) = kind_word kind
keyword_text Print = codes "print"
keyword_text Spawn = codes "spawn"
keyword_text Sync = codes "sync"
keyword_text Stop = codes "stop"
keyword_text If = codes "if"
keyword_text Else = codes "else"
keyword_text While = codes "while"
keyword_text End = codes "end"

pick : (b : Bool) (w : Word) (x k : Keyword) (rest : Option Keyword) → (b ≡ true → w ≡ keyword_text x)
    → (rest ≡ Some k → w ≡ keyword_text k) → (if b then Some x else rest) ≡ Some k → w ≡ keyword_text k
pick true w x k rest is other e = let same : x ≡ k = cc in is refl ∙ ap keyword_text same
pick false w x k rest is other e = other e

pub keyword-said : (w : Word) (k : Keyword) → keyword_of w ≡ Some k → w ≡ keyword_text k
unfolding keyword_of
keyword-said w k e =
    pick (bytes_eq w (codes "let")) w Let k _ (same-word w (codes "let")) (λ e.
    pick (bytes_eq w (codes "put")) w (Put Set) k _ (same-word w (codes "put")) (λ e.
    pick (bytes_eq w (codes "add")) w (Put Add) k _ (same-word w (codes "add")) (λ e.
    pick (bytes_eq w (codes "print")) w Print k _ (same-word w (codes "print")) (λ e.
    pick (bytes_eq w (codes "spawn")) w Spawn k _ (same-word w (codes "spawn")) (λ e.
    pick (bytes_eq w (codes "sync")) w Sync k _ (same-word w (codes "sync")) (λ e.
    pick (bytes_eq w (codes "stop")) w Stop k _ (same-word w (codes "stop")) (λ e.
    pick (bytes_eq w (codes "if")) w If k _ (same-word w (codes "if")) (λ e.
    pick (bytes_eq w (codes "else")) w Else k _ (same-word w (codes "else")) (λ e.
    pick (bytes_eq w (codes "while")) w While k _ (same-word w (codes "while")) (λ e.
    pick (bytes_eq w (codes "end")) w End k _ (same-word w (codes "end")) (λ e.
    absurd cc) e) e) e) e) e) e) e) e) e) e) e

-- the body that a spawn line names is there
abbrev pub is_present : Names → Keyword → Words → Bool
is_present s Spawn (b ∷ ws) = is_among s.bodies b
is_present s Spawn [] = true
is_present s Let ws = true
is_present s (Put kind) ws = true
is_present s Print ws = true
is_present s Sync ws = true
is_present s Stop ws = true
is_present s If ws = true
is_present s Else ws = true
is_present s While ws = true
is_present s End ws = true

abbrev pub LineSaid : Names → Words → Line → Type 0
LineSaid s ws l = (ws ≡ line_words s l) × (line_fits s l ≡ true)

checked-ok : (b : Bool) (c : Code) (u : Unit {0}) → checked b c ≡ Ok u → b ≡ true
checked-ok true c u e = refl
checked-ok false c u e = absurd cc

equals-ok : (w : Word) (u : Unit {0}) → is_equals w ≡ Ok u → w ≡ codes "="
equals-ok w u e = same-word w (codes "=") (checked-ok (bytes_eq w (codes "=")) BadLine u e)

present-at : (names : List Word) (w : Word) (o : Option ℕ) → place_from 0 names w ≡ o → is_among names w ≡ true
    → (name_at names (unwrap_or o 0) ≡ w) × (unwrap_or o 0 < length names)
present-at names w None h a = let no = among-none 0 names w h in absurd cc
present-at names w (Some i) h a = place-said names w i h

pub body-said : (bodies : List Word) (w : Word) (b : ℕ) → is_among bodies w ≡ true → body_at bodies w ≡ Ok b
    → (name_at bodies b ≡ w) × (b < length bodies)
body-said bodies w b a e =
    let m = made-ok (λ (u : Unit {0}). unwrap_or (place_from 0 bodies w) 0) (named w) b e in
    let p = present-at bodies w (place_from 0 bodies w) refl a in
    subst (λ (x : ℕ). (name_at bodies x ≡ w) × (x < length bodies)) m.2 p

alone-said : (s : Names) (k : Word) (x l : Line) (ws : Words) → k ∷ [] ≡ line_words s x → line_fits s x ≡ true → alone x ws ≡ Ok l
    → LineSaid s (k ∷ ws) l
alone-said s k x l [] w f e = let same : x ≡ l = cc in subst (LineSaid s (k ∷ [])) same (w, f)
alone-said s k x l (v ∷ ws) w f e = absurd cc

let-said : (s : Names) (ws : Words) (l : Line) → let_of s ws ≡ Ok l → LineSaid s (codes "let" ∷ ws) l
let-said s [] l e = absurd cc
let-said s (w ∷ []) l e = absurd cc
let-said s (w ∷ v ∷ ws) l e =
    let m = made-ok let_line (both (both (is_equals v) (declared_at s.locals w)) (expr_of s ws)) l e in
    let outer = both-ok (both (is_equals v) (declared_at s.locals w)) (expr_of s ws) m.0 m.1 in
    let inner = both-ok (is_equals v) (declared_at s.locals w) m.0.0 outer.0 in
    let d = declared-said s.locals w m.0.0.1 inner.1 in
    let x = expr-said s ws m.0.1 outer.1 in
    let q = equals-ok v m.0.0.0 inner.0 in
    subst (LineSaid s (codes "let" ∷ w ∷ v ∷ ws)) m.2 (
      ap (λ (t : Word). codes "let" ∷ t ∷ v ∷ ws) (sym d.0) ∙ ap (λ (t : Word). codes "let" ∷ name_at s.locals m.0.0.1 ∷ t ∷ ws) q
          ∙ ap (λ (t : Words). codes "let" ∷ name_at s.locals m.0.0.1 ∷ codes "=" ∷ t) x.0,
      and-true _ _ x.1
          (all-both _ (m.0.0.1 ∷ []) (mentions.in_expr m.0.1) (and-true _ true (below-true m.0.0.1 (length s.locals) d.1) refl) x.2),
    )

put-said : (s : Names) (kind : PutKind) (ws : Words) (l : Line) → put_of s kind ws ≡ Ok l → LineSaid s (kind_word kind ∷ ws) l
put-said s kind [] l e = absurd cc
put-said s kind (w ∷ []) l e = absurd cc
put-said s kind (w ∷ v ∷ ws) l e =
    let m = made-ok (put_line kind) (both (both (cell_of s w) (is_equals v)) (expr_of s ws)) l e in
    let outer = both-ok (both (cell_of s w) (is_equals v)) (expr_of s ws) m.0 m.1 in
    let inner = both-ok (cell_of s w) (is_equals v) m.0.0 outer.0 in
    let d = cell-said s w m.0.0.0 inner.0 in
    let x = expr-said s ws m.0.1 outer.1 in
    let q = equals-ok v m.0.0.1 inner.1 in
    subst (LineSaid s (kind_word kind ∷ w ∷ v ∷ ws)) m.2 (
      ap (λ (t : Word). kind_word kind ∷ t ∷ v ∷ ws) d.0 ∙ ap (λ (t : Word). kind_word kind ∷ cell_word s m.0.0.0 ∷ t ∷ ws) q
          ∙ ap (λ (t : Words). kind_word kind ∷ cell_word s m.0.0.0 ∷ codes "=" ∷ t) x.0,
      and-true _ _ (and-true _ _ d.1 x.1) (all-both _ (mentions.in_index m.0.0.0.index) (mentions.in_expr m.0.1) d.2 x.2),
    )

spawn-said : (s : Names) (ws : Words) (l : Line) → is_present s Spawn ws ≡ true → spawn_of s ws ≡ Ok l → LineSaid s (codes "spawn" ∷ ws) l
spawn-said s [] l p e = absurd cc
spawn-said s (w ∷ ws) l p e =
    let m = made-ok spawn_line (both (body_at s.bodies w) (expr_of s ws)) l e in
    let outer = both-ok (body_at s.bodies w) (expr_of s ws) m.0 m.1 in
    let b = body-said s.bodies w m.0.0 p outer.0 in
    let x = expr-said s ws m.0.1 outer.1 in
    subst (LineSaid s (codes "spawn" ∷ w ∷ ws)) m.2 (
      ap (λ (t : Word). codes "spawn" ∷ t ∷ ws) (sym b.0) ∙ ap (λ (t : Words). codes "spawn" ∷ name_at s.bodies m.0.0 ∷ t) x.0,
      and-true _ _ (and-true _ _ (below-true m.0.0 (length s.bodies) b.1) x.1) x.2,
    )

test-said : (s : Names) (k : Word) (f : Expr → Line) (ws : Words) (l : Line) → ((e : Expr) → line_words s (f e) ≡ k ∷ expr_words s e)
    → ((e : Expr) → is_expr (length s.arrays) e ≡ true → AllBelow s (mentions.in_expr e) → line_fits s (f e) ≡ true)
    → made f (expr_of s ws) ≡ Ok l → LineSaid s (k ∷ ws) l
test-said s k f ws l w fits e =
    let m = made-ok f (expr_of s ws) l e in
    let x = expr-said s ws m.0 m.1 in
    subst (LineSaid s (k ∷ ws)) m.2 (ap (λ (t : Words). k ∷ t) x.0 ∙ sym (w m.0), fits m.0 x.1 x.2)

else-said : (s : Names) (fits : Bool) (ws : Words) (l : Line) → else_of fits ws ≡ Ok l → LineSaid s (codes "else" ∷ ws) l
else-said s true [] l e = let same : line.Else 0 ≡ l = cc in subst (LineSaid s (codes "else" ∷ [])) same (refl, refl)
else-said s true (w ∷ ws) l e = absurd cc
else-said s false [] l e = absurd cc
else-said s false (w ∷ ws) l e = absurd cc

behind-said : (s : Names) (fits : Bool) (k : Keyword) (ws : Words) (l : Line) → is_present s k ws ≡ true
    → line_behind s fits (Some k) ws ≡ Ok l → LineSaid s (keyword_text k ∷ ws) l
unfolding line_behind
behind-said s fits Let ws l p e = let-said s ws l e
behind-said s fits (Put kind) ws l p e = put-said s kind ws l e
behind-said s fits Print ws l p e =
    test-said s (codes "print") (λ x. line.Do (action.Print x)) ws l (λ x. refl) (λ x a b. and-true _ _ a b) e
behind-said s fits Spawn ws l p e = spawn-said s ws l p e
behind-said s fits Sync ws l p e = alone-said s (codes "sync") (line.Do action.Sync) l ws refl refl e
behind-said s fits Stop ws l p e = alone-said s (codes "stop") (line.Do action.Stop) l ws refl refl e
behind-said s fits If ws l p e = test-said s (codes "if") (λ x. line.If x 0) ws l (λ x. refl) (λ x a b. and-true _ _ a b) e
behind-said s fits Else ws l p e = else-said s fits ws l e
behind-said s fits While ws l p e = test-said s (codes "while") (λ x. line.While x 0) ws l (λ x. refl) (λ x a b. and-true _ _ a b) e
behind-said s fits End ws l p e = alone-said s (codes "end") line.EndIf l ws refl refl e

abbrev pub is_present_if : Names → Option Keyword → Words → Bool
is_present_if s None ws = true
is_present_if s (Some k) ws = is_present s k ws

line-cases : (s : Names) (fits : Bool) (o : Option Keyword) (k : Word) (ws : Words) (l : Line) → keyword_of k ≡ o
    → is_present_if s o ws ≡ true → line_behind s fits o ws ≡ Ok l → LineSaid s (k ∷ ws) l
unfolding line_behind
line-cases s fits None k ws l h p e = absurd cc
line-cases s fits (Some j) k ws l h p e =
    let b = behind-said s fits j ws l p e in
    (ap (λ (x : Word). x ∷ ws) (keyword-said k j h) ∙ b.0, b.1)

-- a line in a body is written as it was said, and what it names is there
pub line-said : (s : Names) (fits : Bool) (k : Word) (ws : Words) (l : Line) → is_present_if s (keyword_of k) ws ≡ true
    → line_behind s fits (keyword_of k) ws ≡ Ok l → LineSaid s (k ∷ ws) l
line-said s fits k ws l p e = line-cases s fits (keyword_of k) k ws l refl p e

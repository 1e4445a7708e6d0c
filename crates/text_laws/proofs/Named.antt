-- The bodies that lines declare and name, if they are read.
use Rattle.std.proofs.Common.{◌≡◌, ℕ, Bool, true, false, ◌&&◌, List, [], ◌∷◌, ◌++◌, codes, Option, Some, None, Result, Ok, Err, refl, sym, ap, subst, ◌∙◌, append-nil}
use Rattle.std.specs.Prelude.{if◌then◌else◌, not, length}
use Rattle.std.specs.List.{cons_option, list_all}
use Rattle.text_lines.specs.declared.refusal.Code.{Code}
use Rattle.text_lines.specs.declared.refusal.Code.TheVariants.{TooMany, Reserved, BadName}
use Rattle.text_lines.specs.Text.{words_of, is_skipped}
use Rattle.task_code.specs.Names.{is_free}
use Rattle.task_code.specs.Limits.{opened}
use Rattle.task_code.specs.declared.code.Line.{Line}
use Rattle.task_code.specs.declared.job.Start.{Start}
use Rattle.superstep_memory.specs.declared.arrays.PutKind.TheVariants.{Set, Add}
use Rattle.job_reader.specs.Faults.{both}
use Rattle.job_reader.specs.Words.{Word, Words, named, numbered}
use Rattle.job_reader.specs.Exprs.{Names, expr_of}
use Rattle.job_reader.specs.declared.lines.Keyword.{Keyword}
use Rattle.job_reader.specs.declared.lines.Keyword.TheVariants.{Let, Put, Print, Spawn, Sync, Stop, If, Else, While, End}
use Rattle.job_reader.specs.Lines.{keyword_of, known_in, line_behind, body_at, spawn_line, spawn_of}
use Rattle.job_reader.proofs.SaidLemmas.{made-ok, both-ok, and-true}
use Rattle.job_reader.proofs.GrowLemmas.{and-left}
use Rattle.job_reader.proofs.LineSaid.{keyword_text, keyword-said}
use Rattle.job_reader.specs.declared.outer.Outer.{Outer}
use Rattle.job_reader.specs.declared.outer.Outer.TheVariants as outer
use Rattle.job_reader.specs.Above.{nothing, statements_behind}
use Rattle.job_reader.specs.Reading.{◌>>=◌, format_of, outer_of, name_if_body, declared_by, array_of, body_of, start_of, start_from, is_over}
use Rattle.job_reader.proofs.SpelledOuter.{bind-ok, outer-said}
use Rattle.job_reader.proofs.SpelledNames.{listed, listed-first, skipped-none, no-body, is-hash}
use Rattle.text_laws.specs.Refusals.{named_by, declared_in, named_in}
use Rattle.text_laws.proofs.Seen.{Kind, SeenBody, Seen, seen, see_array, see_body, see_start, see_outer, see_step, see_else, see_behind, see_said, see_mentioning, see_any, see}
use Rattle.text_laws.proofs.Folds.{see_first, see_words, see_lines}
use Rattle.std.specs.Fmt.{decimal}
use Rattle.job_reader.specs.Grammar.{header_words}
use Rattle.job_reader.proofs.Headers.{header-said}
use Rattle.job_reader.proofs.BodyHeads.{head-parts}
use Rattle.job_reader.proofs.Known.{known-cases}
use Rattle.text_laws.proofs.Closing.{if-ok, array-after, body-after, start-after}
use Rattle.job_reader.proofs.ReadWords.{free-named}

abbrev pub open_name : Option SeenBody → List Word
open_name None = []
open_name (Some o) = o.name ∷ []

-- the bodies so far, the open one too
abbrev pub so_far : Seen → List Word
so_far v = v.bodies ++ open_name v.inside

-- a line adds the name that it declares, and what it names may be a body's name
abbrev pub Tells : List Word → Words → Seen → Type 0
Tells names ws w = (so_far w ≡ names ++ listed (declared_by ws)) × (list_all is_free (listed (named_by ws)) ≡ true)

same-tells : (names : List Word) (ws : Words) (w : Seen) → so_far w ≡ names → declared_by ws ≡ None
    → list_all is_free (listed (named_by ws)) ≡ true → Tells names ws w
same-tells names ws w e d f = (e ∙ sym (append-nil names) ∙ ap (λ (o : Option Word). names ++ listed o) (sym d), f)

named-cases : (a b : Bool) (u : Unit {0})
    → ◌≡◌ {A = Result (Unit {0}) Code} (if a then Err Reserved else if b then Ok tt else Err BadName) (Ok u) → (b && not a) ≡ true
named-cases true b u e = absurd cc
named-cases false true u e = refl
named-cases false false u e = absurd cc

one-free : (w : Word) → is_free w ≡ true → list_all is_free (w ∷ []) ≡ true
one-free w e = and-true _ true e refl

behind-names : (v : Seen) (o : SeenBody) (n : ℕ) (s : Option (List Kind)) → so_far (see_behind v o n s) ≡ v.bodies ++ o.name ∷ []
behind-names v o n None = append-nil _
behind-names v o n (Some ks) = refl

spawn-free : (s : Names) (ws : Words) (l : Line) → spawn_of s ws ≡ Ok l → list_all is_free (listed (named_by (codes "spawn" ∷ ws))) ≡ true
spawn-free s [] l e = refl
spawn-free s (b ∷ ws) l e =
    let m = made-ok spawn_line (both (body_at s.bodies b) (expr_of s ws)) l e in
    let p = both-ok (body_at s.bodies b) (expr_of s ws) m.0 m.1 in
    let n = made-ok _ (named b) m.0.0 p.0 in
    one-free b (free-named b n.0 n.1)

keyword-free : (s : Names) (fits : Bool) (k : Keyword) (ws : Words) (l : Line) → line_behind s fits (Some k) ws ≡ Ok l
    → list_all is_free (listed (named_by (keyword_text k ∷ ws))) ≡ true
unfolding line_behind
keyword-free s fits Spawn ws l e = spawn-free s ws l e
keyword-free s fits Let [] l e = refl
keyword-free s fits Let (b ∷ ws) l e = refl
keyword-free s fits (Put Set) [] l e = refl
keyword-free s fits (Put Set) (b ∷ ws) l e = refl
keyword-free s fits (Put Add) [] l e = refl
keyword-free s fits (Put Add) (b ∷ ws) l e = refl
keyword-free s fits Print [] l e = refl
keyword-free s fits Print (b ∷ ws) l e = refl
keyword-free s fits Sync [] l e = refl
keyword-free s fits Sync (b ∷ ws) l e = refl
keyword-free s fits Stop [] l e = refl
keyword-free s fits Stop (b ∷ ws) l e = refl
keyword-free s fits If [] l e = refl
keyword-free s fits If (b ∷ ws) l e = refl
keyword-free s fits Else [] l e = refl
keyword-free s fits Else (b ∷ ws) l e = refl
keyword-free s fits While [] l e = refl
keyword-free s fits While (b ∷ ws) l e = refl
keyword-free s fits End [] l e = refl
keyword-free s fits End (b ∷ ws) l e = refl

inner-tells : (v : Seen) (o : SeenBody) (k : Word) (ws : Words) (x : Option Keyword) (s : Names) (fits : Bool) (w : Seen)
    → keyword_of k ≡ x → (line_behind s fits x ws >>= see_said v o) ≡ Ok w → Tells (v.bodies ++ o.name ∷ []) (k ∷ ws) w
unfolding line_behind
inner-tells v o k ws None s fits w h e = absurd cc
inner-tells v o k ws (Some x) s fits w h e =
    let b = bind-ok (line_behind s fits (Some x) ws) (see_said v o) w e in
    let n : ℕ = statements_behind o.statements b.0 in
    let f =
    if-ok (is_over n (length o.locals) (opened (length o.open_lines) b.0)) TooMany (see_behind v o n (see_step b.0 o.open_lines)) w b.2 in
    let same : k ≡ keyword_text x = keyword-said k x h in
    same-tells (v.bodies ++ o.name ∷ []) (k ∷ ws) w
    (ap so_far (sym f.1) ∙ behind-names v o n (see_step b.0 o.open_lines))
    (ap (λ (y : Word). name_if_body (outer_of y) ws) same ∙ ap (λ (y : Option Outer). name_if_body y ws) (no-body x))
    (subst (λ (y : Word). list_all is_free (listed (named_by (y ∷ ws))) ≡ true) (sym same) (keyword-free s fits x ws b.0 b.1))

-- lines outside bodies
start-free : (ws : Words) (s : Start) → start_of [] ws ≡ Ok s → list_all is_free (listed (named_by (codes "start" ∷ ws))) ≡ true
start-free [] s e = refl
start-free (b ∷ []) s e = absurd cc
start-free (b ∷ n ∷ []) s e =
    let m = made-ok start_from (both (body_at [] b) (numbered n)) s e in
    let p = both-ok (body_at [] b) (numbered n) m.0 m.1 in
    let f = made-ok _ (named b) m.0.0 p.0 in
    one-free b (free-named b f.0 f.1)
start-free (b ∷ n ∷ w ∷ ws) s e = absurd cc

array-free : (ws : Words) → list_all is_free (listed (named_by (codes "array" ∷ ws))) ≡ true
array-free [] = refl
array-free (b ∷ ws) = refl

body-free : (ws : Words) → list_all is_free (listed (named_by (codes "body" ∷ ws))) ≡ true
body-free [] = refl
body-free (b ∷ ws) = refl

body-name : (format : ℕ) (ws : Words) (head : Word × List Word) → body_of format ws ≡ Ok head
    → name_if_body (Some outer.Body) ws ≡ Some head.0
body-name format [] head e = absurd cc
body-name format (n ∷ ws) head e = ap (λ (x : Word × List Word). Some x.0) (head-parts format n ws head e).same

outer-tells : (v : Seen) (k : Word) (ws : Words) (x : Option Outer) (w : Seen) → outer_of k ≡ x → see_outer v x ws ≡ Ok w
    → Tells (v.bodies ++ []) (k ∷ ws) w
outer-tells v k ws None w h e = absurd cc
outer-tells v k ws (Some outer.Array) w h e =
    let b = bind-ok (array_of ws) (see_array v) w e in
    same-tells (v.bodies ++ []) (k ∷ ws) w (ap so_far (sym (array-after v b.0 w b.2))) (ap (λ (o : Option Outer). name_if_body o ws) h)
    (subst (λ (y : Word). list_all is_free (listed (named_by (y ∷ ws))) ≡ true) (sym (outer-said k outer.Array h)) (array-free ws))
outer-tells v k ws (Some outer.Start) w h e =
    let b = bind-ok (start_of [] ws) (see_start v) w e in
    same-tells (v.bodies ++ []) (k ∷ ws) w (ap so_far (sym (start-after v b.0 w b.2))) (ap (λ (o : Option Outer). name_if_body o ws) h)
    (subst (λ (y : Word). list_all is_free (listed (named_by (y ∷ ws))) ≡ true) (sym (outer-said k outer.Start h)) (start-free ws b.0 b.1))
outer-tells v k ws (Some outer.Body) w h e =
    let b = bind-ok (body_of v.format ws) (see_body v) w e in
    let name : name_if_body (outer_of k) ws ≡ Some b.0.0 = ap (λ (o : Option Outer). name_if_body o ws) h ∙ body-name v.format ws b.0 b.1 in (
      ap so_far (sym (body-after v b.0 w b.2))
          ∙ ap (λ (x : List Word). x ++ b.0.0 ∷ []) (sym (append-nil v.bodies))
          ∙ ap (λ (o : Option Word). (v.bodies ++ []) ++ listed o) (sym name),
      subst (λ (y : Word). list_all is_free (listed (named_by (y ∷ ws))) ≡ true) (sym (outer-said k outer.Body h)) (body-free ws),
    )

any-tells : (v : Seen) (i : Option SeenBody) (ws : Words) (w : Seen) → see_any v i ws ≡ Ok w → Tells (v.bodies ++ open_name i) ws w
any-tells v None [] w e = absurd cc
any-tells v (Some o) [] w e = absurd cc
any-tells v None (k ∷ ws) w e = outer-tells v k ws (outer_of k) w refl e
any-tells v (Some o) (k ∷ ws) w e =
    let key : Option Keyword = known_in v.format (keyword_of k) in
    let o' : SeenBody = see_mentioning v.format o key ws in
    let s : Names = record { arrays = v.arrays; bodies = []; locals = o'.locals } in
    let b = bind-ok (line_behind s (see_else o'.open_lines) key ws) (see_said v o') w e in
    inner-tells v o' k ws key s (see_else o'.open_lines) w (sym (known-cases s (see_else o'.open_lines) v.format (keyword_of k) ws b.0 b.1))
    e

skipped-free : (ws : Words) → is_skipped ws ≡ true → list_all is_free (listed (named_by ws)) ≡ true
skipped-free [] e = refl
skipped-free (k ∷ []) e = refl
skipped-free ([] ∷ b ∷ ws) e = absurd cc
skipped-free ((c ∷ cs) ∷ b ∷ ws) e = ap (λ (x : ℕ). list_all is_free (listed (named_by ((x ∷ cs) ∷ b ∷ ws)))) (is-hash c e)

skip-tells : (v : Seen) (ws : Words) (w : Seen) (b : Bool) → is_skipped ws ≡ b → (if b then Ok v else see_any v v.inside ws) ≡ Ok w
    → Tells (so_far v) ws w
skip-tells v ws w true s e =
    let same : v ≡ w = cc in same-tells (so_far v) ws w (ap so_far (sym same)) (skipped-none ws s) (skipped-free ws s)
skip-tells v ws w false s e = any-tells v v.inside ws w e

-- the header
abbrev pub names_of : Option Seen → List Word
names_of None = []
names_of (Some v) = so_far v

abbrev pub AllTell : List Word → Words → Option Seen → Type 0
AllTell names ws q = (names_of q ≡ names ++ listed (declared_by ws)) × (list_all is_free (listed (named_by ws)) ≡ true)

bsp-none : (b : Word) → declared_by (codes "bsp" ∷ b ∷ []) ≡ None
unfolding outer_of
bsp-none b = refl

header-none : (ws : Words) (format : ℕ) → format_of ws ≡ Some format
    → (declared_by ws ≡ None) × (list_all is_free (listed (named_by ws)) ≡ true)
header-none ws format e =
    let same : ws ≡ header_words format = header-said ws format e in (
      ap declared_by same ∙ bsp-none (decimal format),
      ap (λ (x : Words). list_all is_free (listed (named_by x))) same,
    )

header-tells : (ws : Words) (q : Option Seen) (b : Bool) (o : Option ℕ) → is_skipped ws ≡ b → format_of ws ≡ o
    → ◌≡◌ {A = Result (Option Seen) Code} (if b then Ok None else see_first o) (Ok q) → AllTell [] ws q
header-tells ws q true o s h e =
    let same : None ≡ q = cc in
    (ap names_of (sym same) ∙ ap listed (sym (skipped-none ws s)), skipped-free ws s)
header-tells ws q false (Some format) s h e =
    let same : Some (seen (nothing format)) ≡ q = cc in
    let none = header-none ws format h in
    (ap names_of (sym same) ∙ ap listed (sym none.0), none.1)
header-tells ws q false None s h e = absurd cc

words-tell : (p q : Option Seen) (ws : Words) → see_words p ws ≡ Ok q → AllTell (names_of p) ws q
words-tell None q ws e = header-tells ws q (is_skipped ws) (format_of ws) refl refl e
words-tell (Some v) q ws e =
    let m = made-ok (λ (w : Seen). Some w) (see v ws) q e in
    let t = skip-tells v ws m.0 (is_skipped ws) refl m.1 in
    (ap names_of (sym m.2) ∙ t.0, t.1)

listed-free : (o : Option Word) (ws : List Word) → list_all is_free (listed o) ≡ true → list_all is_free ws ≡ true
    → list_all is_free (cons_option o ws) ≡ true
listed-free None ws e f = f
listed-free (Some w) ws e f = and-true _ _ (and-left _ true e) f

-- lines that are read declare the bodies so far, and name what may be bodies
pub lines-tell : (ls : List (List ℕ)) (p q : Option Seen) → see_lines p ls ≡ Ok q
    → (names_of q ≡ names_of p ++ declared_in ls) × (list_all is_free (named_in ls) ≡ true)
lines-tell [] p q e = let same : p ≡ q = cc in (ap names_of (sym same) ∙ sym (append-nil (names_of p)), refl)
lines-tell (l ∷ ls) p q e =
    let m = bind-ok (see_words p (words_of l)) (λ (w : Option Seen). see_lines w ls) q e in
    let t = words-tell p m.0 (words_of l) m.1 in
    let r = lines-tell ls m.0 q m.2 in (
      r.0 ∙ ap (λ (x : List Word). x ++ declared_in ls) t.0 ∙ listed-first (names_of p) (declared_by (words_of l)) (declared_in ls),
      listed-free (named_by (words_of l)) (named_in ls) t.1 r.1,
    )

-- Lines that are read, followed by the ends of what is open, are a job's.
use Rattle.std.proofs.Common.{◌≡◌, inl, inr, ℕ, suc, ◌+◌, ◌-◌, ◌≤◌, Bool, true, false, List, [], ◌∷◌, ◌++◌, length, replicate, codes, Option, Some, None, Result, Ok, Err, refl, sym, ap, subst, ◌∙◌, arith}
use Rattle.std.specs.Prelude.{if◌then◌else◌, nat_le, nat_lt, ◌||◌, not, ℤ}
use Rattle.std.proofs.lemmas.Grind.{common_steps}
use Rattle.text_lines.specs.declared.refusal.Code.{Code}
use Rattle.text_lines.specs.declared.refusal.Code.TheVariants.{Twice, TooMany}
use Rattle.text_lines.specs.Text.{words_of, is_skipped}
use Rattle.task_code.specs.Names.{is_among}
use Rattle.task_code.specs.declared.job.Start.{Start}
use Rattle.task_code.specs.Limits.{opened}
use Rattle.task_code.specs.declared.code.Line.{Line}
use Rattle.task_code.specs.declared.code.Line.TheVariants as line
use Rattle.job_reader.specs.Faults.{made}
use Rattle.job_reader.specs.Words.{Word, Words}
use Rattle.job_reader.specs.Lines.{keyword_of, known_in, line_behind, mentions_behind}
use Rattle.job_reader.specs.declared.lines.Keyword.{Keyword}
use Rattle.job_reader.proofs.SaidLemmas.{made-ok}
use Rattle.job_reader.specs.declared.outer.Outer.{Outer}
use Rattle.job_reader.specs.declared.outer.Outer.TheVariants as outer
use Rattle.job_reader.specs.Above.{nothing, statements_behind}
use Rattle.job_reader.specs.Reading.{◌>>=◌, format_of, outer_of, array_of, body_of, are_apart, start_of, is_over}
use Rattle.job_reader.proofs.SpelledOuter.{bind-ok}
use Rattle.job_reader.proofs.LocalsBehind.{behind-none}
use Rattle.text_laws.proofs.Seen.{Kind, AnIf, AnElse, AWhile, SeenBody, Seen, seen, see_array, see_body, see_start, see_outer, see_step, see_else, see_behind, see_said, see_mentioning, see_any, see}
use Rattle.text_laws.proofs.Folds.{see_first, see_words, see_lines, skip-ok}
use Rattle.job_reader.proofs.KeptJobs.{at-most}

-- an open body is within its limits
abbrev pub IsWithin : Option SeenBody → Type 0
IsWithin None = Unit {0}
IsWithin (Some o) = (o.statements ≤ 1024) × (length o.locals ≤ 32) × (length o.open_lines ≤ 16)

abbrev pub IsWithinAll : Option Seen → Type 0
IsWithinAll None = Unit {0}
IsWithinAll (Some v) = IsWithin v.inside

not-over : (n m k : ℕ) → is_over n m k ≡ false → (n ≤ 1024) × (m ≤ 32) × (k ≤ 16)
not-over n m k e = (grind (arith, common_steps), grind (arith, common_steps), grind (arith, common_steps))

still-not-over : (n m k : ℕ) → n ≤ 1024 → m ≤ 32 → k ≤ 16 → is_over n m k ≡ false
still-not-over n m k a b c = grind (arith, common_steps)

step-length : (l : Line) (ks js : List Kind) → see_step l ks ≡ Some js → length js ≡ opened (length ks) l
step-length (line.Do a) ks js e = let same : ks ≡ js = cc in ap length (sym same)
step-length (line.If e n) ks js h = let same : AnIf ∷ ks ≡ js = cc in ap length (sym same) ∙ omega arith
step-length (line.While e n) ks js h = let same : AWhile ∷ ks ≡ js = cc in ap length (sym same) ∙ omega arith
step-length (line.Else n) [] js h = absurd cc
step-length (line.Else n) (AnIf ∷ ks) js h = let same : AnElse ∷ ks ≡ js = cc in ap length (sym same)
step-length (line.Else n) (AnElse ∷ ks) js h = absurd cc
step-length (line.Else n) (AWhile ∷ ks) js h = absurd cc
step-length line.EndIf [] js h = absurd cc
step-length line.EndIf (k ∷ ks) js h = let same : ks ≡ js = cc in ap length (sym same) ∙ omega arith
step-length (line.EndWhile e n) [] js h = absurd cc
step-length (line.EndWhile e n) (k ∷ ks) js h = let same : ks ≡ js = cc in ap length (sym same) ∙ omega arith

behind-within : (v : Seen) (o : SeenBody) (n : ℕ) (k : ℕ) (s : Option (List Kind)) → is_over n (length o.locals) k ≡ false
    → ((js : List Kind) → s ≡ Some js → length js ≡ k) → IsWithin (see_behind v o n s).inside
behind-within v o n k None e h = tt
behind-within v o n k (Some js) e h =
    let b = not-over n (length o.locals) k e in (b.0, b.1, subst (λ (m : ℕ). m ≤ 16) (sym (h js refl)) b.2)

pub if-ok : {A : Type 0} (b : Bool) (c : Code) (x y : A) → ◌≡◌ {A = Result A Code} (if b then Err c else Ok x) (Ok y)
    → (b ≡ false) × (x ≡ y)
if-ok true c x y e = absurd cc
if-ok false c x y e = (refl, cc)

if-both : {A : Type 0} (a b : Bool) (c d : Code) (x y : A) → ◌≡◌ {A = Result A Code} (if a then Err c else if b then Err d else Ok x) (Ok y)
    → x ≡ y
if-both true b c d x y e = absurd cc
if-both false b c d x y e = (if-ok b d x y e).1

said-within : (v : Seen) (o : SeenBody) (l : Line) (w : Seen) → see_said v o l ≡ Ok w → IsWithin w.inside
said-within v o l w e =
    let n : ℕ = statements_behind o.statements l in
    let k : ℕ = opened (length o.open_lines) l in
    let f = if-ok (is_over n (length o.locals) k) TooMany (see_behind v o n (see_step l o.open_lines)) w e in
    subst (λ (x : Seen). IsWithin x.inside) f.1
    (behind-within v o n k (see_step l o.open_lines) f.0 (λ js h. step-length l o.open_lines js h))

-- what lines outside bodies leave
abbrev pub after_array : Seen → Word × List ℤ → Seen
after_array v x = record { format = v.format; arrays = v.arrays ++ x.0 ∷ []; bodies = v.bodies; starts = v.starts; inside = None }

abbrev pub begun_body : Word × List Word → SeenBody
begun_body head = record { name = head.0; locals = head.1; open_lines = []; statements = 0 }

abbrev pub after_body : Seen → Word × List Word → Seen
after_body v head = record { format = v.format; arrays = v.arrays; bodies = v.bodies; starts = v.starts; inside = Some (begun_body head) }

abbrev pub after_start : Seen → Seen
after_start v = record { format = v.format; arrays = v.arrays; bodies = v.bodies; starts = v.starts + 1; inside = None }

pub array-after : (v : Seen) (x : Word × List ℤ) (w : Seen) → see_array v x ≡ Ok w → after_array v x ≡ w
array-after v x w e = if-both (is_among v.arrays x.0) (nat_le 16 (length v.arrays)) Twice TooMany (after_array v x) w e

pub body-after : (v : Seen) (head : Word × List Word) (w : Seen) → see_body v head ≡ Ok w → after_body v head ≡ w
body-after v head w e =
    if-both (is_among v.bodies head.0 || not (are_apart head.1)) (nat_le 64 (length v.bodies) || nat_lt 32 (length head.1)) Twice TooMany
    (after_body v head) w e

-- a body that is begun lists few locals
few-listed : (a b c : Bool) (x y : Seen) → ◌≡◌ {A = Result Seen Code} (if a then Err Twice else if b || c then Err TooMany else Ok x) (Ok y)
    → c ≡ false
few-listed true b c x y e = absurd cc
few-listed false true c x y e = absurd cc
few-listed false false true x y e = absurd cc
few-listed false false false x y e = refl

listed-few : (v : Seen) (head : Word × List Word) (w : Seen) → see_body v head ≡ Ok w → length head.1 ≤ 32
listed-few v head w e =
    at-most (length head.1) 32
    (few-listed (is_among v.bodies head.0 || not (are_apart head.1)) (nat_le 64 (length v.bodies)) (nat_lt 32 (length head.1)) (after_body v head) w e)

pub start-after : (v : Seen) (s : Start) (w : Seen) → see_start v s ≡ Ok w → after_start v ≡ w
start-after v s w e = (if-ok (nat_le 4096 v.starts) TooMany (after_start v) w e).1

pub begun-within : (head : Word × List Word) → length head.1 ≤ 32 → IsWithin (Some (begun_body head))
begun-within head few = (omega arith, few, omega arith)

outer-within : (v : Seen) (k : Option Outer) (ws : Words) (w : Seen) → see_outer v k ws ≡ Ok w → IsWithin w.inside
outer-within v None ws w e = absurd cc
outer-within v (Some outer.Array) ws w e =
    let b = bind-ok (array_of ws) (see_array v) w e in
    subst (λ (x : Seen). IsWithin x.inside) {x = after_array v b.0} (array-after v b.0 w b.2) tt
outer-within v (Some outer.Body) ws w e =
    let b = bind-ok (body_of v.format ws) (see_body v) w e in
    subst (λ (x : Seen). IsWithin x.inside) {x = after_body v b.0} (body-after v b.0 w b.2) (begun-within b.0 (listed-few v b.0 w b.2))
outer-within v (Some outer.Start) ws w e =
    let b = bind-ok (start_of [] ws) (see_start v) w e in
    subst (λ (x : Seen). IsWithin x.inside) {x = after_start v} (start-after v b.0 w b.2) tt

any-within : (v : Seen) (i : Option SeenBody) (ws : Words) (w : Seen) → see_any v i ws ≡ Ok w → IsWithin w.inside
any-within v None [] w e = absurd cc
any-within v (Some o) [] w e = absurd cc
any-within v None (k ∷ ws) w e = outer-within v (outer_of k) ws w e
any-within v (Some o) (k ∷ ws) w e =
    let key : Option Keyword = known_in v.format (keyword_of k) in
    let o' : SeenBody = see_mentioning v.format o key ws in
    let said : Result Line Code =
    line_behind (record { arrays = v.arrays; bodies = []; locals = o'.locals }) (see_else o'.open_lines) key ws in
    let b = bind-ok said (see_said v o') w e in
    said-within v (see_mentioning v.format o key ws) b.0 w b.2

see-within : (v : Seen) (ws : Words) (w : Seen) → IsWithin v.inside → see v ws ≡ Ok w → IsWithin w.inside
see-within v ws w h e =
    elim (skip-ok (is_skipped ws) v w (see_any v v.inside ws) e) [
      | inl x ↦ subst (λ (y : Seen). IsWithin y.inside) x h
      | inr x ↦ any-within v v.inside ws w x
    ]

header-within : (b : Bool) (o : Option ℕ) (q : Option Seen)
    → ◌≡◌ {A = Result (Option Seen) Code} (if b then Ok None else see_first o) (Ok q) → IsWithinAll q
header-within true o q e = let same : None ≡ q = cc in subst IsWithinAll same tt
header-within false (Some format) q e = let same : Some (seen (nothing format)) ≡ q = cc in subst IsWithinAll same tt
header-within false None q e = absurd cc

words-within : (p q : Option Seen) (ws : Words) → IsWithinAll p → see_words p ws ≡ Ok q → IsWithinAll q
words-within None q ws h e = header-within (is_skipped ws) (format_of ws) q e
words-within (Some v) q ws h e =
    let m = made-ok (λ (w : Seen). Some w) (see v ws) q e in subst IsWithinAll m.2 (see-within v ws m.0 h m.1)

pub lines-within : (ls : List (List ℕ)) (p q : Option Seen) → IsWithinAll p → see_lines p ls ≡ Ok q → IsWithinAll q
lines-within [] p q h e = let same : p ≡ q = cc in subst IsWithinAll same h
lines-within (l ∷ ls) p q h e =
    let m = bind-ok (see_words p (words_of l)) (λ (w : Option Seen). see_lines w ls) q e in
    lines-within ls m.0 q (words-within p m.0 (words_of l) h m.1) m.2

-- an end closes the innermost open line, or the body
abbrev pub end_line : List ℕ
end_line = codes "end"

pub end-read : (v : Seen) (o : SeenBody) → IsWithin (Some o)
    → see_any v (Some o) (words_of end_line) ≡ Ok (see_behind v o o.statements (see_step line.EndIf o.open_lines))
unfolding keyword_of line_behind mentions_behind
end-read v o h =
    let few : length o.open_lines - 1 ≤ 16 = omega (arith, h.2) in
    let end : Line = line.EndIf in
    ap (λ (ls : List Word). see_said v (record { name = o.name; locals = ls; open_lines = o.open_lines; statements = o.statements }) end)
    (behind-none v.format o.locals)
    ∙ ap (λ (b : Bool). if b then Err TooMany else Ok (see_behind v o o.statements (see_step line.EndIf o.open_lines)))
    (still-not-over o.statements (length o.locals) (length o.open_lines - 1) h.0 h.1 few)

-- a body is closed by an end for each open line, and one more
abbrev pub IsClosed : Result (Option Seen) Code → Type 0
IsClosed r = (w : Seen) × (r ≡ Ok (Some w)) × (w.inside ≡ None)

ends-read : (ks : List Kind) (format : ℕ) (arrays bodies : List Word) (starts : ℕ) (name : Word) (locals : List Word) (n : ℕ)
    → n ≤ 1024 → length locals ≤ 32 → length ks ≤ 16
    → IsClosed (see_lines
    (Some (record {
      format = format;
      arrays = arrays;
      bodies = bodies;
      starts = starts;
      inside = Some (record { name = name; locals = locals; open_lines = ks; statements = n });
    }))
    (replicate (suc (length ks)) end_line))
ends-read [] format arrays bodies starts name locals n a b c =
    let o : SeenBody = record { name = name; locals = locals; open_lines = []; statements = n } in
    let v : Seen = record { format = format; arrays = arrays; bodies = bodies; starts = starts; inside = Some o } in (
      record { format = format; arrays = arrays; bodies = bodies ++ name ∷ []; starts = starts; inside = None },
      ap (λ (r : Result Seen Code). made (λ w. Some w) r >>= λ w. see_lines w []) (end-read v o (a, b, c)),
      refl,
    )
ends-read (k ∷ ks) format arrays bodies starts name locals n a b c =
    let o : SeenBody = record { name = name; locals = locals; open_lines = k ∷ ks; statements = n } in
    let v : Seen = record { format = format; arrays = arrays; bodies = bodies; starts = starts; inside = Some o } in
    let few : length ks ≤ 16 = omega (arith, c) in
    let rest = ends-read ks format arrays bodies starts name locals n a b few in (
      rest.0,
      ap (λ (r : Result Seen Code). made (λ w. Some w) r >>= λ w. see_lines w (replicate (suc (length ks)) end_line))
          (end-read v o (a, b, c))
          ∙ rest.1,
      rest.2,
    )

-- how many ends are missing
abbrev pub ends : Option SeenBody → ℕ
ends None = 0
ends (Some o) = suc (length o.open_lines)

pub ends-few : (i : Option SeenBody) → IsWithin i → ends i ≤ 17
ends-few None h = omega arith
ends-few (Some o) h = omega (arith, h.2)

closed-by : (format : ℕ) (arrays bodies : List Word) (starts : ℕ) (i : Option SeenBody) → IsWithin i
    → IsClosed
    (see_lines (Some (record { format = format; arrays = arrays; bodies = bodies; starts = starts; inside = i })) (replicate (ends i) end_line))
closed-by format arrays bodies starts None h =
    (record { format = format; arrays = arrays; bodies = bodies; starts = starts; inside = None }, refl, refl)
closed-by format arrays bodies starts (Some o) h =
    ends-read o.open_lines format arrays bodies starts o.name o.locals o.statements h.0 h.1 h.2

pub lines-append : (ls more : List (List ℕ)) (p q : Option Seen) → see_lines p ls ≡ Ok q → see_lines p (ls ++ more) ≡ see_lines q more
lines-append [] more p q e = let same : p ≡ q = cc in ap (λ (x : Option Seen). see_lines x more) same
lines-append (l ∷ ls) more p q e =
    let m = bind-ok (see_words p (words_of l)) (λ (w : Option Seen). see_lines w ls) q e in
    ap (λ (r : Result (Option Seen) Code). r >>= λ w. see_lines w (ls ++ more)) m.1 ∙ lines-append ls more m.0 q m.2

pub closes : (ls : List (List ℕ)) (v : Seen) → see_lines None ls ≡ Ok (Some v)
    → IsClosed (see_lines None (ls ++ replicate (ends v.inside) end_line))
closes ls v e =
    let c = closed-by v.format v.arrays v.bodies v.starts v.inside (lines-within ls None (Some v) tt e) in
    (c.0, lines-append ls (replicate (ends v.inside) end_line) None (Some v) e ∙ c.1, c.2)

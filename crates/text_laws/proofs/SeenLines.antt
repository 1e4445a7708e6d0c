-- A line is read with no look at the bodies of the text.
use Rattle.std.proofs.Common.{◌≡◌, ℕ, ◌+◌, Bool, true, false, List, [], ◌∷◌, ◌++◌, length, Option, Some, None, option_map, Result, Ok, Err, refl, sym, ap, ◌∙◌, length-append}
use Rattle.std.specs.Prelude.{if◌then◌else◌, nat_le, nat_lt, ◌||◌, not, ℤ, unwrap_or}
use Rattle.superstep_memory.specs.declared.arrays.PutKind as put
use Rattle.std.proofs.lemmas.List.{map-append, length-map}
use Rattle.text_lines.specs.declared.refusal.Code.{Code}
use Rattle.text_lines.specs.declared.refusal.Code.TheVariants.{Twice, TooMany}
use Rattle.text_lines.specs.Text.{is_skipped}
use Rattle.task_code.specs.Names.{is_among}
use Rattle.task_code.specs.Limits.{opened}
use Rattle.task_code.specs.Tree.{Block}
use Rattle.task_code.specs.Open.{Frame, InIf, InElse, InWhile, step_of}
use Rattle.task_code.specs.declared.code.Expr.{Expr}
use Rattle.task_code.specs.declared.code.Action.TheVariants as action
use Rattle.task_code.specs.declared.code.Line.{Line}
use Rattle.task_code.specs.declared.code.Line.TheVariants as line
use Rattle.task_code.specs.declared.job.Start.{Start}
use Rattle.job_reader.specs.Faults.{both, made}
use Rattle.job_reader.specs.Words.{Word, Words, named, numbered, place_from, declared_at}
use Rattle.job_reader.specs.Exprs.{Names, expr_of, operand_of, cell_of}
use Rattle.job_reader.specs.declared.lines.Keyword.{Keyword}
use Rattle.job_reader.specs.declared.lines.Keyword.TheVariants as keyword
use Rattle.job_reader.specs.Lines.{keyword_of, known_in, line_behind, let_of, put_of, spawn_of, let_line, put_line, spawn_line, is_equals}
use Rattle.job_reader.specs.declared.outer.Outer.{Outer}
use Rattle.job_reader.specs.declared.outer.Outer.TheVariants as outer
use Rattle.job_reader.specs.Trees.{BodyTree, JobTree, array_names, body_names}
use Rattle.job_reader.specs.Above.{Inside, Above, can_else, begun, statements_behind, ended}
use Rattle.job_reader.specs.Reading.{
  ◌>>=◌,
  outer_of,
  array_of,
  body_of,
  are_apart,
  start_from,
  start_of,
  with_array,
  new_body,
  with_start,
  outer_line,
  is_over,
  within_limits,
  behind,
  with_line,
  noted_line,
  mentioning,
  any_line,
  is_missing,
  first_missing,
  line_step,
  kept_step,
}
use Rattle.text_laws.proofs.Seen.{
  Kind,
  kind_of,
  kinds,
  SeenBody,
  Seen,
  seen_body,
  seen_of,
  seen,
  see_array,
  see_body,
  see_start,
  see_outer,
  see_step,
  see_else,
  see_behind,
  see_said,
  see_noted,
  see_any,
  see,
}

abbrev Spot : Type 0
Spot = JobTree × Option Inside

two-limits : {A : Type 0} (f : A → Spot) (b c : Bool) (x : A) (v : Seen) → seen_of (f x) ≡ v
    → made seen_of (made f (if b then Err Twice else if c then Err TooMany else Ok x))
    ≡ (if b then Err Twice else if c then Err TooMany else Ok v)
two-limits f true c x v e = refl
two-limits f false true x v e = refl
two-limits f false false x v e = ap (λ (z : Seen). Ok z) e

one-limit : {A : Type 0} (f : A → Spot) (c : Bool) (x : A) (v : Seen) → seen_of (f x) ≡ v
    → made seen_of (made f (if c then Err TooMany else Ok x)) ≡ (if c then Err TooMany else Ok v)
one-limit f true x v e = refl
one-limit f false x v e = ap (λ (z : Seen). Ok z) e

-- lines outside bodies
array-seen : (j : JobTree) (i : Option Inside) (r : Result (Word × List ℤ) Code)
    → made seen_of (made (λ k. (k, None)) (r >>= with_array j)) ≡ (r >>= see_array (seen_of (j, i)))
array-seen j i (Err c) = refl
array-seen j i (Ok x) =
    two-limits (λ (k : JobTree). (k, None)) (is_among (array_names j) x.0) (nat_le 16 (length (array_names j)))
    (record j { arrays = j.arrays ++ x ∷ [] })
    (record { format = j.format; arrays = array_names j ++ x.0 ∷ []; bodies = body_names j; starts = length j.starts; inside = None })
    (ap (λ (ns : List Word). record { format = j.format; arrays = ns; bodies = body_names j; starts = length j.starts; inside = None })
    (map-append (λ (a : Word × List ℤ). a.0) j.arrays (x ∷ [])))

body-seen : (j : JobTree) (i : Option Inside) (r : Result (Word × List Word) Code)
    → made seen_of (made (λ o. (j, Some o)) (r >>= new_body j)) ≡ (r >>= see_body (seen_of (j, i)))
body-seen j i (Err c) = refl
body-seen j i (Ok head) =
    two-limits (λ (o : Inside). (j, Some o)) (is_among (body_names j) head.0 || not (are_apart head.1))
    (nat_le 64 (length (body_names j)) || nat_lt 32 (length head.1)) (begun head)
    (record {
      format = j.format;
      arrays = array_names j;
      bodies = body_names j;
      starts = length j.starts;
      inside = Some (record { name = head.0; locals = head.1; open_lines = []; statements = 0 });
    })
    refl

from-seen : (j : JobTree) (i : Option Inside) (s t : Start)
    → made seen_of (made (λ k. (k, None)) (with_start j s)) ≡ see_start (seen_of (j, i)) t
from-seen j i s t =
    one-limit (λ (k : JobTree). (k, None)) (nat_le 4096 (length j.starts)) (record j { starts = j.starts ++ s ∷ [] })
    (record { format = j.format; arrays = array_names j; bodies = body_names j; starts = length j.starts + 1; inside = None })
    (ap (λ (n : ℕ). record { format = j.format; arrays = array_names j; bodies = body_names j; starts = n; inside = None }) (length-append j.starts (s ∷ [])))

parts-seen : (j : JobTree) (i : Option Inside) (f g : Unit {0} → ℕ) (r : Result (Unit {0}) Code) (n : Result ℤ Code)
    → made seen_of (made (λ k. (k, None)) (made start_from (both (made f r) n) >>= with_start j))
    ≡ (made start_from (both (made g r) n) >>= see_start (seen_of (j, i)))
parts-seen j i f g (Err c) (Err d) = refl
parts-seen j i f g (Err c) (Ok n) = refl
parts-seen j i f g (Ok u) (Err d) = refl
parts-seen j i f g (Ok u) (Ok n) = from-seen j i (start_from (f u, n)) (start_from (g u, n))

start-seen : (bodies : List Word) (j : JobTree) (i : Option Inside) (ws : Words)
    → made seen_of (made (λ k. (k, None)) (start_of bodies ws >>= with_start j)) ≡ (start_of [] ws >>= see_start (seen_of (j, i)))
start-seen bodies j i [] = refl
start-seen bodies j i (b ∷ []) = refl
start-seen bodies j i (b ∷ n ∷ []) =
    parts-seen j i (λ u. unwrap_or (place_from 0 bodies b) 0) (λ u. unwrap_or (place_from 0 [] b) 0) (named b) (numbered n)
start-seen bodies j i (b ∷ n ∷ w ∷ ws) = refl

outer-seen : (bodies : List Word) (j : JobTree) (k : Option Outer) (ws : Words)
    → made seen_of (outer_line bodies j k ws) ≡ see_outer (seen_of (j, None)) k ws
outer-seen bodies j None ws = refl
outer-seen bodies j (Some outer.Array) ws = array-seen j None (array_of ws)
outer-seen bodies j (Some outer.Body) ws = body-seen j None (body_of j.format ws)
outer-seen bodies j (Some outer.Start) ws = start-seen bodies j None ws

-- open lines
else-seen : (fs : List Frame) → see_else (kinds fs) ≡ can_else fs
else-seen [] = refl
else-seen (InIf e before ∷ fs) = refl
else-seen (InElse e before a ∷ fs) = refl
else-seen (InWhile e before ∷ fs) = refl

abbrev kinds_behind : Option (List Frame × Block) → Option (List Kind)
kinds_behind s = option_map (λ p. kinds p.0) s

step-seen : (l : Line) (fs : List Frame) (b : Block) → kinds_behind (step_of l fs b) ≡ see_step l (kinds fs)
step-seen (line.Do a) fs b = refl
step-seen (line.If e n) fs b = refl
step-seen (line.While e n) fs b = refl
step-seen (line.Else n) [] b = refl
step-seen (line.Else n) (InIf e before ∷ fs) b = refl
step-seen (line.Else n) (InElse e before a ∷ fs) b = refl
step-seen (line.Else n) (InWhile e before ∷ fs) b = refl
step-seen line.EndIf [] b = refl
step-seen line.EndIf (f ∷ fs) b = refl
step-seen (line.EndWhile e n) [] b = refl
step-seen (line.EndWhile e n) (f ∷ fs) b = refl

behind-seen : (j : JobTree) (o : Inside) (n : ℕ) (s : Option (List Frame × Block))
    → seen_of (behind j o n s) ≡ see_behind (seen_of (j, Some o)) (seen_body o) n (kinds_behind s)
behind-seen j o n None =
    ap (λ (ns : List Word). record { format = j.format; arrays = array_names j; bodies = ns; starts = length j.starts; inside = None })
    (map-append (λ (b : BodyTree). b.name) j.bodies (ended o ∷ []))
behind-seen j o n (Some s) = refl

with-seen : (j : JobTree) (o : Inside) (l : Line)
    → seen_of (with_line j o l)
    ≡ see_behind (seen_of (j, Some o)) (seen_body o) (statements_behind o.statements l) (see_step l (kinds o.frames))
with-seen j o l =
    behind-seen j o (statements_behind o.statements l) (step_of l o.frames o.block)
    ∙ ap (see_behind (seen_of (j, Some o)) (seen_body o) (statements_behind o.statements l)) (step-seen l o.frames o.block)

said-seen : (j : JobTree) (o : Inside) (l : Line)
    → made seen_of (made (with_line j o) (within_limits o l)) ≡ see_said (seen_of (j, Some o)) (seen_body o) l
said-seen j o l =
    let n : ℕ = statements_behind o.statements l in
    let v : Seen = see_behind (seen_of (j, Some o)) (seen_body o) n (see_step l (kinds o.frames)) in
    one-limit (with_line j o) (is_over n (length o.locals) (opened (length o.frames) l)) l v (with-seen j o l)
    ∙ ap (λ (d : ℕ). if is_over n (length o.locals) (opened d l) then Err TooMany else Ok v) (sym (length-map o.frames kind_of))

bind-seen : (j : JobTree) (o : Inside) (r : Result Line Code)
    → made seen_of (made (with_line j o) (r >>= within_limits o)) ≡ (r >>= see_said (seen_of (j, Some o)) (seen_body o))
bind-seen j o (Err c) = refl
bind-seen j o (Ok l) = said-seen j o l

-- the numbers of bodies aren't looked at
spawn-parts : (v : Seen) (o : SeenBody) (f g : Unit {0} → ℕ) (r : Result (Unit {0}) Code) (e : Result Expr Code)
    → (made spawn_line (both (made f r) e) >>= see_said v o) ≡ (made spawn_line (both (made g r) e) >>= see_said v o)
spawn-parts v o f g (Err c) (Err d) = refl
spawn-parts v o f g (Err c) (Ok e) = refl
spawn-parts v o f g (Ok u) (Err d) = refl
spawn-parts v o f g (Ok u) (Ok e) = refl

module _ (v : Seen) (o : SeenBody) (arrays bodies locals : List Word) (fits : Bool) where
  abbrev Here : Names
  Here = record { arrays = arrays; bodies = bodies; locals = locals }

  abbrev Bare : Names
  Bare = record { arrays = arrays; bodies = []; locals = locals }

  expr-bare : (ws : Words) → expr_of Here ws ≡ expr_of Bare ws
  unfolding operand_of cell_of
  expr-bare [] = refl
  expr-bare (a ∷ []) = refl
  expr-bare (a ∷ op ∷ []) = refl
  expr-bare (a ∷ op ∷ b ∷ []) = refl
  expr-bare (a ∷ op ∷ b ∷ c ∷ ws) = refl

  spawn-bare : (ws : Words) → (spawn_of Here ws >>= see_said v o) ≡ (spawn_of Bare ws >>= see_said v o)
  spawn-bare [] = refl
  spawn-bare (b ∷ ws) =
      spawn-parts v o (λ u. unwrap_or (place_from 0 bodies b) 0) (λ u. unwrap_or (place_from 0 [] b) 0) (named b) (expr_of Here ws)
      ∙ ap (λ (e : Result Expr Code). made spawn_line (both (made (λ u. unwrap_or (place_from 0 [] b) 0) (named b)) e) >>= see_said v o)
      (expr-bare ws)

  let-bare : (ws : Words) → let_of Here ws ≡ let_of Bare ws
  let-bare [] = refl
  let-bare (n ∷ []) = refl
  let-bare (n ∷ is ∷ ws) = ap (λ (e : Result Expr Code). made let_line (both (both (is_equals is) (declared_at locals n)) e)) (expr-bare ws)

  put-bare : (kind : put.PutKind) (ws : Words) → put_of Here kind ws ≡ put_of Bare kind ws
  unfolding cell_of
  put-bare kind [] = refl
  put-bare kind (c ∷ []) = refl
  put-bare kind (c ∷ is ∷ ws) =
      ap (λ (e : Result Expr Code). made (put_line kind) (both (both (cell_of Here c) (is_equals is)) e)) (expr-bare ws)

  line-bare : (k : Option Keyword) (ws : Words)
      → (line_behind Here fits k ws >>= see_said v o) ≡ (line_behind Bare fits k ws >>= see_said v o)
  unfolding line_behind
  line-bare None ws = refl
  line-bare (Some keyword.Let) ws = ap (λ (r : Result Line Code). r >>= see_said v o) (let-bare ws)
  line-bare (Some (keyword.Put kind)) ws = ap (λ (r : Result Line Code). r >>= see_said v o) (put-bare kind ws)
  line-bare (Some keyword.Print) ws =
      ap (λ (e : Result Expr Code). made (λ x. line.Do (action.Print x)) e >>= see_said v o) (expr-bare ws)
  line-bare (Some keyword.Spawn) ws = spawn-bare ws
  line-bare (Some keyword.Sync) ws = refl
  line-bare (Some keyword.Stop) ws = refl
  line-bare (Some keyword.If) ws = ap (λ (e : Result Expr Code). made (λ x. line.If x 0) e >>= see_said v o) (expr-bare ws)
  line-bare (Some keyword.Else) ws = refl
  line-bare (Some keyword.While) ws = ap (λ (e : Result Expr Code). made (λ x. line.While x 0) e >>= see_said v o) (expr-bare ws)
  line-bare (Some keyword.End) ws = refl

noted-seen : (bodies : List Word) (j : JobTree) (o : Inside) (k : Option Keyword) (ws : Words)
    → made seen_of (noted_line bodies j o k ws) ≡ see_noted (seen_of (j, Some o)) (seen_body o) k ws
noted-seen bodies j o k ws =
    let v : Seen = seen_of (j, Some o) in
    bind-seen j o (line_behind (record { arrays = array_names j; bodies = bodies; locals = o.locals }) (can_else o.frames) k ws)
    ∙ line-bare v (seen_body o) (array_names j) bodies o.locals (can_else o.frames) k ws
    ∙ ap (λ (b : Bool). line_behind (record { arrays = array_names j; bodies = []; locals = o.locals }) b k ws >>= see_said v (seen_body o))
    (sym (else-seen o.frames))

-- any line
any-seen : (bodies : List Word) (j : JobTree) (i : Option Inside) (ws : Words)
    → made seen_of (any_line bodies j i ws) ≡ see_any (seen_of (j, i)) (option_map seen_body i) ws
any-seen bodies j None [] = refl
any-seen bodies j (Some o) [] = refl
any-seen bodies j None (k ∷ ws) = outer-seen bodies j (outer_of k) ws
any-seen bodies j (Some o) (k ∷ ws) =
    noted-seen bodies j (mentioning j.format o (known_in j.format (keyword_of k)) ws) (known_in j.format (keyword_of k)) ws

made-twice : {A B C : Type 0} (f : A → B) (g : B → C) (h : A → C) (r : Result A Code) → ((x : A) → g (f x) ≡ h x)
    → made g (made f r) ≡ made h r
made-twice f g h (Ok x) e = ap (λ z. Ok z) (e x)
made-twice f g h (Err c) e = refl

skip-seen : (a : Above) (b : Bool) (r : Result Above Code) (s : Result Seen Code) → made seen r ≡ s
    → made seen (if b then Ok a else r) ≡ (if b then Ok (seen a) else s)
skip-seen a true r s e = refl
skip-seen a false r s e = e

-- a line of the text is read alike if what is above it is seen alike, whatever bodies the text has
pub line-seen : (bodies : List Word) (n : ℕ) (a : Above) (ws : Words) → made seen (kept_step bodies n a ws) ≡ see (seen a) ws
line-seen bodies n a ws =
    skip-seen a (is_skipped ws) (line_step bodies n a ws) (see_any (seen a) (option_map seen_body a.inside) ws)
    (made-twice (λ (p : Spot). record { job = p.0; inside = p.1; missing = first_missing a.missing n (is_missing bodies ws) }) seen seen_of
    (any_line bodies a.job a.inside ws) (λ p. refl)
    ∙ any-seen bodies a.job a.inside ws)

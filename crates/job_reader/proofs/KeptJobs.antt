-- What a job and its open body keep while lines are read.
use Rattle.std.proofs.Common.{◌≡◌, ℕ, ◌<◌, ◌≤◌, Bool, true, false, List, [], ◌∷◌, ◌++◌, length, map, Option, Some, None, Result, Ok, Err, refl, sym, ap, subst, ◌∙◌, arith, length-append}
use Rattle.std.specs.Prelude.{if◌then◌else◌, nat_lt, ◌||◌}
use Rattle.std.specs.List.{list_all}
use Rattle.std.proofs.lemmas.List.{map-append}
use Rattle.std.proofs.lemmas.Grind.{common_steps}
use Rattle.text_lines.specs.declared.refusal.Code.{Code}
use Rattle.text_lines.specs.declared.refusal.Code.TheVariants.{TooMany}
use Rattle.task_code.specs.Names.{is_free, is_among, are_names}
use Rattle.task_code.specs.Mentions.{in_line, mentions, mentioned, are_below}
use Rattle.task_code.specs.Limits.{statements, opened, deepest, is_of_first, fits_line}
use Rattle.task_code.specs.Rules.{IsBody, IsOfFirst, is_format}
use Rattle.task_code.specs.Tree.{Block, flat}
use Rattle.task_code.specs.Open.{Frame, InIf, InElse, InWhile, open_code, step_of}
use Rattle.task_code.specs.declared.code.Line.{Line}
use Rattle.task_code.specs.declared.code.Line.TheVariants as line
use Rattle.task_code.proofs.Reading.{matched-flat}
use Rattle.job_reader.specs.Words.{Word, Words, noted}
use Rattle.job_reader.specs.Exprs.{Names}
use Rattle.job_reader.specs.declared.lines.Keyword.{Keyword}
use Rattle.job_reader.specs.Lines.{known_in, line_behind, mentions_behind}
use Rattle.job_reader.proofs.SaidLemmas.{made-ok, and-true}
use Rattle.job_reader.proofs.GrowLemmas.{below-grows}
use Rattle.job_reader.specs.Trees.{BodyTree, JobTree, array_names, body_names}
use Rattle.job_reader.specs.Above.{Inside, nothing, can_else, sits, ended, statements_behind}
use Rattle.job_reader.specs.Legal.{flat_body}
use Rattle.job_reader.specs.Kept.{KeptBody, AreKept, KeptJob, KeptFirst, Counted, KeptOpen, KeptAt, IsWhole, EndsWhole, HasKeptInside, HasEnding}
use Rattle.job_reader.specs.Relates.{IsInside, IsOpened}
use Rattle.job_reader.specs.declared.inside.OpenBody.{OpenBody}
use Rattle.job_reader.specs.declared.so_far.SoFar.{SoFar}
use Rattle.job_reader.specs.Reading.{◌>>=◌, is_over, within_limits, said, behind, with_line, mentioning, inner_line}
use Rattle.job_reader.proofs.LineLemmas.{within-sits}
use Rattle.job_reader.proofs.OpenLemmas.{ends-body, said-sits}
use Rattle.job_reader.proofs.ReadWords.{line-reads}
use Rattle.job_reader.proofs.BodyCounts.{counted-step}
use Rattle.job_reader.proofs.MentionsSaid.{line-below, line-order, mentions-step, order-step}
use Rattle.job_reader.proofs.NotedNames.{names-put}
use Rattle.job_reader.proofs.LocalsBehind.{locals-grow, names-behind}
use Rattle.job_reader.proofs.Known.{said-known}
use Rattle.job_reader.proofs.StepCode.{step-map}
use Rattle.job_reader.proofs.SpelledInside.{all-mapped}
use Rattle.job_reader.specs.Grammar.{locals_behind, is_in_format}
use Rattle.std.proofs.lemmas.List.Folds.{list_all-append}

pub kept-nothing : (format : ℕ) → is_format format ≡ true → KeptJob (nothing format).job
kept-nothing format known = record {
  format = known;
  few_arrays = omega arith;
  few_bodies = omega arith;
  few_starts = omega arith;
  arrays = refl;
  arrays_named = refl;
  cells = refl;
  bodies_named = refl;
  bodies = tt;
  args = refl;
}

kept-put : (format : ℕ) (bs : List BodyTree) (b : BodyTree) → AreKept format bs → KeptBody format b → AreKept format (bs ++ b ∷ [])
kept-put format [] b h k = (k, tt)
kept-put format (x ∷ bs) b h k = (h.0, kept-put format bs b h.1 k)

pub at-most : (a b : ℕ) → nat_lt b a ≡ false → a ≤ b
at-most a b e = grind (arith, common_steps)

-- within the limits of a body
abbrev Within : Inside → Line → Type 0
Within o l = (statements_behind o.statements l ≤ 1024) × (length o.locals ≤ 32) × (opened (length o.frames) l ≤ 16)

not-over : (o : Inside) (l : Line) → is_over (statements_behind o.statements l) (length o.locals) (opened (length o.frames) l) ≡ false
    → Within o l
not-over o l e =
    parts (nat_lt 1024 (statements_behind o.statements l)) (nat_lt 32 (length o.locals)) (nat_lt 16 (opened (length o.frames) l)) refl refl
    refl e
  where
    parts : (a b c : Bool) → nat_lt 1024 (statements_behind o.statements l) ≡ a → nat_lt 32 (length o.locals) ≡ b
        → nat_lt 16 (opened (length o.frames) l) ≡ c
        → (a || b || c) ≡ false → Within o l
    parts true b c x y z f = absurd cc
    parts false true c x y z f = absurd cc
    parts false false true x y z f = absurd cc
    parts false false false x y z f =
        (at-most (statements_behind o.statements l) 1024 x, at-most (length o.locals) 32 y, at-most (opened (length o.frames) l) 16 z)

within-case : (o : Inside) (k l : Line) (b : Bool)
    → is_over (statements_behind o.statements k) (length o.locals) (opened (length o.frames) k) ≡ b
    → ◌≡◌ {A = Result Line Code} (if b then Err TooMany else Ok k) (Ok l) → Within o l
within-case o k l true h e = absurd cc
within-case o k l false h e = let same : k ≡ l = cc in subst (Within o) same (not-over o k h)

within-few : (r : Result Line Code) (o : Inside) (l : Line) → (r >>= within_limits o) ≡ Ok l → Within o l
within-few (Err c) o l e = absurd cc
within-few (Ok k) o l e =
    within-case o k l (is_over (statements_behind o.statements k) (length o.locals) (opened (length o.frames) k)) refl e

-- a line that no open line takes is outside of all open lines
none-open : (l : Line) (fs : List Frame) (b : Block) → step_of l fs b ≡ None → sits (can_else fs) l ≡ true → fs ≡ []
none-open (line.Do a) fs b e t = absurd cc
none-open (line.If x n) fs b e t = absurd cc
none-open (line.While x n) fs b e t = absurd cc
none-open (line.Else n) [] b e t = refl
none-open (line.Else n) (InIf x y ∷ fs) b e t = absurd cc
none-open (line.Else n) (InElse x y z ∷ fs) b e t = absurd cc
none-open (line.Else n) (InWhile x y ∷ fs) b e t = absurd cc
none-open line.EndIf [] b e t = refl
none-open line.EndIf (f ∷ fs) b e t = absurd cc
none-open (line.EndWhile x n) [] b e t = refl
none-open (line.EndWhile x n) (f ∷ fs) b e t = absurd cc

-- a job with a body more
body-put : (j : JobTree) (b : BodyTree) → KeptJob j → KeptBody j.format b → is_among (body_names j) b.name ≡ false
    → length (body_names j) < 64
    → KeptJob (record j { bodies = j.bodies ++ b ∷ [] })
body-put j b g h new capacity =
    let names : map (λ x. x.name) (j.bodies ++ b ∷ []) ≡ body_names j ++ b.name ∷ [] = map-append (λ x. x.name) j.bodies (b ∷ []) in
    record {
      format = g.format;
      few_arrays = g.few_arrays;
      few_bodies = subst (λ (x : List Word). length x ≤ 64) (sym names) (omega (arith, length-append (body_names j) (b.name ∷ [])));
      few_starts = g.few_starts;
      arrays = g.arrays;
      arrays_named = g.arrays_named;
      cells = g.cells;
      bodies_named = ap are_names names ∙ names-put (body_names j) b.name g.bodies_named h.0.name new;
      bodies = kept-put j.format j.bodies b g.bodies h;
      args = g.args;
    }

ended-kept : (o : Inside) → is_free o.name ≡ true → are_names o.locals ≡ true → length o.locals ≤ 32
    → are_below (length o.locals) (mentions (open_code o.frames o.block)) ≡ true → Counted o.frames o.block o.statements → o.frames ≡ []
    → IsBody (flat_body (ended o))
ended-kept o name locals few below c none =
    let code : open_code o.frames o.block ≡ flat o.block = ap (λ (fs : List Frame). open_code fs o.block) none in
    let count : statements (flat o.block) ≡ o.statements = sym (ap statements code) ∙ c.counts in
    record {
      name = name;
      few = few;
      locals = locals;
      statements = subst (λ (n : ℕ). n ≤ 1024) (sym count) c.few;
      depth = subst (λ (x : List Line). deepest 0 x ≤ 16) code c.shallow;
      mentions = sym (ap (λ (x : List Line). are_below (length o.locals) (mentions x)) code) ∙ below;
      matched = matched-flat o.block;
      numbers = sym (ap (list_all fits_line) code) ∙ c.numbers;
    }

-- a line that no open line takes mentions nothing
none-mentions : (l : Line) (fs : List Frame) (b : Block) → step_of l fs b ≡ None → sits (can_else fs) l ≡ true → in_line l ≡ []
none-mentions (line.Do a) fs b e t = absurd cc
none-mentions (line.If x n) fs b e t = absurd cc
none-mentions (line.While x n) fs b e t = absurd cc
none-mentions (line.Else n) fs b e t = refl
none-mentions line.EndIf fs b e t = refl
none-mentions (line.EndWhile x n) fs b e t = refl

-- the open body's mentions with a line more
below-step : (l : Line) (fs : List Frame) (b : Block) (s : List Frame × Block) (n : ℕ) → step_of l fs b ≡ Some s
    → are_below n (mentions (open_code fs b)) ≡ true → are_below n (in_line l) ≡ true → are_below n (mentions (open_code s.0 s.1)) ≡ true
below-step l fs b s n e before here =
    ap (are_below n) (mentions-step l fs b s e) ∙ list_all-append (λ i. nat_lt i n) (mentions (open_code fs b)) (in_line l)
    ∙ and-true _ _ before here

-- and whether it has an add
first-step : (l : Line) (fs : List Frame) (b : Block) (s : List Frame × Block) → step_of l fs b ≡ Some s
    → list_all is_of_first (open_code fs b) ≡ true → is_of_first l ≡ true → list_all is_of_first (open_code s.0 s.1) ≡ true
first-step l fs b s e before here =
    sym (all-mapped is_of_first (open_code s.0 s.1))
    ∙ ap (λ (c : List Bool). list_all (λ (b : Bool). b) c)
    (step-map is_of_first (λ e n m. refl) (λ n m. refl) (λ e n m. refl) (λ e n. refl) l fs b s e)
    ∙ list_all-append (λ (b : Bool). b) (map is_of_first (open_code fs b)) (is_of_first l ∷ [])
    ∙ and-true _ _ (all-mapped is_of_first (open_code fs b) ∙ before) (and-true _ true here refl)

-- what is known of a line that was said in an open body
record Said (format : ℕ) (o : Inside) (ls : List Word) (l : Line) : Type 0 where
  names : are_names ls ≡ true
  few : Within (record o { locals = ls }) l
  fits : fits_line l ≡ true
  stands : sits (can_else o.frames) l ≡ true
  grown : (more : List Word) × (ls ≡ o.locals ++ more)
  here : are_below (length ls) (in_line l) ≡ true
  order : format ≡ 1 → mentioned (length o.locals) (in_line l) ≡ Some (length ls)
  known : format ≡ 1 → is_of_first l ≡ true

before-wider : (o : Inside) (ls : List Word) (is : List ℕ) → ((more : List Word) × (ls ≡ o.locals ++ more))
    → are_below (length o.locals) is ≡ true → are_below (length ls) is ≡ true
before-wider o ls is grown e = ap (λ (x : List Word). are_below (length x) is) grown.1 ∙ below-grows o.locals grown.0 is e

same-count : (n m : ℕ) (is : List ℕ) → is ≡ [] → mentioned n is ≡ Some m → n ≡ m
same-count n m [] e f = cc
same-count n m (i ∷ is) e f = absurd cc

-- in format 1 what a line ends has its locals by first mention, and no add
first-ended : (o : Inside) (ls : List Word) (l : Line) → KeptFirst o.locals (open_code o.frames o.block) → o.frames ≡ [] → in_line l ≡ []
    → mentioned (length o.locals) (in_line l) ≡ Some (length ls) → IsOfFirst (flat_body (ended (record o { locals = ls })))
first-ended o ls l h none alone order =
    let code : open_code o.frames o.block ≡ flat o.block = ap (λ (fs : List Frame). open_code fs o.block) none in
    let same : length o.locals ≡ length ls = same-count (length o.locals) (length ls) (in_line l) alone order in
    record {
      order = sym (ap (λ (x : List Line). mentioned 0 (mentions x)) code) ∙ h.order ∙ ap (λ (n : ℕ). Some n) same;
      lines = sym (ap (list_all is_of_first) code) ∙ h.lines;
    }

-- a body that a line ends
whole-ended : (j : JobTree) (o : Inside) (ls : List Word) (l : Line) → KeptOpen j o → Said j.format o ls l
    → step_of l o.frames o.block ≡ None → IsWhole (record o { locals = ls })
whole-ended j o ls l h x e =
    let none : o.frames ≡ [] = none-open l o.frames o.block e x.stands in
    record {
      closed = none;
      body =
          ended-kept (record o { locals = ls }) h.name x.names x.few.1
          (before-wider o ls (mentions (open_code o.frames o.block)) x.grown h.mentions) h.counted none;
    }

by-step : (j : JobTree) (o : Inside) (ls : List Word) (l : Line) (r : Option (List Frame × Block)) → KeptJob j → KeptOpen j o
    → Said j.format o ls l
    → step_of l o.frames o.block ≡ r
    → KeptAt (behind j (record o { locals = ls }) (statements_behind o.statements l) r).0
    (behind j (record o { locals = ls }) (statements_behind o.statements l) r).1
by-step j o ls l None g h x e =
    let whole = whole-ended j o ls l h x e in
    let alone : in_line l ≡ [] = none-mentions l o.frames o.block e x.stands in
    body-put j (ended (record o { locals = ls })) g (whole.body, λ f. first-ended o ls l (h.first f) whole.closed alone (x.order f)) h.new
    h.capacity
by-step j o ls l (Some s) g h x e = (
  g,
  record {
    name = h.name;
    new = h.new;
    capacity = h.capacity;
    locals = x.names;
    few = x.few.1;
    mentions =
        below-step l o.frames o.block s (length ls) e (before-wider o ls (mentions (open_code o.frames o.block)) x.grown h.mentions) x.here;
    first = λ f. record {
      order = order-step l o.frames o.block s (length o.locals) (length ls) e (h.first f).order (x.order f);
      lines = first-step l o.frames o.block s e (h.first f).lines (x.known f);
    };
    counted = counted-step l o.frames o.block s o.statements h.counted e x.fits x.few.0 x.few.2;
  },
)

-- in format 1 the locals after a line are noted
first-noted : (format : ℕ) (ls ws : List Word) → format ≡ 1 → locals_behind format ls ws ≡ noted ls ws
first-noted format ls ws e = ap (λ (f : ℕ). locals_behind f ls ws) e

first-known : (format : ℕ) (l : Line) → is_in_format format l ≡ true → format ≡ 1 → is_of_first l ≡ true
first-known format l e f = by (is_of_first l) (ap (λ (x : ℕ). is_in_format x l) (sym f) ∙ e)
  where
    by : (b : Bool) → (b || false) ≡ true → b ≡ true
    by true e = refl
    by false e = absurd cc

said-kept : (arrays bodies : List Word) (j : JobTree) (o : Inside) (k : Option Keyword) (ws : Words) (l : Line) → KeptOpen j o
    → known_in j.format k ≡ k
    → said arrays bodies (mentioning j.format o k ws) k ws ≡ Ok l
    → Said j.format o (locals_behind j.format o.locals (mentions_behind k ws)) l
said-kept arrays bodies j o k ws l h known e =
    let o' : Inside = mentioning j.format o k ws in
    let s : Names = record { arrays = arrays; bodies = bodies; locals = o'.locals } in
    let line : line_behind s (can_else o.frames) k ws ≡ Ok l = within-sits _ o' l e in
    let reads = line-reads s (can_else o.frames) k ws l line in
    let names : are_names o'.locals ≡ true = names-behind j.format o.locals (mentions_behind k ws) h.locals reads.0 in
    record {
      names = names;
      few = within-few (line_behind s (can_else o.frames) k ws) o' l e;
      fits = reads.1;
      stands = said-sits s (can_else o.frames) k ws l line;
      grown = locals-grow j.format o.locals (mentions_behind k ws);
      here = line-below s (can_else o.frames) k ws l line;
      order = λ f. line-order s o.locals (can_else o.frames) k ws l (first-noted j.format o.locals (mentions_behind k ws) f) names line;
      known = λ f. first-known j.format l (said-known s (can_else o.frames) j.format k ws l known line) f;
    }

-- a line of an open body
pub inner-kept : (bodies : List Word) (j : JobTree) (o : Inside) (k : Option Keyword) (ws : Words) (p : JobTree × Option Inside) → KeptJob j
    → KeptOpen j o
    → known_in j.format k ≡ k → inner_line bodies j o k ws ≡ Ok p → KeptAt p.0 p.1
inner-kept bodies j o k ws p g h known e =
    let o' : Inside = mentioning j.format o k ws in
    let m = made-ok (with_line j o') (said (array_names j) bodies o' k ws) p e in
    let x = said-kept (array_names j) bodies j o k ws m.0 h known m.1 in
    subst (λ (q : JobTree × Option Inside). KeptAt q.0 q.1) m.2
    (by-step j o o'.locals m.0 (step_of m.0 o.frames o.block) g h x refl)

-- what a line ends is a body
pub ends-whole : (arrays bodies : List Word) (j : JobTree) (o : Inside) (k : Option Keyword) (ws : Words) (l : Line) → KeptOpen j o
    → known_in j.format k ≡ k
    → Ok l ≡ said arrays bodies (mentioning j.format o k ws) k ws → EndsWhole (mentioning j.format o k ws) l
ends-whole arrays bodies j o k ws l h known e =
    λ out.
    let x = said-kept arrays bodies j o k ws l h known (sym e) in
    let o' : Inside = mentioning j.format o k ws in
    whole-ended j o o'.locals l h x (ends-body l o.frames o.block out x.stands).1

-- what a line that was said ends is a body
module _ (arrays bodies : List Word) (format : ℕ) (w x : OpenBody) (k : Option Keyword) (ws : Words) (l : Line)
    (noted : (o : Inside) → IsInside o w → IsInside (mentioning format o k ws) x)
    (known : known_in format k ≡ k)
    (heard : (o : Inside) → IsInside o x → Ok l ≡ said arrays bodies o k ws) where
  opened-ends : (j : JobTree) (i : Option Inside) → format ≡ j.format → IsOpened i (Some w) → KeptAt j i → HasEnding x l
  opened-ends j None f h g = absurd h
  opened-ends j (Some o) f h g = (
    mentioning format o k ws,
    noted o h,
    subst (λ (y : ℕ). EndsWhole (mentioning y o k ws) l) (sym f)
        (ends-whole arrays bodies j o k ws l g.1 (subst (λ (y : ℕ). known_in y k ≡ k) f known)
        (subst (λ (y : ℕ). Ok l ≡ said arrays bodies (mentioning y o k ws) k ws) f (heard (mentioning format o k ws) (noted o h)))),
  )

  pub line-ends : (r : SoFar) → r.format ≡ format → HasKeptInside r w → HasEnding x l
  line-ends r f h = opened-ends h.0 h.1 (sym f ∙ h.2.format) h.3 h.4

-- Lines outside bodies, and whole texts, keep what a job has to be.
use Rattle.std.proofs.Common.{◌≡◌, inl, inr, ℕ, zero, suc, ◌+◌, ◌-◌, ◌<◌, ◌≤◌, Bool, true, false, ◌&&◌, List, [], ◌∷◌, ◌++◌, length, Option, Some, None, Result, Ok, Err, ℤ, pos, negsuc, refl, sym, ap, subst, ◌∙◌, arith, length-append}
use Rattle.std.specs.Prelude.{if◌then◌else◌, nat_le, nat_lt, not, ◌||◌, replicate}
use Rattle.std.specs.List.{list_all}
use Rattle.std.proofs.lemmas.List.{map-append, length-map, length-replicate}
use Rattle.std.proofs.lemmas.List.Folds.{list_all-append}
use Rattle.std.proofs.lemmas.Grind.{common_steps}
use Rattle.text_lines.specs.Number.{fits_i64}
use Rattle.text_lines.specs.Text.{lines_of, words_of, is_skipped, bad_byte_line}
use Rattle.text_lines.specs.declared.refusal.Code.{Code}
use Rattle.text_lines.specs.declared.refusal.Code.TheVariants.{TooLong, Twice, TooMany, BadLength}
use Rattle.text_lines.specs.declared.refusal.Refusal.{Refusal}
use Rattle.task_code.specs.Names.{is_free, is_among, are_names}
use Rattle.task_code.specs.Rules.{is_array}
use Rattle.task_code.specs.declared.job.Start.{Start}
use Rattle.job_reader.specs.Words.{Word, Words, named, numbered}
use Rattle.job_reader.specs.Faults.{both}
use Rattle.job_reader.specs.Lines.{body_at, keyword_of}
use Rattle.job_reader.proofs.SaidLemmas.{made-ok, both-ok, and-true}
use Rattle.job_reader.proofs.GrowLemmas.{and-left, and-right}
use Rattle.job_reader.specs.declared.outer.Outer.{Outer}
use Rattle.job_reader.specs.declared.outer.Outer.TheVariants as outer
use Rattle.job_reader.specs.Trees.{JobTree, array_names, body_names}
use Rattle.job_reader.specs.Above.{Inside, Above, nothing, begun}
use Rattle.job_reader.specs.Kept.{KeptJob, KeptOpen, KeptAt}
use Rattle.job_reader.specs.Reading.{
  ◌>>=◌,
  refused,
  format_of,
  are_apart,
  read_behind,
  outer_of,
  declared,
  all_numbered,
  filled,
  cells_of,
  array_of,
  body_of,
  start_from,
  start_of,
  with_array,
  new_body,
  with_start,
  array_line,
  body_line,
  start_line,
  outer_line,
  any_line,
  line_step,
  kept_step,
  read_lines,
  read_from,
  unless_bad,
  job_in,
}
use Rattle.job_reader.proofs.SpelledOuter.{bind-ok, le-true}
use Rattle.job_reader.proofs.SpelledText.{finished-ok, next}
use Rattle.job_reader.proofs.ReadWords.{free-named, number-fits}
use Rattle.job_reader.proofs.BodyCounts.{counted-none}
use Rattle.job_reader.specs.Grammar.{listed_in}
use Rattle.job_reader.proofs.BodyHeads.{head-parts, all-free, apart-names}
use Rattle.job_reader.proofs.Known.{known-line}
use Rattle.job_reader.proofs.Headers.{format-is}
use Rattle.job_reader.proofs.WrittenLemmas.{or-left, or-right}
use Rattle.job_reader.proofs.NotedNames.{names-put}
use Rattle.job_reader.proofs.KeptJobs.{kept-nothing, inner-kept, at-most}

below : (a b : ℕ) → nat_le b a ≡ false → a < b
below a b e = grind (arith, common_steps)

-- what passes two tests
abbrev Passed : {A : Type 0} → Bool → Bool → Result A Code → A → Type 0
Passed a b r y = (a ≡ false) × (b ≡ false) × (r ≡ Ok y)

two-passed : {A : Type 0} (a b : Bool) (c d : Code) (r : Result A Code) (y : A) → (if a then Err c else if b then Err d else r) ≡ Ok y
    → Passed a b r y
two-passed true b c d r y e = absurd cc
two-passed false true c d r y e = absurd cc
two-passed false false c d r y e = (refl, refl, e)

one-passed : {A : Type 0} (a : Bool) (c : Code) (r : Result A Code) (y : A) → (if a then Err c else r) ≡ Ok y → (a ≡ false) × (r ≡ Ok y)
one-passed true c r y e = absurd cc
one-passed false c r y e = (refl, e)

values-fit : (ws : Words) (ns : List ℤ) → all_numbered ws ≡ Ok ns → list_all fits_i64 ns ≡ true
values-fit [] ns e = let same : [] ≡ ns = cc in ap (list_all fits_i64) (sym same)
values-fit (w ∷ ws) ns e =
    let a = bind-ok (numbered w) (λ n. all_numbered ws >>= λ ns. Ok (n ∷ ns)) ns e in
    let b = bind-ok (all_numbered ws) (λ (ns : List ℤ). Ok (a.0 ∷ ns)) ns a.2 in
    let same : a.0 ∷ b.0 ≡ ns = cc in
    ap (list_all fits_i64) (sym same) ∙ and-true _ _ (number-fits w a.0 a.1) (values-fit ws b.0 b.1)

zeros-fit : (n : ℕ) → list_all fits_i64 (replicate n (pos 0)) ≡ true
zeros-fit zero = refl
zeros-fit (suc n) = zeros-fit n

-- cells of an array that was read
abbrev AreCells : List ℤ → Type 0
AreCells cells = ((nat_le 1 (length cells) && nat_le (length cells) 4096) ≡ true) × (list_all fits_i64 cells ≡ true)

filled-cells : (b : Bool) (m : ℕ) (vs cells : List ℤ) → (nat_le 1 m && nat_le m 4096 && nat_le (length vs) m) ≡ b
    → list_all fits_i64 vs ≡ true
    → (if b then Ok (vs ++ replicate (m - length vs) (pos 0)) else Err BadLength) ≡ Ok cells → AreCells cells
filled-cells false m vs cells t f e = absurd cc
filled-cells true m vs cells t f e =
    let same : vs ++ replicate (m - length vs) (pos 0) ≡ cells = cc in
    let few : length vs ≤ m = le-true (length vs) m (and-right (nat_le 1 m && nat_le m 4096) (nat_le (length vs) m) t) in
    let len : length (vs ++ replicate (m - length vs) (pos 0)) ≡ m =
    omega (arith, length-append vs (replicate (m - length vs) (pos 0)), length-replicate {A = ℤ} (m - length vs) (pos 0)) in
    let count : m ≡ length cells = sym len ∙ ap (λ (x : List ℤ). length x) same in (
      ap (λ (n : ℕ). nat_le 1 n && nat_le n 4096) (sym count) ∙ and-left _ (nat_le (length vs) m) t,
      ap (list_all fits_i64) (sym same) ∙ list_all-append fits_i64 vs (replicate (m - length vs) (pos 0))
          ∙ and-true _ _ f (zeros-fit (m - length vs)),
    )

cells-read : (len : Word) (values : Words) (cells : List ℤ) → cells_of len values ≡ Ok cells → AreCells cells
cells-read len values cells e =
    let a = bind-ok (both (numbered len) (all_numbered values)) filled cells e in
    let b = both-ok (numbered len) (all_numbered values) a.0 a.1 in
    by-sign a.0.0 a.0.1 (values-fit values a.0.1 b.1) a.2
  where
    by-sign : (n : ℤ) (vs : List ℤ) → list_all fits_i64 vs ≡ true → filled (n, vs) ≡ Ok cells → AreCells cells
    by-sign (negsuc n) vs f e = absurd cc
    by-sign (pos m) vs f e = filled-cells (nat_le 1 m && nat_le m 4096 && nat_le (length vs) m) m vs cells refl f e

pub array-read : (ws : Words) (x : Word × List ℤ) → array_of ws ≡ Ok x
    → (is_free x.0 ≡ true) × (is_array x ≡ true) × (list_all fits_i64 x.1 ≡ true)
array-read [] x e = absurd cc
array-read (name ∷ []) x e = absurd cc
array-read (name ∷ len ∷ values) x e =
    let m = made-ok (λ (p : Unit {0} × List ℤ). (name, p.1)) (both (named name) (cells_of len values)) x e in
    let b = both-ok (named name) (cells_of len values) m.0 m.1 in
    let c = cells-read len values m.0.1 b.1 in
    let free : is_free name ≡ true = free-named name m.0.0 b.0 in
    subst (λ (y : Word × List ℤ). (is_free y.0 ≡ true) × (is_array y ≡ true) × (list_all fits_i64 y.1 ≡ true)) m.2 (
      free,
      and-true _ _ (and-true _ _ free (and-left _ (nat_le (length m.0.1) 4096) c.0)) (and-right (nat_le 1 (length m.0.1)) _ c.0),
      c.1,
    )

array-put : (j : JobTree) (x : Word × List ℤ) → KeptJob j → is_array x ≡ true → is_free x.0 ≡ true → list_all fits_i64 x.1 ≡ true
    → is_among (array_names j) x.0 ≡ false → length (array_names j) < 16 → length (array_names j) ≡ length j.arrays
    → KeptJob (record j { arrays = j.arrays ++ x ∷ [] })
array-put j x g a free fits new capacity many = record {
  format = g.format;
  few_arrays = omega (arith, length-append j.arrays (x ∷ []));
  few_bodies = g.few_bodies;
  few_starts = g.few_starts;
  arrays = list_all-append is_array j.arrays (x ∷ []) ∙ and-true _ _ g.arrays (and-true _ true a refl);
  arrays_named = ap are_names (map-append (λ y. y.0) j.arrays (x ∷ [])) ∙ names-put (array_names j) x.0 g.arrays_named free new;
  cells = list_all-append (λ y. list_all fits_i64 y.1) j.arrays (x ∷ []) ∙ and-true _ _ g.cells (and-true _ true fits refl);
  bodies_named = g.bodies_named;
  bodies = g.bodies;
  args = g.args;
}

array-kept : (j j' : JobTree) (ws : Words) → KeptJob j → array_line j ws ≡ Ok j' → KeptJob j'
array-kept j j' ws g e =
    let a = bind-ok (array_of ws) (with_array j) j' e in
    let x = array-read ws a.0 a.1 in
    let p =
    two-passed (is_among (array_names j) a.0.0) (nat_le 16 (length (array_names j))) Twice TooMany
    (Ok (record j { arrays = j.arrays ++ a.0 ∷ [] })) j' a.2 in
    let same : (record j { arrays = j.arrays ++ a.0 ∷ [] }) ≡ j' = cc in
    subst KeptJob same (array-put j a.0 g x.1 x.0 x.2 p.0 (below (length (array_names j)) 16 p.1) (length-map j.arrays (λ y. y.0)))

not-false : (b : Bool) → not b ≡ false → b ≡ true
not-false true e = refl
not-false false e = absurd cc

none-listed : (format : ℕ) (name : Word) (ws : List Word) → format ≡ 1 → listed_in format ws ≡ ws
    → ◌≡◌ {A = Word × List Word} (name, ws) (name, [])
none-listed format name ws e h =
    let none : ◌≡◌ {A = List Word} [] ws = ap (λ (x : ℕ). listed_in x ws) (sym e) ∙ h in
    ap (λ (x : List Word). (name, x)) (sym none)

body-kept : (j : JobTree) (o : Inside) (ws : Words) → body_line j ws ≡ Ok o → KeptOpen j o
body-kept j o [] e = absurd cc
body-kept j o (name ∷ ws) e =
    let a = bind-ok (body_of j.format (name ∷ ws)) (new_body j) o e in
    let m = head-parts j.format name ws a.0 a.1 in
    let twice : Bool = is_among (body_names j) a.0.0 in
    let many : Bool = nat_le 64 (length (body_names j)) in
    let p = two-passed (twice || not (are_apart a.0.1)) (many || nat_lt 32 (length a.0.1)) Twice TooMany (Ok (begun a.0)) o a.2 in
    let same : begun a.0 ≡ o = cc in
    let apart : are_apart a.0.1 ≡ true = not-false (are_apart a.0.1) (or-right twice (not (are_apart a.0.1)) p.0) in
    let free : list_all is_free a.0.1 ≡ true =
    ap (λ (h : Word × List Word). list_all is_free h.1) (sym m.same) ∙ all-free ws m.locals_said in
    subst (KeptOpen j) same
    (record {
      name = ap (λ (h : Word × List Word). is_free h.0) (sym m.same) ∙ free-named name tt m.name_said;
      new = or-left twice (not (are_apart a.0.1)) p.0;
      capacity = below (length (body_names j)) 64 (or-left many (nat_lt 32 (length a.0.1)) p.1);
      locals = apart-names a.0.1 free apart;
      few = at-most (length a.0.1) 32 (or-right many (nat_lt 32 (length a.0.1)) p.1);
      mentions = refl;
      first = λ f. record {
        order = ap (λ (h : Word × List Word). Some (length h.1)) (sym (none-listed j.format name ws f m.listed) ∙ m.same);
        lines = refl;
      };
      counted = counted-none;
    })

start-read : (bodies : List Word) (ws : Words) (s : Start) → start_of bodies ws ≡ Ok s → fits_i64 s.arg ≡ true
start-read bodies [] s e = absurd cc
start-read bodies (b ∷ []) s e = absurd cc
start-read bodies (b ∷ n ∷ w ∷ ws) s e = absurd cc
start-read bodies (b ∷ n ∷ []) s e =
    let m = made-ok start_from (both (body_at bodies b) (numbered n)) s e in
    let p = both-ok (body_at bodies b) (numbered n) m.0 m.1 in
    ap (λ (x : Start). fits_i64 x.arg) (sym m.2) ∙ number-fits n m.0.1 p.1

start-kept : (bodies : List Word) (j j' : JobTree) (ws : Words) → KeptJob j → start_line bodies j ws ≡ Ok j' → KeptJob j'
start-kept bodies j j' ws g e =
    let a = bind-ok (start_of bodies ws) (with_start j) j' e in
    let p = one-passed (nat_le 4096 (length j.starts)) TooMany (Ok (record j { starts = j.starts ++ a.0 ∷ [] })) j' a.2 in
    let capacity : length j.starts < 4096 = below (length j.starts) 4096 p.0 in
    let same : (record j { starts = j.starts ++ a.0 ∷ [] }) ≡ j' = cc in
    subst KeptJob same
    (record {
      format = g.format;
      few_arrays = g.few_arrays;
      few_bodies = g.few_bodies;
      few_starts = omega (arith, length-append j.starts (a.0 ∷ []));
      arrays = g.arrays;
      arrays_named = g.arrays_named;
      cells = g.cells;
      bodies_named = g.bodies_named;
      bodies = g.bodies;
      args =
          list_all-append (λ s. fits_i64 s.arg) j.starts (a.0 ∷ [])
          ∙ and-true _ _ g.args (and-true _ true (start-read bodies ws a.0 a.1) refl);
    })

outer-kept : (bodies : List Word) (j : JobTree) (k : Option Outer) (ws : Words) (p : JobTree × Option Inside) → KeptJob j
    → outer_line bodies j k ws ≡ Ok p → KeptAt p.0 p.1
outer-kept bodies j None ws p g e = absurd cc
outer-kept bodies j (Some outer.Array) ws p g e =
    let m = made-ok (λ (k : JobTree). (k, None)) (array_line j ws) p e in
    subst (λ (q : JobTree × Option Inside). KeptAt q.0 q.1) m.2 (array-kept j m.0 ws g m.1)
outer-kept bodies j (Some outer.Body) ws p g e =
    let m = made-ok (λ (o : Inside). (j, Some o)) (body_line j ws) p e in
    subst (λ (q : JobTree × Option Inside). KeptAt q.0 q.1) m.2 (g, body-kept j m.0 ws m.1)
outer-kept bodies j (Some outer.Start) ws p g e =
    let m = made-ok (λ (k : JobTree). (k, None)) (start_line bodies j ws) p e in
    subst (λ (q : JobTree × Option Inside). KeptAt q.0 q.1) m.2 (start-kept bodies j m.0 ws g m.1)

-- a line
pub any-kept : (bodies : List Word) (j : JobTree) (i : Option Inside) (ws : Words) (p : JobTree × Option Inside) → KeptAt j i
    → any_line bodies j i ws ≡ Ok p → KeptAt p.0 p.1
any-kept bodies j None [] p g e = absurd cc
any-kept bodies j (Some o) [] p g e = absurd cc
any-kept bodies j None (k ∷ ws) p g e = outer-kept bodies j (outer_of k) ws p g e
any-kept bodies j (Some o) (k ∷ ws) p g e =
    let known = known-line bodies j o (keyword_of k) ws p e in
    inner-kept bodies j o (keyword_of k) ws p g.0 g.1 known.1 known.0

step-cases : (bodies : List Word) (n : ℕ) (a y : Above) (ws : Words) (b : Bool) → KeptAt a.job a.inside
    → ◌≡◌ {A = Result Above Code} (if b then Ok a else line_step bodies n a ws) (Ok y) → KeptAt y.job y.inside
step-cases bodies n a y ws true g e = let same : a ≡ y = cc in subst (λ (x : Above). KeptAt x.job x.inside) same g
step-cases bodies n a y ws false g e =
    let m = made-ok _ (any_line bodies a.job a.inside ws) y e in
    subst (λ (x : Above). KeptAt x.job x.inside) m.2 (any-kept bodies a.job a.inside ws m.0 g m.1)

-- a line, whether it is skipped or not
pub step-kept : (bodies : List Word) (n : ℕ) (a y : Above) (ws : Words) → KeptAt a.job a.inside → kept_step bodies n a ws ≡ Ok y
    → KeptAt y.job y.inside
step-kept bodies n a y ws g e = step-cases bodies n a y ws (is_skipped ws) g e

lines-kept : (bodies : List Word) (ls : List (List ℕ)) (n : ℕ) (a : Above) (j : JobTree) → KeptAt a.job a.inside
    → read_lines bodies n a ls ≡ Ok j → KeptJob j
lines-kept bodies [] n a j g e =
    let f = finished-ok n a a.inside a.missing j e in
    subst KeptJob f.2 (subst (λ (i : Option Inside). KeptAt a.job i) f.0 g)
lines-kept bodies (l ∷ ls) n a j g e =
    let m = next bodies n a l ls j e in
    elim m.2 [
      | inl x ↦ lines-kept bodies ls (n + 1) m.0 j (subst (λ (b : Above). KeptAt b.job b.inside) x.1 g) m.1
      | inr x ↦
          let p = any-kept bodies a.job a.inside (words_of l) x.1.0 g x.1.1 in
          lines-kept bodies ls (n + 1) m.0 j
          (subst (λ (k : JobTree). KeptAt k m.0.inside) (sym x.1.2) (subst (λ (i : Option Inside). KeptAt x.1.0.0 i) (sym x.1.3) p)) m.1
    ]

-- after the header
from-kept : (bodies : List Word) (n : ℕ) (l : List ℕ) (ls : List (List ℕ)) (j : JobTree) (a : Bool) (o : Option ℕ)
    → format_of (words_of l) ≡ o
    → (read_from bodies (n + 1) ls ≡ Ok j → KeptJob j)
    → (if a then read_from bodies (n + 1) ls else read_behind bodies n o ls) ≡ Ok j → KeptJob j
from-kept bodies n l ls j true o h later e = later e
from-kept bodies n l ls j false (Some format) h later e =
    lines-kept bodies ls (n + 1) (nothing format) j (kept-nothing format (format-is (words_of l) format h)) e
from-kept bodies n l ls j false None h later e = absurd cc

begins-kept : (bodies : List Word) (ls : List (List ℕ)) (n : ℕ) (j : JobTree) → read_from bodies n ls ≡ Ok j → KeptJob j
begins-kept bodies [] n j e = absurd cc
begins-kept bodies (l ∷ ls) n j e =
    from-kept bodies n l ls j (is_skipped (words_of l)) (format_of (words_of l)) refl (begins-kept bodies ls (n + 1) j) e

pub unless-ok : (o : Option ℕ) (r : Result JobTree Refusal) (j : JobTree) → unless_bad o r ≡ Ok j → r ≡ Ok j
unless-ok None r j e = e
unless-ok (Some n) r j e = absurd cc

pub long-ok : (b : Bool) (o : Option ℕ) (r : Result JobTree Refusal) (j : JobTree)
    → (if b then refused 1 TooLong else unless_bad o r) ≡ Ok j → r ≡ Ok j
long-ok true o r j e = absurd cc
long-ok false o r j e = unless-ok o r j e

-- a job that a text is read as
pub text-kept : (text : List ℕ) (j : JobTree) → job_in text ≡ Ok j → KeptJob j
unfolding job_in
text-kept text j e =
    begins-kept (declared (lines_of text)) (lines_of text) 1 j
    (long-ok (nat_lt 1048576 (length text)) (bad_byte_line 1 text) (read_from (declared (lines_of text)) 1 (lines_of text)) j e)

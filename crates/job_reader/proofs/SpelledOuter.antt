-- Lines outside bodies are those of items.
use Rattle.std.proofs.Common.{◌≡◌, ℕ, ◌-◌, ◌≤◌, Bool, true, false, ◌&&◌, List, [], ◌∷◌, ◌++◌, length, map, Option, Some, None, Result, Ok, Err, ℤ, pos, negsuc, refl, sym, ap, subst, ◌∙◌, arith, codes, length-append}
use Rattle.std.specs.Prelude.{if◌then◌else◌, nat_le, nat_lt, not, ◌||◌, replicate}
use Rattle.std.specs.Fmt.{decimal, signed_decimal}
use Rattle.std.specs.Str.{bytes_eq}
use Rattle.std.proofs.lemmas.List.{length-replicate}
use Rattle.std.proofs.lemmas.Grind.{common_steps}
use Rattle.text_lines.specs.declared.refusal.Code.{Code}
use Rattle.text_lines.specs.declared.refusal.Code.TheVariants.{Twice, TooMany, BadLength}
use Rattle.task_code.specs.Names.{is_among}
use Rattle.task_code.specs.declared.job.Start.{Start}
use Rattle.job_reader.specs.Words.{Word, Words, named, numbered, name_at}
use Rattle.job_reader.specs.Faults.{both}
use Rattle.job_reader.specs.Lines.{body_at}
use Rattle.job_reader.proofs.SaidLemmas.{made-ok, both-ok, number-said, same-word}
use Rattle.job_reader.proofs.LineSaid.{body-said}
use Rattle.job_reader.proofs.GrowLemmas.{and-right}
use Rattle.job_reader.specs.declared.outer.Outer.{Outer}
use Rattle.job_reader.specs.declared.outer.Outer.TheVariants as outer
use Rattle.job_reader.specs.Trees.{JobTree, array_names, body_names}
use Rattle.job_reader.specs.Above.{Inside, begun}
use Rattle.job_reader.specs.Grammar.{AnArray, AStart, array_words, start_words, IsFilled, listed_in}
use Rattle.job_reader.specs.Reading.{
  ◌>>=◌,
  outer_of,
  all_numbered,
  filled,
  cells_of,
  array_of,
  body_of,
  are_apart,
  start_from,
  start_of,
  with_array,
  new_body,
  with_start,
  array_line,
  body_line,
  start_line,
  outer_line,
  is_missing,
}
use Rattle.job_reader.proofs.BodyHeads.{head-parts}
use Rattle.job_reader.proofs.LocalsBehind.{behind-none}
use Rattle.job_reader.proofs.ItemLemmas.{put, SpelledOut, spelled-out-put}
use Rattle.job_reader.proofs.SpelledInside.{SpelledInside, Tells}

pub bind-ok : {A B E : Type 0} (r : Result A E) (f : A → Result B E) (y : B) → (r >>= f) ≡ Ok y → (x : A) × (r ≡ Ok x) × (f x ≡ Ok y)
bind-ok (Ok x) f y e = (x, refl, e)
bind-ok (Err c) f y e = absurd cc

abbrev pub outer_text : Outer → Word
outer_text outer.Array = codes "array"
outer_text outer.Body = codes "body"
outer_text outer.Start = codes "start"

pick : (b : Bool) (w : Word) (x k : Outer) (rest : Option Outer) → (b ≡ true → w ≡ outer_text x) → (rest ≡ Some k → w ≡ outer_text k)
    → (if b then Some x else rest) ≡ Some k → w ≡ outer_text k
pick true w x k rest is other e = let same : x ≡ k = cc in is refl ∙ ap outer_text same
pick false w x k rest is other e = other e

pub outer-said : (w : Word) (k : Outer) → outer_of w ≡ Some k → w ≡ outer_text k
unfolding outer_of
outer-said w k e =
    pick (bytes_eq w (codes "array")) w outer.Array k _ (same-word w (codes "array")) (λ e.
    pick (bytes_eq w (codes "body")) w outer.Body k _ (same-word w (codes "body")) (λ e.
    pick (bytes_eq w (codes "start")) w outer.Start k _ (same-word w (codes "start")) (λ e.
    absurd cc) e) e) e

values-said : (ws : Words) (ns : List ℤ) → all_numbered ws ≡ Ok ns → ws ≡ map signed_decimal ns
values-said [] ns e = let same : [] ≡ ns = cc in ap (map signed_decimal) same
values-said (w ∷ ws) ns e =
    let a = bind-ok (numbered w) (λ n. all_numbered ws >>= λ ns. Ok (n ∷ ns)) ns e in
    let b = bind-ok (all_numbered ws) (λ (ns : List ℤ). Ok (a.0 ∷ ns)) ns a.2 in
    let same : a.0 ∷ b.0 ≡ ns = cc in
    ap (λ (t : Word). t ∷ ws) (number-said w a.0 a.1) ∙ ap (λ (t : Words). signed_decimal a.0 ∷ t) (values-said ws b.0 b.1)
    ∙ ap (map signed_decimal) same

pub le-true : (a b : ℕ) → nat_le a b ≡ true → a ≤ b
le-true a b e = grind (arith, common_steps)

-- the cells that were filled, by whether the length fits
filled-ok : (b : Bool) (m : ℕ) (vs cells : List ℤ) → (b ≡ true → length vs ≤ m)
    → (if b then Ok (vs ++ replicate (m - length vs) (pos 0)) else Err BadLength) ≡ Ok cells
    → (m ≡ length cells) × IsFilled vs cells
filled-ok true m vs cells h e =
    let same : vs ++ replicate (m - length vs) (pos 0) ≡ cells = cc in
    let few : length vs ≤ m = h refl in
    let len : length (vs ++ replicate (m - length vs) (pos 0)) ≡ m =
    omega (arith, length-append vs (replicate (m - length vs) (pos 0)), length-replicate {A = ℤ} (m - length vs) (pos 0)) in
    let count : m ≡ length cells = sym len ∙ ap (λ (x : List ℤ). length x) same in
    (count, (omega arith, sym same ∙ ap (λ (n : ℕ). vs ++ replicate (n - length vs) (pos 0)) count))
filled-ok false m vs cells h e = absurd cc

cells-said : (len : Word) (values : Words) (cells : List ℤ) → cells_of len values ≡ Ok cells
    → (given : List ℤ) × (len ≡ decimal (length cells)) × (values ≡ map signed_decimal given) × IsFilled given cells
cells-said len values cells e =
    let a = bind-ok (both (numbered len) (all_numbered values)) filled cells e in
    let b = both-ok (numbered len) (all_numbered values) a.0 a.1 in
    by-sign a.0.0 a.0.1 (number-said len a.0.0 b.0) (values-said values a.0.1 b.1) a.2
  where
    by-sign : (n : ℤ) (vs : List ℤ) → len ≡ signed_decimal n → values ≡ map signed_decimal vs → filled (n, vs) ≡ Ok cells
        → (given : List ℤ) × (len ≡ decimal (length cells)) × (values ≡ map signed_decimal given) × IsFilled given cells
    by-sign (negsuc n) vs l v f = absurd cc
    by-sign (pos m) vs l v f =
        let h = filled-ok (nat_le 1 m && nat_le m 4096 && nat_le (length vs) m) m vs cells
        (λ t. le-true (length vs) m (and-right (nat_le 1 m && nat_le m 4096) (nat_le (length vs) m) t)) f in
        (vs, l ∙ ap decimal h.0, v, h.1)

array-said : (ws : Words) (x : Word × List ℤ) → array_of ws ≡ Ok x
    → (given : List ℤ) × (codes "array" ∷ ws ≡ array_words x.0 (length x.1) given) × IsFilled given x.1
array-said [] x e = absurd cc
array-said (name ∷ []) x e = absurd cc
array-said (name ∷ len ∷ values) x e =
    let m = made-ok (λ (p : Unit {0} × List ℤ). (name, p.1)) (both (named name) (cells_of len values)) x e in
    let b = both-ok (named name) (cells_of len values) m.0 m.1 in
    let c = cells-said len values m.0.1 b.1 in
    subst
    (λ (y : Word × List ℤ). (given : List ℤ) × (codes "array" ∷ name ∷ len ∷ values ≡ array_words y.0 (length y.1) given)
    × IsFilled given y.1)
    m.2 (
      c.0,
      ap (λ (t : Word). codes "array" ∷ name ∷ t ∷ values) c.1
          ∙ ap (λ (t : Words). codes "array" ∷ name ∷ decimal (length m.0.1) ∷ t) c.2,
      c.3,
    )

pub two-tests : {A : Type 0} (a b : Bool) (c d : Code) (r : Result A Code) (y : A) → (if a then Err c else if b then Err d else r) ≡ Ok y
    → r ≡ Ok y
two-tests true b c d r y e = absurd cc
two-tests false true c d r y e = absurd cc
two-tests false false c d r y e = e

pub one-test : {A : Type 0} (a : Bool) (c : Code) (r : Result A Code) (y : A) → (if a then Err c else r) ≡ Ok y → r ≡ Ok y
one-test true c r y e = absurd cc
one-test false c r y e = e

array-spelled-out : (bodies : List Word) (lines : List Words) (j j' : JobTree) (ws : Words) → SpelledOut bodies lines j
    → array_line j ws ≡ Ok j'
    → SpelledOut bodies (lines ++ (codes "array" ∷ ws) ∷ []) j'
array-spelled-out bodies lines j j' ws t e =
    let a = bind-ok (array_of ws) (with_array j) j' e in
    let s = array-said ws a.0 a.1 in
    let ok =
    two-tests (is_among (array_names j) a.0.0) (nat_le 16 (length (array_names j))) Twice TooMany (Ok (put (AnArray a.0.0 s.0 a.0.1) j)) j'
    a.2 in
    let same : put (AnArray a.0.0 s.0 a.0.1) j ≡ j' = cc in
    subst (λ (w : Words). SpelledOut bodies (lines ++ w ∷ []) j') (sym s.1)
    (subst (λ (k : JobTree). SpelledOut bodies (lines ++ array_words a.0.0 (length a.0.1) s.0 ∷ []) k) same
    (spelled-out-put bodies lines j (AnArray a.0.0 s.0 a.0.1) t (s.2, tt)))

body-spelled-out : (bodies : List Word) (lines : List Words) (j : JobTree) (o : Inside) (ws : Words) → SpelledOut bodies lines j
    → body_line j ws ≡ Ok o
    → SpelledInside bodies (lines ++ (codes "body" ∷ ws) ∷ []) j o
body-spelled-out bodies lines j o [] t e = absurd cc
body-spelled-out bodies lines j o (name ∷ ws) t e =
    let a = bind-ok (body_of j.format (name ∷ ws)) (new_body j) o e in
    let m = head-parts j.format name ws a.0 a.1 in
    let ok =
    two-tests (is_among (body_names j) a.0.0 || not (are_apart a.0.1)) (nat_le 64 (length (body_names j)) || nat_lt 32 (length a.0.1)) Twice
    TooMany (Ok (begun a.0)) o a.2 in
    let same : begun a.0 ≡ o = cc in
    let begins : begun (name, ws) ≡ o = ap begun m.same ∙ same in
    subst (λ (p : Inside). SpelledInside bodies (lines ++ (codes "body" ∷ name ∷ ws) ∷ []) j p) begins
    (record {
      base = lines;
      spelled_out = t;
      written = ap (λ (x : List Word). lines ++ (codes "body" ∷ name ∷ x) ∷ []) (sym m.listed);
      fits = refl;
      noted = behind-none j.format (listed_in j.format ws) ∙ m.listed;
      lines_known = refl;
    })

start-spelled-out : (bodies : List Word) (lines : List Words) (j j' : JobTree) (ws : Words) → SpelledOut bodies lines j
    → is_missing bodies (codes "start" ∷ ws) ≡ false → start_line bodies j ws ≡ Ok j'
    → SpelledOut bodies (lines ++ (codes "start" ∷ ws) ∷ []) j'
start-spelled-out bodies lines j j' [] t miss e = absurd cc
start-spelled-out bodies lines j j' (b ∷ []) t miss e = absurd cc
start-spelled-out bodies lines j j' (b ∷ n ∷ []) t miss e =
    let a = bind-ok (start_of bodies (b ∷ n ∷ [])) (with_start j) j' e in
    let m = made-ok start_from (both (body_at bodies b) (numbered n)) a.0 a.1 in
    let p = both-ok (body_at bodies b) (numbered n) m.0 m.1 in
    let body = body-said bodies b m.0.0 (there (is_among bodies b) miss) p.0 in
    let ok = one-test (nat_le 4096 (length j.starts)) TooMany (Ok (put (AStart a.0) j)) j' a.2 in
    let same : put (AStart a.0) j ≡ j' = cc in
    let words : codes "start" ∷ b ∷ n ∷ [] ≡ start_words bodies (start_from m.0) =
    ap (λ (x : Word). codes "start" ∷ x ∷ n ∷ []) (sym body.0)
    ∙ ap (λ (x : Word). codes "start" ∷ name_at bodies m.0.0 ∷ x ∷ []) (number-said n m.0.1 p.1) in
    subst (λ (w : Words). SpelledOut bodies (lines ++ w ∷ []) j') (sym words)
    (subst (λ (k : JobTree). SpelledOut bodies (lines ++ start_words bodies (start_from m.0) ∷ []) k) (ap (λ (x : Start). put (AStart x) j) m.2 ∙ same)
    (spelled-out-put bodies lines j (AStart (start_from m.0)) t (body.1, tt)))
  where
    there : (a : Bool) → not a ≡ false → a ≡ true
    there true e = refl
    there false e = absurd cc
start-spelled-out bodies lines j j' (b ∷ n ∷ w ∷ ws) t miss e = absurd cc

by-first : (bodies : List Word) (lines : List Words) (j : JobTree) (k : Outer) (ws : Words) (p : JobTree × Option Inside)
    → SpelledOut bodies lines j → is_missing bodies (outer_text k ∷ ws) ≡ false
    → outer_line bodies j (Some k) ws ≡ Ok p → Tells bodies (lines ++ (outer_text k ∷ ws) ∷ []) p.0 p.1
by-first bodies lines j outer.Array ws p t miss e =
    let m = made-ok (λ (k : JobTree). (k, None)) (array_line j ws) p e in
    subst (λ (q : JobTree × Option Inside). Tells bodies (lines ++ (codes "array" ∷ ws) ∷ []) q.0 q.1) m.2
    (array-spelled-out bodies lines j m.0 ws t m.1)
by-first bodies lines j outer.Body ws p t miss e =
    let m = made-ok (λ (o : Inside). (j, Some o)) (body_line j ws) p e in
    subst (λ (q : JobTree × Option Inside). Tells bodies (lines ++ (codes "body" ∷ ws) ∷ []) q.0 q.1) m.2
    (body-spelled-out bodies lines j m.0 ws t m.1)
by-first bodies lines j outer.Start ws p t miss e =
    let m = made-ok (λ (k : JobTree). (k, None)) (start_line bodies j ws) p e in
    subst (λ (q : JobTree × Option Inside). Tells bodies (lines ++ (codes "start" ∷ ws) ∷ []) q.0 q.1) m.2
    (start-spelled-out bodies lines j m.0 ws t miss m.1)

by-outer : (bodies : List Word) (lines : List Words) (j : JobTree) (k : Word) (o : Option Outer) (ws : Words) (p : JobTree × Option Inside)
    → SpelledOut bodies lines j → outer_of k ≡ o → is_missing bodies (k ∷ ws) ≡ false
    → outer_line bodies j o ws ≡ Ok p → Tells bodies (lines ++ (k ∷ ws) ∷ []) p.0 p.1
by-outer bodies lines j k None ws p t h miss e = absurd cc
by-outer bodies lines j k (Some x) ws p t h miss e =
    let same : k ≡ outer_text x = outer-said k x h in
    subst (λ (w : Word). Tells bodies (lines ++ (w ∷ ws) ∷ []) p.0 p.1) (sym same)
    (by-first bodies lines j x ws p t (ap (λ (w : Word). is_missing bodies (w ∷ ws)) (sym same) ∙ miss) e)

-- a line outside bodies
pub outer-spelled-out : (bodies : List Word) (lines : List Words) (j : JobTree) (k : Word) (ws : Words) (p : JobTree × Option Inside)
    → SpelledOut bodies lines j → is_missing bodies (k ∷ ws) ≡ false
    → outer_line bodies j (outer_of k) ws ≡ Ok p → Tells bodies (lines ++ (k ∷ ws) ∷ []) p.0 p.1
outer-spelled-out bodies lines j k ws p t miss e = by-outer bodies lines j k (outer_of k) ws p t refl miss e

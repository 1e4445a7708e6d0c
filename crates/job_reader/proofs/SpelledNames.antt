-- The bodies of a text that is read are those that its lines declare.
use Rattle.std.proofs.Common.{◌≡◌, inl, inr, ℕ, ◌+◌, ◌<◌, ◌≤◌, Bool, true, false, List, [], ◌∷◌, ◌++◌, length, Option, Some, None, Result, Ok, Err, refl, sym, ap, subst, ◌∙◌, arith, append-nil, append_assoc, length-append, nat_eq}
use Rattle.std.specs.Prelude.{if◌then◌else◌, nat_le, nat_lt, ◌||◌, not}
use Rattle.job_reader.specs.Reading.{are_apart}
use Rattle.job_reader.proofs.BodyHeads.{head-parts}
use Rattle.job_reader.proofs.WrittenLemmas.{or-left}
use Rattle.std.specs.List.{filter_map, cons_option}
use Rattle.std.proofs.lemmas.List.{map-append}
use Rattle.std.proofs.lemmas.Grind.{common_steps}
use Rattle.text_lines.specs.declared.refusal.Code.{Code}
use Rattle.text_lines.specs.declared.refusal.Code.TheVariants.{Twice, TooMany}
use Rattle.text_lines.specs.Text.{words_of, is_skipped}
use Rattle.task_code.specs.Names.{is_among}
use Rattle.task_code.specs.Open.{Frame, step_of}
use Rattle.task_code.specs.Tree.{Block}
use Rattle.job_reader.specs.Words.{Word, Words}
use Rattle.superstep_memory.specs.declared.arrays.PutKind.TheVariants.{Set, Add}
use Rattle.job_reader.specs.declared.lines.Keyword.{Keyword}
use Rattle.job_reader.specs.declared.lines.Keyword.TheVariants.{Let, Put, Print, Spawn, Sync, Stop, If, Else, While, End}
use Rattle.job_reader.specs.Lines.{keyword_of, line_behind}
use Rattle.job_reader.proofs.SaidLemmas.{made-ok}
use Rattle.job_reader.proofs.LineSaid.{keyword_text, keyword-said}
use Rattle.job_reader.specs.declared.outer.Outer.{Outer}
use Rattle.job_reader.specs.declared.outer.Outer.TheVariants as outer
use Rattle.job_reader.specs.Trees.{BodyTree, JobTree, array_names, body_names}
use Rattle.job_reader.specs.Above.{Inside, Above, begun, ended, statements_behind}
use Rattle.job_reader.specs.Reading.{
  outer_of,
  name_if_body,
  declared_by,
  body_of,
  array_of,
  start_of,
  with_array,
  new_body,
  with_start,
  array_line,
  body_line,
  start_line,
  outer_line,
  mentioning,
  said,
  behind,
  with_line,
  inner_line,
  any_line,
  read_lines,
}
use Rattle.job_reader.proofs.SpelledOuter.{bind-ok, two-tests, one-test}
use Rattle.job_reader.proofs.Known.{known-line}
use Rattle.job_reader.proofs.SpelledText.{finished-ok, next}

abbrev pub open_name : Option Inside → List Word
open_name None = []
open_name (Some o) = o.name ∷ []

-- the bodies so far, the open one too
abbrev pub so_far : JobTree → Option Inside → List Word
so_far j i = body_names j ++ open_name i

abbrev pub listed : Option Word → List Word
listed None = []
listed (Some w) = w ∷ []

abbrev pub names_in : List (List ℕ) → List Word
names_in ls = filter_map (λ l. declared_by (words_of l)) ls

-- a line adds the name that it declares
abbrev pub Adds : JobTree → Option Inside → Words → JobTree × Option Inside → Type 0
Adds j i ws p = (so_far p.0 p.1 ≡ so_far j i ++ listed (declared_by ws)) × (length (so_far j i) ≤ 64 → length (so_far p.0 p.1) ≤ 64)

same-adds : (j : JobTree) (i : Option Inside) (ws : Words) (p : JobTree × Option Inside) → so_far p.0 p.1 ≡ so_far j i
    → declared_by ws ≡ None → Adds j i ws p
same-adds j i ws p e d = (
  e ∙ sym (append-nil (so_far j i)) ∙ ap (λ (o : Option Word). so_far j i ++ listed o) (sym d),
  λ h. subst (λ (x : List Word). length x ≤ 64) (sym e) h,
)

pub no-body : (k : Keyword) → outer_of (keyword_text k) ≡ None
unfolding outer_of
no-body Let = refl
no-body (Put Set) = refl
no-body (Put Add) = refl
no-body Print = refl
no-body Spawn = refl
no-body Sync = refl
no-body Stop = refl
no-body If = refl
no-body Else = refl
no-body While = refl
no-body End = refl

ended-names : (j : JobTree) (o : Inside) (m : ℕ) (r : Option (List Frame × Block))
    → so_far (behind j o m r).0 (behind j o m r).1 ≡ so_far j (Some o)
ended-names j o m None = append-nil _ ∙ map-append (λ (b : BodyTree). b.name) j.bodies (ended o ∷ [])
ended-names j o m (Some s) = refl

inner-adds : (bodies : List Word) (j : JobTree) (o : Inside) (k : Word) (ws : Words) (w : Option Keyword) (p : JobTree × Option Inside)
    → keyword_of k ≡ w → inner_line bodies j o w ws ≡ Ok p → Adds j (Some o) (k ∷ ws) p
unfolding line_behind
inner-adds bodies j o k ws None p h e = absurd cc
inner-adds bodies j o k ws (Some w) p h e =
    let o' : Inside = mentioning j.format o (Some w) ws in
    let m = made-ok (with_line j o') (said (array_names j) bodies o' (Some w) ws) p e in
    let names : so_far p.0 p.1 ≡ so_far j (Some o) =
    ap (λ (q : JobTree × Option Inside). so_far q.0 q.1) (sym m.2)
    ∙ ended-names j o' (statements_behind o'.statements m.0) (step_of m.0 o.frames o.block) in
    same-adds j (Some o) (k ∷ ws) p names
    (ap (λ (x : Word). name_if_body (outer_of x) ws) (keyword-said k w h) ∙ ap (λ (x : Option Outer). name_if_body x ws) (no-body w))

le-false : (a b : ℕ) → nat_le a b ≡ false → b < a
le-false a b e = grind (arith, common_steps)

second-false : {A : Type 0} (a b : Bool) (c d : Code) (r : Result A Code) (y : A) → (if a then Err c else if b then Err d else r) ≡ Ok y
    → b ≡ false
second-false true b c d r y e = absurd cc
second-false false true c d r y e = absurd cc
second-false false false c d r y e = refl

outer-adds : (bodies : List Word) (j : JobTree) (k : Word) (ws : Words) (x : Option Outer) (p : JobTree × Option Inside) → outer_of k ≡ x
    → outer_line bodies j x ws ≡ Ok p → Adds j None (k ∷ ws) p
outer-adds bodies j k ws None p h e = absurd cc
outer-adds bodies j k ws (Some outer.Array) p h e =
    let m = made-ok (λ (i : JobTree). (i, None)) (array_line j ws) p e in
    let a = bind-ok (array_of ws) (with_array j) m.0 m.1 in
    let ok =
    two-tests (is_among (array_names j) a.0.0) (nat_le 16 (length (array_names j))) Twice TooMany
    (Ok (record j { arrays = j.arrays ++ a.0 ∷ [] })) m.0 a.2 in
    let same : (record j { arrays = j.arrays ++ a.0 ∷ [] }) ≡ m.0 = cc in
    same-adds j None (k ∷ ws) p
    (ap (λ (q : JobTree × Option Inside). so_far q.0 q.1) (sym m.2) ∙ ap (λ (i : JobTree). so_far i None) (sym same))
    (ap (λ (o : Option Outer). name_if_body o ws) h)
outer-adds bodies j k ws (Some outer.Start) p h e =
    let m = made-ok (λ (i : JobTree). (i, None)) (start_line bodies j ws) p e in
    let a = bind-ok (start_of bodies ws) (with_start j) m.0 m.1 in
    let ok = one-test (nat_le 4096 (length j.starts)) TooMany (Ok (record j { starts = j.starts ++ a.0 ∷ [] })) m.0 a.2 in
    let same : (record j { starts = j.starts ++ a.0 ∷ [] }) ≡ m.0 = cc in
    same-adds j None (k ∷ ws) p
    (ap (λ (q : JobTree × Option Inside). so_far q.0 q.1) (sym m.2) ∙ ap (λ (i : JobTree). so_far i None) (sym same))
    (ap (λ (o : Option Outer). name_if_body o ws) h)
outer-adds bodies j k [] (Some outer.Body) p h e = absurd cc
outer-adds bodies j k (name ∷ ws) (Some outer.Body) p h e =
    let m = made-ok (λ (o : Inside). (j, Some o)) (body_line j (name ∷ ws)) p e in
    let a = bind-ok (body_of j.format (name ∷ ws)) (new_body j) m.0 m.1 in
    let b = head-parts j.format name ws a.0 a.1 in
    let twice : Bool = is_among (body_names j) a.0.0 || not (are_apart a.0.1) in
    let many : Bool = nat_le 64 (length (body_names j)) || nat_lt 32 (length a.0.1) in
    let ok = two-tests twice many Twice TooMany (Ok (begun a.0)) m.0 a.2 in
    let same : begun a.0 ≡ m.0 = cc in
    let few : length (body_names j) < 64 =
    le-false 64 (length (body_names j))
    (or-left (nat_le 64 (length (body_names j))) (nat_lt 32 (length a.0.1)) (second-false twice many Twice TooMany (Ok (begun a.0)) m.0 a.2)) in
    let names : so_far p.0 p.1 ≡ body_names j ++ name ∷ [] =
    ap (λ (q : JobTree × Option Inside). so_far q.0 q.1) (sym m.2) ∙ ap (λ (o : Inside). so_far j (Some o)) (sym same)
    ∙ ap (λ (x : Word × List Word). body_names j ++ x.0 ∷ []) (sym b.same) in (
      names ∙ ap (λ (x : List Word). x ++ name ∷ []) (sym (append-nil (body_names j)))
          ∙ ap (λ (o : Option Outer). so_far j None ++ listed (name_if_body o (name ∷ ws))) (sym h),
      λ _. subst (λ (x : List Word). length x ≤ 64) (sym names) (omega (arith, length-append (body_names j) (name ∷ []))),
    )

step-adds : (bodies : List Word) (j : JobTree) (i : Option Inside) (ws : Words) (p : JobTree × Option Inside)
    → any_line bodies j i ws ≡ Ok p → Adds j i ws p
step-adds bodies j None [] p e = absurd cc
step-adds bodies j (Some o) [] p e = absurd cc
step-adds bodies j None (k ∷ ws) p e = outer-adds bodies j k ws (outer_of k) p refl e
step-adds bodies j (Some o) (k ∷ ws) p e = inner-adds bodies j o k ws (keyword_of k) p refl (known-line bodies j o (keyword_of k) ws p e).0

pub is-hash : (c : ℕ) → nat_eq c 35 ≡ true → c ≡ 35
is-hash c h = grind (arith, common_steps)

hash-none : (cs : Word) → outer_of (35 ∷ cs) ≡ None
unfolding outer_of
hash-none cs = refl

pub skipped-none : (ws : Words) → is_skipped ws ≡ true → declared_by ws ≡ None
skipped-none [] e = refl
skipped-none ([] ∷ ws) e = absurd cc
skipped-none ((c ∷ cs) ∷ ws) e =
    ap (λ (x : ℕ). name_if_body (outer_of (x ∷ cs)) ws) (is-hash c e) ∙ ap (λ (o : Option Outer). name_if_body o ws) (hash-none cs)

pub listed-first : (xs : List Word) (o : Option Word) (ys : List Word) → (xs ++ listed o) ++ ys ≡ xs ++ cons_option o ys
listed-first xs None ys = append_assoc xs [] ys
listed-first xs (Some w) ys = append_assoc xs (w ∷ []) ys

pub lines-named : (bodies : List Word) (ls : List (List ℕ)) (n : ℕ) (a : Above) (j : JobTree) → length (so_far a.job a.inside) ≤ 64
    → read_lines bodies n a ls ≡ Ok j
    → (body_names j ≡ so_far a.job a.inside ++ names_in ls) × (length (body_names j) ≤ 64)
lines-named bodies [] n a j h e =
    let f = finished-ok n a a.inside a.missing j e in
    let same : body_names j ≡ so_far a.job a.inside =
    ap body_names (sym f.2) ∙ sym (append-nil (body_names a.job)) ∙ ap (λ (i : Option Inside). so_far a.job i) (sym f.0) in
    (same ∙ sym (append-nil (so_far a.job a.inside)), subst (λ (x : List Word). length x ≤ 64) (sym same) h)
lines-named bodies (l ∷ ls) n a j h e =
    let m = next bodies n a l ls j e in
    elim m.2 [
      | inl x ↦
          let r = lines-named bodies ls (n + 1) m.0 j (subst (λ (b : Above). length (so_far b.job b.inside) ≤ 64) x.1 h) m.1 in (
            r.0 ∙ ap (λ (b : Above). so_far b.job b.inside ++ names_in ls) (sym x.1)
                ∙ ap (λ (o : Option Word). so_far a.job a.inside ++ cons_option o (names_in ls)) (sym (skipped-none (words_of l) x.0)),
            r.1,
          )
      | inr x ↦
          let s = step-adds bodies a.job a.inside (words_of l) x.1.0 x.1.1 in
          let same : so_far m.0.job m.0.inside ≡ so_far x.1.0.0 x.1.0.1 =
          ap (λ (k : JobTree). so_far k m.0.inside) x.1.2 ∙ ap (λ (i : Option Inside). so_far x.1.0.0 i) x.1.3 in
          let r = lines-named bodies ls (n + 1) m.0 j (subst (λ (y : List Word). length y ≤ 64) (sym same) (s.1 h)) m.1 in (
            r.0 ∙ ap (λ (y : List Word). y ++ names_in ls) (same ∙ s.0)
                ∙ listed-first (so_far a.job a.inside) (declared_by (words_of l)) (names_in ls),
            r.1,
          )
    ]

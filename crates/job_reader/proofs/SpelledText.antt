-- A text that is read is the text of its job.
use Rattle.std.proofs.Common.{◌≡◌, ◌⊎◌, inl, inr, ℕ, ◌+◌, Bool, true, false, List, [], ◌∷◌, ◌++◌, length, Option, Some, None, Result, Ok, Err, refl, sym, ap, subst, ◌∙◌, append-nil, append_assoc}
use Rattle.std.specs.Prelude.{if◌then◌else◌, nat_le}
use Rattle.text_lines.specs.declared.refusal.Code.{Code}
use Rattle.text_lines.specs.declared.refusal.Code.TheVariants.{Twice, TooMany}
use Rattle.task_code.specs.Names.{is_among}
use Rattle.task_code.specs.Tree.{Block}
use Rattle.task_code.specs.Open.{Frame, step_of}
use Rattle.job_reader.specs.declared.lines.Keyword.{Keyword}
use Rattle.job_reader.specs.Lines.{keyword_of, known_in}
use Rattle.job_reader.specs.declared.outer.Outer.{Outer}
use Rattle.text_lines.specs.Text.{words_of, is_skipped}
use Rattle.job_reader.specs.Words.{Word, Words}
use Rattle.job_reader.proofs.SaidLemmas.{made-ok}
use Rattle.job_reader.specs.declared.outer.Outer.TheVariants as outer
use Rattle.job_reader.specs.Trees.{JobTree, array_names}
use Rattle.job_reader.specs.Above.{Inside, Above, statements_behind}
use Rattle.job_reader.specs.Grammar.{kept}
use Rattle.job_reader.specs.Reading.{at, outer_of, with_array, with_start, array_of, start_of, array_line, body_line, start_line, outer_line, mentioning, said, behind, with_line, any_line, is_missing, first_missing, line_step, kept_step, finished, read_lines}
use Rattle.job_reader.proofs.ItemLemmas.{SpelledOut}
use Rattle.job_reader.proofs.SpelledInside.{Tells, inner-spelled-out}
use Rattle.job_reader.proofs.SpelledOuter.{bind-ok, two-tests, one-test, outer-spelled-out}

pub finished-ok : (n : ℕ) (a : Above) (i : Option Inside) (m : Option ℕ) (j : JobTree) → finished n a i m ≡ Ok j
    → (i ≡ None) × (m ≡ None) × (a.job ≡ j)
finished-ok n a (Some o) m j e = absurd cc
finished-ok n a None (Some k) j e = absurd cc
finished-ok n a None None j e = (refl, refl, cc)

at-ok : {A : Type 0} (n : ℕ) (r : Result A Code) (x : A) → at n r ≡ Ok x → r ≡ Ok x
at-ok n (Ok y) x e = let same : y ≡ x = cc in ap (λ z. Ok z) same
at-ok n (Err c) x e = absurd cc

skip-cases : {A : Type 0} (b : Bool) (a x : A) (r : Result A Code) → (if b then Ok a else r) ≡ Ok x
    → ((b ≡ true) × (a ≡ x)) ⊎ ((b ≡ false) × (r ≡ Ok x))
skip-cases true a x r e = inl (refl, cc)
skip-cases false a x r e = inr (refl, e)

missing-none : (m : Option ℕ) (n : ℕ) (b : Bool) → first_missing m n b ≡ None → (m ≡ None) × (b ≡ false)
missing-none (Some k) n b e = absurd cc
missing-none None n true e = absurd cc
missing-none None n false e = (refl, refl)

-- what a line that was read made of the lines above it
abbrev pub Stepped : List Word → ℕ → Above → Words → Above → Type 0
Stepped bodies n a ws b =
    (p : JobTree × Option Inside) × (any_line bodies a.job a.inside ws ≡ Ok p) × (b.job ≡ p.0) × (b.inside ≡ p.1)
    × (b.missing ≡ first_missing a.missing n (is_missing bodies ws))

stepped : (bodies : List Word) (n : ℕ) (a : Above) (ws : Words) (b : Above) → line_step bodies n a ws ≡ Ok b → Stepped bodies n a ws b
stepped bodies n a ws b e =
    let f : JobTree × Option Inside → Above =
    λ p. record { job = p.0; inside = p.1; missing = first_missing a.missing n (is_missing bodies ws) } in
    let m = made-ok f (any_line bodies a.job a.inside ws) b e in
    (m.0, m.1, ap (λ (x : Above). x.job) (sym m.2), ap (λ (x : Above). x.inside) (sym m.2), ap (λ (x : Above). x.missing) (sym m.2))

-- a line of the text, skipped or read
abbrev pub Next : List Word → ℕ → Above → List ℕ → List (List ℕ) → JobTree → Type 0
Next bodies n a l ls j =
    (b : Above) × (read_lines bodies (n + 1) b ls ≡ Ok j)
    × (((is_skipped (words_of l) ≡ true) × (a ≡ b)) ⊎ ((is_skipped (words_of l) ≡ false) × Stepped bodies n a (words_of l) b))

pub next : (bodies : List Word) (n : ℕ) (a : Above) (l : List ℕ) (ls : List (List ℕ)) (j : JobTree) → read_lines bodies n a (l ∷ ls) ≡ Ok j
    → Next bodies n a l ls j
next bodies n a l ls j e =
    let m = bind-ok (at n (kept_step bodies n a (words_of l))) (λ (b : Above). read_lines bodies (n + 1) b ls) j e in
    let k = at-ok n (kept_step bodies n a (words_of l)) m.0 m.1 in (
      m.0,
      m.2,
      elim (skip-cases (is_skipped (words_of l)) a m.0 (line_step bodies n a (words_of l)) k) [
        | inl x ↦ inl x
        | inr x ↦ inr (x.0, stepped bodies n a (words_of l) m.0 x.1)
      ],
    )

inner-format : (j : JobTree) (o : Inside) (m : ℕ) (r : Option (List Frame × Block)) → (behind j o m r).0.format ≡ j.format
inner-format j o m None = refl
inner-format j o m (Some s) = refl

-- a line leaves the format
any-format : (bodies : List Word) (j : JobTree) (i : Option Inside) (ws : Words) (p : JobTree × Option Inside)
    → any_line bodies j i ws ≡ Ok p → p.0.format ≡ j.format
any-format bodies j None [] p e = absurd cc
any-format bodies j (Some o) [] p e = absurd cc
any-format bodies j (Some o) (k ∷ ws) p e =
    let w : Option Keyword = known_in j.format (keyword_of k) in
    let o' : Inside = mentioning j.format o w ws in
    let m = made-ok (with_line j o') (said (array_names j) bodies o' w ws) p e in
    ap (λ (q : JobTree × Option Inside). q.0.format) (sym m.2)
    ∙ inner-format j o' (statements_behind o'.statements m.0) (step_of m.0 o.frames o.block)
any-format bodies j None (k ∷ ws) p e = by (outer_of k) e
  where
    by : (x : Option Outer) → outer_line bodies j x ws ≡ Ok p → p.0.format ≡ j.format
    by None e = absurd cc
    by (Some outer.Array) e =
        let m = made-ok (λ (i : JobTree). (i, None)) (array_line j ws) p e in
        let a = bind-ok (array_of ws) (with_array j) m.0 m.1 in
        let ok =
        two-tests (is_among (array_names j) a.0.0) (nat_le 16 (length (array_names j))) Twice TooMany
        (Ok (record j { arrays = j.arrays ++ a.0 ∷ [] })) m.0 a.2 in
        let same : (record j { arrays = j.arrays ++ a.0 ∷ [] }) ≡ m.0 = cc in
        ap (λ (q : JobTree × Option Inside). q.0.format) (sym m.2) ∙ ap (λ (i : JobTree). i.format) (sym same)
    by (Some outer.Body) e =
        let m = made-ok (λ (o : Inside). (j, Some o)) (body_line j ws) p e in
        ap (λ (q : JobTree × Option Inside). q.0.format) (sym m.2)
    by (Some outer.Start) e =
        let m = made-ok (λ (i : JobTree). (i, None)) (start_line bodies j ws) p e in
        let a = bind-ok (start_of bodies ws) (with_start j) m.0 m.1 in
        let ok = one-test (nat_le 4096 (length j.starts)) TooMany (Ok (record j { starts = j.starts ++ a.0 ∷ [] })) m.0 a.2 in
        let same : (record j { starts = j.starts ++ a.0 ∷ [] }) ≡ m.0 = cc in
        ap (λ (q : JobTree × Option Inside). q.0.format) (sym m.2) ∙ ap (λ (i : JobTree). i.format) (sym same)

pub lines-format : (bodies : List Word) (ls : List (List ℕ)) (n : ℕ) (a : Above) (j : JobTree) → read_lines bodies n a ls ≡ Ok j
    → j.format ≡ a.job.format
lines-format bodies [] n a j e = ap (λ (x : JobTree). x.format) (sym (finished-ok n a a.inside a.missing j e).2)
lines-format bodies (l ∷ ls) n a j e =
    let m = next bodies n a l ls j e in
    elim m.2 [
      | inl x ↦ lines-format bodies ls (n + 1) m.0 j m.1 ∙ ap (λ (b : Above). b.job.format) (sym x.1)
      | inr x ↦
          lines-format bodies ls (n + 1) m.0 j m.1 ∙ ap (λ (k : JobTree). k.format) x.1.2
          ∙ any-format bodies a.job a.inside (words_of l) x.1.0 x.1.1
    ]

pub lines-found : (bodies : List Word) (ls : List (List ℕ)) (n : ℕ) (a : Above) (j : JobTree) → read_lines bodies n a ls ≡ Ok j
    → a.missing ≡ None
lines-found bodies [] n a j e = (finished-ok n a a.inside a.missing j e).1
lines-found bodies (l ∷ ls) n a j e =
    let m = next bodies n a l ls j e in
    let later : m.0.missing ≡ None = lines-found bodies ls (n + 1) m.0 j m.1 in
    elim m.2 [
      | inl x ↦ ap (λ (y : Above). y.missing) x.1 ∙ later
      | inr x ↦ (missing-none a.missing n (is_missing bodies (words_of l)) (sym x.1.4 ∙ later)).0
    ]

step-spelled-out : (bodies : List Word) (lines : List Words) (j : JobTree) (i : Option Inside) (ws : Words) (p : JobTree × Option Inside)
    → Tells bodies lines j i → is_missing bodies ws ≡ false
    → any_line bodies j i ws ≡ Ok p → Tells bodies (lines ++ ws ∷ []) p.0 p.1
step-spelled-out bodies lines j None [] p t miss e = absurd cc
step-spelled-out bodies lines j (Some o) [] p t miss e = absurd cc
step-spelled-out bodies lines j None (k ∷ ws) p t miss e = outer-spelled-out bodies lines j k ws p t miss e
step-spelled-out bodies lines j (Some o) (k ∷ ws) p t miss e = inner-spelled-out bodies lines j o k ws p t miss e

pub lines-spelled-out : (bodies : List Word) (ls : List (List ℕ)) (n : ℕ) (a : Above) (lines : List Words) (j : JobTree)
    → Tells bodies lines a.job a.inside → read_lines bodies n a ls ≡ Ok j
    → SpelledOut bodies (lines ++ kept ls) j
lines-spelled-out bodies [] n a lines j t e =
    let f = finished-ok n a a.inside a.missing j e in
    subst (λ (x : List Words). SpelledOut bodies x j) (sym (append-nil lines))
    (subst (λ (x : JobTree). SpelledOut bodies lines x) f.2 (subst (λ (i : Option Inside). Tells bodies lines a.job i) f.0 t))
lines-spelled-out bodies (l ∷ ls) n a lines j t e =
    let m = next bodies n a l ls j e in
    elim m.2 [
      | inl x ↦
          subst (λ (c : List Words). SpelledOut bodies (lines ++ c) j)
          (sym (ap (λ (b : Bool). if b then kept ls else words_of l ∷ kept ls) x.0))
          (lines-spelled-out bodies ls (n + 1) m.0 lines j (subst (λ (y : Above). Tells bodies lines y.job y.inside) x.1 t) m.1)
      | inr x ↦
          let later : m.0.missing ≡ None = lines-found bodies ls (n + 1) m.0 j m.1 in
          let miss : is_missing bodies (words_of l) ≡ false =
          (missing-none a.missing n (is_missing bodies (words_of l)) (sym x.1.4 ∙ later)).1 in
          let s = step-spelled-out bodies lines a.job a.inside (words_of l) x.1.0 t miss x.1.1 in
          let u : Tells bodies (lines ++ words_of l ∷ []) m.0.job m.0.inside =
          subst (λ (k : JobTree). Tells bodies (lines ++ words_of l ∷ []) k m.0.inside) (sym x.1.2)
          (subst (λ (i : Option Inside). Tells bodies (lines ++ words_of l ∷ []) x.1.0.0 i) (sym x.1.3) s) in
          subst (λ (c : List Words). SpelledOut bodies c j)
          (append_assoc lines (words_of l ∷ []) (kept ls)
          ∙ ap (λ (c : List Words). lines ++ c) (sym (ap (λ (b : Bool). if b then kept ls else words_of l ∷ kept ls) x.0)))
          (lines-spelled-out bodies ls (n + 1) m.0 (lines ++ words_of l ∷ []) j u m.1)
    ]

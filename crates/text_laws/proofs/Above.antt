-- The lines above a line that is refused are a job's with the ends of what is open and the bodies that are missing.
use Rattle.std.proofs.Common.{◌≡◌, ◌≢◌, ◌⊎◌, ◌+◌, length-append, inl, inr, ℕ, suc, zero, ◌-◌, ◌≤◌, Bool, true, false, List, [], ◌∷◌, ◌++◌, length, replicate, take, drop, Option, Some, None, Result, Ok, Err, refl, sym, ap, subst, ◌∙◌, arith, append-nil, append_assoc, take_all}
use Rattle.std.specs.Prelude.{if◌then◌else◌}
use Rattle.std.specs.List.{list_all}
use Rattle.std.proofs.lemmas.List.{take-append-drop}
use Rattle.std.proofs.lemmas.List.Elements.{filter_map-append}
use Rattle.std.proofs.lemmas.List.Folds.{list_all-append}
use Rattle.std.proofs.Math.Seq.{take-append_seam}
use Rattle.text_lines.specs.declared.refusal.Code.{Code}
use Rattle.text_lines.specs.declared.refusal.Code.TheVariants.{BadHeader}
use Rattle.text_lines.specs.declared.refusal.Refusal.{Refusal}
use Rattle.text_lines.specs.Text.{lines_of, words_of, is_skipped, bad_byte_line}
use Rattle.text_lines.specs.Laws.{is_line}
use Rattle.text_lines.proofs.Readings.{lines_back}
use Rattle.task_code.specs.Names.{is_free}
use Rattle.job_reader.specs.Words.{Word, Words}
use Rattle.job_reader.proofs.SaidLemmas.{made-ok, and-true}
use Rattle.job_reader.proofs.GrowLemmas.{and-left}
use Rattle.job_reader.specs.Trees.{JobTree}
use Rattle.job_reader.proofs.SpelledOuter.{bind-ok}
use Rattle.job_reader.specs.Above.{Above}
use Rattle.job_reader.specs.Reading.{◌>>=◌, at, refused, format_of, outer_of, declared_by, declared, read_from, unless_bad, job_in}
use Rattle.text_laws.specs.Laws.{IsTextOfJob}
use Rattle.text_laws.proofs.Joined.{texts-are-read}
use Rattle.text_laws.specs.Refusals.{IsRefusedOfALine, IsABeginning, above, declared_in, named_in, missing_in, empty_bodies, LinesAboveGoOn, BeginAlike, IsOfItsLine, RefusalsAreOfALineOrTextsGoOn}
use Rattle.text_laws.proofs.Named.{open_name, so_far, lines-tell}
use Rattle.text_laws.proofs.Lacking.{lacking-read, lacking-free, empty-declare, empty-whole, empty-allowed, empty-found, all-known, lines-found}
use Rattle.text_laws.proofs.Seen.{SeenBody, Seen}
use Rattle.text_laws.proofs.Folds.{IsFault, step, read, glance, see_first, see_words, see_lines, spelled_out, read-next, step-seen}
use Rattle.text_laws.proofs.BadLines.{by-lines}
use Rattle.text_laws.proofs.Closing.{IsClosed, lines-append, end_line, ends, ends-few, lines-within, closes}
use Rattle.text_laws.proofs.Ended.{are_found, are_allowed, none-bad, text-read}
use Rattle.text_laws.proofs.Held.{short-read, fault-stays, not-late, by-byte}

-- all of a list is all of its front
all-front : {A : Type 0} (p : A → Bool) (xs ys : List A) → list_all p (xs ++ ys) ≡ true → list_all p xs ≡ true
all-front p xs ys e = and-left _ (list_all p ys) (sym (list_all-append p xs ys) ∙ e)

all-taken : {A : Type 0} (p : A → Bool) (n : ℕ) (xs : List A) → list_all p xs ≡ true → list_all p (take n xs) ≡ true
all-taken p n xs e = all-front p (take n xs) (drop n xs) (ap (list_all p) (take-append-drop n xs) ∙ e)

all-again : (p : List ℕ → Bool) (n : ℕ) (l : List ℕ) → p l ≡ true → list_all p (replicate n l) ≡ true
all-again p zero l e = refl
all-again p (suc n) l e = and-true _ _ e (all-again p n l e)

all-joined : (p : List ℕ → Bool) (ls : List (List ℕ)) (n : ℕ) (l : List ℕ) (more : List (List ℕ)) → list_all p ls ≡ true → p l ≡ true
    → list_all p more ≡ true
    → list_all p (ls ++ (replicate n l ++ more)) ≡ true
all-joined p ls n l more e f g =
    list_all-append p ls (replicate n l ++ more)
    ∙ and-true _ _ e (list_all-append p (replicate n l) more ∙ and-true _ _ (all-again p n l f) g)

ends-none : (n : ℕ) → declared_in (replicate n end_line) ≡ []
unfolding outer_of
ends-none zero = refl
ends-none (suc n) = ends-none n

-- ends declare nothing
ends-declare : (ls : List (List ℕ)) (n : ℕ) → declared_in (ls ++ replicate n end_line) ≡ declared_in ls
ends-declare ls n =
    filter_map-append (λ l. declared_by (words_of l)) ls (replicate n end_line) ∙ ap (λ (x : List Word). declared_in ls ++ x) (ends-none n)
    ∙ append-nil (declared_in ls)

all-declare : (ls : List (List ℕ)) (n : ℕ) (ns : List Word) → list_all is_free ns ≡ true
    → declared_in (ls ++ (replicate n end_line ++ empty_bodies ns)) ≡ declared_in ls ++ ns
all-declare ls n ns e =
    ap declared_in (sym (append_assoc ls (replicate n end_line) (empty_bodies ns)))
    ∙ filter_map-append (λ l. declared_by (words_of l)) (ls ++ replicate n end_line) (empty_bodies ns)
    ∙ ap (λ (x : List Word). x ++ declared_in (empty_bodies ns)) (ends-declare ls n)
    ∙ ap (λ (x : List Word). declared_in ls ++ x) (empty-declare ns e)

-- if no body is open
closed-as : (w : Seen) (names : List Word) → w.inside ≡ None → so_far w ≡ names
    → w ≡ record { format = w.format; arrays = w.arrays; bodies = names; starts = w.starts; inside = None }
closed-as w names e f =
    let bodies : w.bodies ≡ names = sym (append-nil w.bodies) ∙ ap (λ (i : Option SeenBody). w.bodies ++ open_name i) (sym e) ∙ f in
    ap (λ (i : Option SeenBody). record { format = w.format; arrays = w.arrays; bodies = w.bodies; starts = w.starts; inside = i }) e
    ∙ ap (λ (x : List Word). record { format = w.format; arrays = w.arrays; bodies = x; starts = w.starts; inside = None }) bodies

-- a header is in front of each line that is refused of anything else
header-bad : (b : Bool) (o : Option ℕ) (x : Code) → ◌≡◌ {A = Result (Option Seen) Code} (if b then Ok None else see_first o) (Err x)
    → x ≡ BadHeader
header-bad true o x e = absurd cc
header-bad false (Some format) x e = absurd cc
header-bad false None x e = cc

abbrev Begun : Option Seen → Type 0
Begun p = (v : Seen) × (p ≡ Some v)

begun : (p : Option Seen) (ws : Words) (x : Code) → see_words p ws ≡ Err x → x ≢ BadHeader → Begun p
begun None ws x e h = absurd (h (header-bad (is_skipped ws) (format_of ws) x e))
begun (Some v) ws x e h = (v, refl)

module _ (Front : List (List ℕ)) (v : Seen) (reads : see_lines None Front ≡ Ok (Some v)) (whole : list_all is_line Front ≡ true)
    (allowed : are_allowed Front ≡ true) where
  abbrev Names : List Word
  Names = declared_in Front

  abbrev Missing : List Word
  Missing = missing_in Front

  names-free : list_all is_free (named_in Front) ≡ true
  names-free = (lines-tell Front None (Some v) reads).1

  missing-free : list_all is_free Missing ≡ true
  missing-free = lacking-free Names (named_in Front) names-free

  abbrev Ends : ℕ
  Ends = ends v.inside

  abbrev Closed : List (List ℕ)
  Closed = Front ++ replicate Ends end_line

  abbrev Whole : List (List ℕ)
  Whole = Front ++ (replicate Ends end_line ++ empty_bodies Missing)

  all-read : length (Names ++ Missing) ≤ 64 → IsClosed (see_lines None Whole)
  all-read capacity =
      let c = closes Front v reads in
      let names : so_far c.0 ≡ Names = (lines-tell Closed None (Some c.0) c.1).0 ∙ ends-declare Front Ends in
      let shape : c.0 ≡ record { format = c.0.format; arrays = c.0.arrays; bodies = Names; starts = c.0.starts; inside = None } =
      closed-as c.0 Names c.2 names in
      let r = lacking-read c.0.format (named_in Front) c.0.arrays Names c.0.starts names-free capacity in (
        r.0,
        ap (see_lines None) (sym (append_assoc Front (replicate Ends end_line) (empty_bodies Missing)))
            ∙ lines-append Closed (empty_bodies Missing) None (Some c.0) c.1
            ∙ ap (λ (w : Seen). see_lines (Some w) (empty_bodies Missing)) shape
            ∙ r.1,
        r.2,
      )

  all-found : length (Names ++ Missing) ≤ 64 → are_found (declared Whole) Whole ≡ true
  all-found capacity =
      let names : declared Whole ≡ Names ++ Missing =
      ap (take 64) (all-declare Front Ends Missing missing-free) ∙ take_all 64 (Names ++ Missing) capacity in
      subst (λ (x : List Word). are_found x Whole ≡ true) (sym names)
      (all-joined _ Front Ends end_line (empty_bodies Missing) (lines-found (Names ++ Missing) Front (all-known Names (named_in Front))) refl
      (empty-found (Names ++ Missing) Missing missing-free))

  all-whole : list_all is_line Whole ≡ true
  all-whole = all-joined is_line Front Ends end_line (empty_bodies Missing) whole refl (empty-whole Missing missing-free)

  all-allowed : are_allowed Whole ≡ true
  all-allowed = all-joined _ Front Ends end_line (empty_bodies Missing) allowed refl (empty-allowed Missing missing-free)

  few-ends : Ends ≤ 17
  few-ends = ends-few v.inside (lines-within Front None (Some v) tt reads)

  -- lines that are read may go on to a job
  beginning : IsABeginning Front
  beginning = (
    Ends,
    few-ends,
    λ capacity short. let c = all-read capacity in
        text-read Whole c.0 all-whole all-allowed (all-found capacity) c.1 c.2 short,
  )

fault-of : (text : List ℕ) (r : Refusal) → IsRefusedOfALine text r → bad_byte_line 1 text ≡ None → IsFault None 1 (lines_of text) r
fault-of text r h clean =
    elim
    (by-byte (bad_byte_line 1 text) (read_from (declared (lines_of text)) 1 (lines_of text)) r (sym (short-read text h.short) ∙ h.refused)) [
      | inl bad ↦ let no : ◌≡◌ {A = Option ℕ} None (Some r.line) = sym clean ∙ bad in absurd cc
      | inr e ↦
          elim (spelled_out (declared (lines_of text)) (lines_of text) (lines_of text) [] 1 None r refl refl (λ m t. absurd cc) e.1) [
            | inl f ↦ f
            | inr late ↦ absurd (not-late text r h late)
          ]
    ]

module _ (text : List ℕ) (r : Refusal) (fault : IsFault None 1 (lines_of text) r) (clean : bad_byte_line 1 text ≡ None)
    (other : r.code ≢ BadHeader) where
  front-is : above text r.line ≡ fault.front
  front-is =
      let count : r.line - 1 ≡ length fault.front = omega (arith, fault.place) in
      ap (λ (k : ℕ). take k (lines_of text)) count ∙ ap (take (length fault.front)) fault.parts
      ∙ take-append_seam fault.front (fault.line ∷ fault.back)

  seen-above : (v : Seen) × (see_lines None (above text r.line) ≡ Ok (Some v))
  seen-above =
      let b = begun fault.there (words_of fault.line) r.code fault.fault other in
      (b.0, ap (see_lines None) front-is ∙ fault.reads ∙ ap (λ (p : Option Seen). Ok p) b.1)

  above-goes-on : IsABeginning (above text r.line)
  above-goes-on =
      beginning (above text r.line) seen-above.0 seen-above.1 (all-taken is_line (r.line - 1) (lines_of text) (lines_back text).0)
      (all-taken _ (r.line - 1) (lines_of text) (none-bad (lines_of text) 1 (sym (by-lines text 1) ∙ clean)))

text-allowed : (text : List ℕ) → bad_byte_line 1 text ≡ None → are_allowed (lines_of text) ≡ true
text-allowed text clean = none-bad (lines_of text) 1 (sym (by-lines text 1) ∙ clean)

pub lines-above-go-on : LinesAboveGoOn
lines-above-go-on text r h clean other = above-goes-on text r (fault-of text r h clean) clean other

-- lines are read, or one is refused
abbrev Either : List (List ℕ) → Option Seen → Type 0
Either ls p = ((q : Option Seen) × (see_lines p ls ≡ Ok q)) ⊎ ((r : Refusal) × IsFault p 1 ls r)

step-or : (l : List ℕ) (ls : List (List ℕ)) (p : Option Seen) (s : Result (Option Seen) Code) → see_words p (words_of l) ≡ s
    → ((q : Option Seen) → see_words p (words_of l) ≡ Ok q → Either ls q)
    → Either (l ∷ ls) p
step-or l ls p (Err c) e later =
    inr (
      record { line = 1; code = c },
      record { front = []; line = l; back = ls; there = p; parts = refl; reads = refl; fault = e; place = omega arith },
    )
step-or l ls p (Ok q) e later =
    elim (later q e) [
      | inl x ↦ inl (x.0, ap (λ (r : Result (Option Seen) Code). r >>= λ w. see_lines w ls) e ∙ x.1)
      | inr x ↦
          inr (
            record { line = x.0.line + 1; code = x.0.code },
            record {
              front = l ∷ x.1.front;
              line = x.1.line;
              back = x.1.back;
              there = x.1.there;
              parts = ap (λ (y : List (List ℕ)). l ∷ y) x.1.parts;
              reads = ap (λ (r : Result (Option Seen) Code). r >>= λ w. see_lines w x.1.front) e ∙ x.1.reads;
              fault = x.1.fault;
              place = omega (arith, x.1.place);
            },
          )
    ]

either : (ls : List (List ℕ)) (p : Option Seen) → Either ls p
either [] p = inl (p, refl)
either (l ∷ ls) p = step-or l ls p (see_words p (words_of l)) refl (λ q e. either ls q)

no-header : (bodies : List Word) (ls : List (List ℕ)) (n : ℕ) (p : Option Above) → see_lines (glance p) ls ≡ Ok None
    → read bodies n p ls ≡ refused (n + length ls) BadHeader
no-header bodies [] n None e = ap (λ (k : ℕ). refused k BadHeader) (omega arith)
no-header bodies [] n (Some a) e = absurd cc
no-header bodies (l ∷ ls) n p e =
    let m = bind-ok (see_words (glance p) (words_of l)) (λ (v : Option Seen). see_lines v ls) None e in
    let s = made-ok glance (step bodies n p (words_of l)) m.0 (step-seen bodies n p (words_of l) ∙ m.1) in
    read-next bodies n p l ls
    ∙ ap (λ (r : Result (Option Above) Code). at n r >>= λ q. read bodies (n + 1) q ls) s.1
    ∙ no-header bodies ls (n + 1) s.0 (ap (λ (v : Option Seen). see_lines v ls) s.2 ∙ m.2)
    ∙ ap (λ (k : ℕ). refused k BadHeader) (omega arith)

same-refusal : (x : Result JobTree Refusal) (r s : Refusal) → x ≡ Err r → x ≡ Err s → r ≡ s
same-refusal x r s e f = let both : ◌≡◌ {A = Result JobTree Refusal} (Err r) (Err s) = sym e ∙ f in cc

fault-within : (ls : List (List ℕ)) (r : Refusal) → IsFault None 1 ls r → r.line ≤ length ls
fault-within ls r f =
    let long : length ls ≡ length (f.front ++ f.line ∷ f.back) = ap length f.parts in
    omega (arith, f.place, long, length-append f.front (f.line ∷ f.back))

fault-holds : (text : List ℕ) (r : Refusal) → IsFault None 1 (lines_of text) r → (other : List ℕ) (j : JobTree)
    → BeginAlike r.line text other
    → IsTextOfJob j other
    → ⊥
fault-holds text r f other j alike job =
    let lines : read_from (declared (lines_of other)) 1 (lines_of other) ≡ Err r =
    fault-stays (declared (lines_of other)) (lines_of text) (lines_of other) r f alike in
    let refusal : job_in other ≡ Err r =
    short-read other job.short
    ∙ ap (λ (o : Option ℕ). unless_bad o (read_from (declared (lines_of other)) 1 (lines_of other))) job.clean
    ∙ lines in
    let no : ◌≡◌ {A = Result JobTree Refusal} (Ok j) (Err r) = sym ((texts-are-read other j).1 job) ∙ refusal in
    absurd cc

module _ (text : List ℕ) (r : Refusal) (lines : read_from (declared (lines_of text)) 1 (lines_of text) ≡ Err r)
    (clean : bad_byte_line 1 text ≡ None) (other : r.code ≢ BadHeader) where
  of-line : (s : Refusal) → IsFault None 1 (lines_of text) s → IsOfItsLine text r
  of-line s f =
      let same : s ≡ r = sym (same-refusal _ r s lines (fault-stays (declared (lines_of text)) (lines_of text) (lines_of text) s f refl)) in
      let g : IsFault None 1 (lines_of text) r = subst (λ (x : Refusal). IsFault None 1 (lines_of text) x) same f in
      record { within = fault-within (lines_of text) r g; holds = fault-holds text r g; above = above-goes-on text r g clean other }

  seen-all : (q : Option Seen) → see_lines None (lines_of text) ≡ Ok q → IsABeginning (lines_of text)
  seen-all None e =
      let bad : read_from (declared (lines_of text)) 1 (lines_of text) ≡ refused (1 + length (lines_of text)) BadHeader =
      no-header (declared (lines_of text)) (lines_of text) 1 None e in
      absurd
      (other (ap (λ (x : Refusal). x.code) (same-refusal _ r (record { line = 1 + length (lines_of text); code = BadHeader }) lines bad)))
  seen-all (Some v) e = beginning (lines_of text) v e (lines_back text).0 (text-allowed text clean)

  either-way : IsOfItsLine text r ⊎ IsABeginning (lines_of text)
  either-way = elim (either (lines_of text) None) [ inl x ↦ inr (seen-all x.0 x.1) | inr x ↦ inl (of-line x.0 x.1) ]

pub of-a-line-or-go-on : RefusalsAreOfALineOrTextsGoOn
of-a-line-or-go-on text r refusal short clean other =
    let e =
    by-byte (bad_byte_line 1 text) (read_from (declared (lines_of text)) 1 (lines_of text)) r (sym (short-read text short) ∙ refusal) in
    let lines : read_from (declared (lines_of text)) 1 (lines_of text) ≡ Err r =
    elim e [ inl bad ↦ let no : ◌≡◌ {A = Option ℕ} None (Some r.line) = sym clean ∙ bad in absurd cc | inr x ↦ x.1 ] in
    either-way text r lines clean other

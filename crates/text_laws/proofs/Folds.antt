-- Lines after one another, up to the first that is refused.
use Rattle.std.proofs.Common.{◌≡◌, ◌⊎◌, inl, inr, ℕ, ◌+◌, ◌-◌, Bool, true, false, List, [], ◌∷◌, ◌++◌, length, slice_get, Option, Some, None, option_map, Result, Ok, Err, refl, sym, ap, subst, ◌∙◌, arith, append_assoc, length-append}
use Rattle.std.specs.Prelude.{if◌then◌else◌, unwrap_or}
use Rattle.text_lines.specs.declared.refusal.Code.{Code}
use Rattle.text_lines.specs.declared.refusal.Code.TheVariants.{BadHeader, UnknownName}
use Rattle.text_lines.specs.declared.refusal.Refusal.{Refusal}
use Rattle.text_lines.specs.Text.{words_of, is_skipped}
use Rattle.job_reader.specs.Faults.{made}
use Rattle.job_reader.specs.Words.{Word, Words}
use Rattle.job_reader.proofs.SaidLemmas.{made-ok}
use Rattle.job_reader.specs.Trees.{JobTree}
use Rattle.job_reader.specs.Above.{Inside, Above, nothing}
use Rattle.job_reader.specs.Reading.{
  ◌>>=◌,
  at,
  refused,
  format_of,
  read_behind,
  any_line,
  is_missing,
  first_missing,
  line_step,
  kept_step,
  finished,
  read_lines,
  read_from,
}
use Rattle.job_reader.proofs.SpelledOuter.{bind-ok}
use Rattle.text_laws.specs.Refusals.{words_at}
use Rattle.text_laws.proofs.Seen.{Seen, seen, see}
use Rattle.text_laws.proofs.SeenLines.{line-seen}

-- the first line, by the format that it says
abbrev pub first_step : Option ℕ → Result (Option Above) Code
first_step None = Err BadHeader
first_step (Some format) = Ok (Some (nothing format))

abbrev pub see_first : Option ℕ → Result (Option Seen) Code
see_first None = Err BadHeader
see_first (Some format) = Ok (Some (seen (nothing format)))

-- a line at which the header may still be to come
abbrev pub step : List Word → ℕ → Option Above → Words → Result (Option Above) Code
step bodies n None ws = if is_skipped ws then Ok None else first_step (format_of ws)
step bodies n (Some a) ws = made (λ b. Some b) (kept_step bodies n a ws)

abbrev pub read : List Word → ℕ → Option Above → List (List ℕ) → Result JobTree Refusal
read bodies n None ls = read_from bodies n ls
read bodies n (Some a) ls = read_lines bodies n a ls

abbrev pub glance : Option Above → Option Seen
glance p = option_map seen p

abbrev pub see_words : Option Seen → Words → Result (Option Seen) Code
see_words None ws = if is_skipped ws then Ok None else see_first (format_of ws)
see_words (Some v) ws = made (λ w. Some w) (see v ws)

abbrev pub see_lines : Option Seen → List (List ℕ) → Result (Option Seen) Code
see_lines v [] = Ok v
see_lines v (l ∷ ls) = see_words v (words_of l) >>= λ w. see_lines w ls

header-next : (bodies : List Word) (n : ℕ) (ls : List (List ℕ)) (b : Bool) (o : Option ℕ)
    → (if b then read_from bodies (n + 1) ls else read_behind bodies n o ls)
    ≡ (at n (if b then Ok None else first_step o) >>= λ q. read bodies (n + 1) q ls)
header-next bodies n ls true o = refl
header-next bodies n ls false (Some format) = refl
header-next bodies n ls false None = refl

line-next : (bodies : List Word) (n : ℕ) (ls : List (List ℕ)) (r : Result Above Code)
    → (at n r >>= λ b. read_lines bodies (n + 1) b ls) ≡ (at n (made (λ b. Some b) r) >>= λ q. read bodies (n + 1) q ls)
line-next bodies n ls (Ok a) = refl
line-next bodies n ls (Err c) = refl

pub read-next : (bodies : List Word) (n : ℕ) (p : Option Above) (l : List ℕ) (ls : List (List ℕ))
    → read bodies n p (l ∷ ls) ≡ (at n (step bodies n p (words_of l)) >>= λ q. read bodies (n + 1) q ls)
read-next bodies n None l ls = header-next bodies n ls (is_skipped (words_of l)) (format_of (words_of l))
read-next bodies n (Some a) l ls = line-next bodies n ls (kept_step bodies n a (words_of l))

header-seen : (b : Bool) (o : Option ℕ) → made glance (if b then Ok None else first_step o) ≡ (if b then Ok None else see_first o)
header-seen true o = refl
header-seen false (Some format) = refl
header-seen false None = refl

some-seen : (r : Result Above Code) → made glance (made (λ b. Some b) r) ≡ made (λ w. Some w) (made seen r)
some-seen (Ok a) = refl
some-seen (Err c) = refl

pub step-seen : (bodies : List Word) (n : ℕ) (p : Option Above) (ws : Words) → made glance (step bodies n p ws) ≡ see_words (glance p) ws
step-seen bodies n None ws = header-seen (is_skipped ws) (format_of ws)
step-seen bodies n (Some a) ws =
    some-seen (kept_step bodies n a ws) ∙ ap (λ (r : Result Seen Code). made (λ w. Some w) r) (line-seen bodies n a ws)

made-err : {A B : Type 0} (f : A → B) (r : Result A Code) (c : Code) → made f r ≡ Err c → r ≡ Err c
made-err f (Ok x) c e = absurd cc
made-err f (Err d) c e = let same : d ≡ c = cc in ap (λ x. Err x) same

-- the line that is refused, and what is read in front of it
pub record IsFault (v : Option Seen) (n : ℕ) (ls : List (List ℕ)) (r : Refusal) : Type 0 where
  pub front : List (List ℕ)
  pub line : List ℕ
  pub back : List (List ℕ)
  pub there : Option Seen
  pub parts : ls ≡ front ++ line ∷ back
  pub reads : see_lines v front ≡ Ok there
  pub fault : see_words there (words_of line) ≡ Err r.code
  pub place : r.line ≡ n + length front

-- refused at the end, or for a body that isn't there
abbrev pub IsLate : List Word → List (List ℕ) → ℕ → List (List ℕ) → Refusal → Type 0
IsLate bodies all n ls r = (r.line ≡ n + length ls) ⊎ ((r.code ≡ UnknownName) × (is_missing bodies (words_at all r.line) ≡ true))

-- the line that is kept as the first one that names a body that isn't there does so
abbrev pub missing_in : Option Above → Option ℕ
missing_in None = None
missing_in (Some a) = a.missing

abbrev pub AreMissing : List Word → List (List ℕ) → Option Above → Type 0
AreMissing bodies all p = (m : ℕ) → missing_in p ≡ Some m → is_missing bodies (words_at all m) ≡ true

get-behind : (done : List (List ℕ)) (l : List ℕ) (ls : List (List ℕ)) → slice_get (done ++ l ∷ ls) (length done) ≡ Some l
get-behind [] l ls = refl
get-behind (d ∷ ds) l ls = get-behind ds l ls

first-kept : (bodies : List Word) (all : List (List ℕ)) (n : ℕ) (o : Option ℕ) (b : Bool)
    → ((m : ℕ) → o ≡ Some m → is_missing bodies (words_at all m) ≡ true) → is_missing bodies (words_at all n) ≡ b
    → (m : ℕ) → first_missing o n b ≡ Some m → is_missing bodies (words_at all m) ≡ true
first-kept bodies all n (Some k) b h e m f = h m f
first-kept bodies all n None true h e m f = let same : n ≡ m = cc in subst (λ (k : ℕ). is_missing bodies (words_at all k) ≡ true) same e
first-kept bodies all n None false h e m f = absurd cc

pub skip-ok : {A : Type 0} (b : Bool) (a x : A) (r : Result A Code) → (if b then Ok a else r) ≡ Ok x → (a ≡ x) ⊎ (r ≡ Ok x)
skip-ok true a x r e = inl cc
skip-ok false a x r e = inr e

pub header-missing : (b : Bool) (o : Option ℕ) (q : Option Above)
    → ◌≡◌ {A = Result (Option Above) Code} (if b then Ok None else first_step o) (Ok q) → missing_in q ≡ None
header-missing true o q e = let same : None ≡ q = cc in ap missing_in (sym same)
header-missing false (Some format) q e = let same : Some (nothing format) ≡ q = cc in ap missing_in (sym same)
header-missing false None q e = absurd cc

module _ (bodies : List Word) (all : List (List ℕ)) where
  line-missing : (n : ℕ) (a b : Above) (ws : Words) → AreMissing bodies all (Some a) → words_at all n ≡ ws
      → line_step bodies n a ws ≡ Ok b → AreMissing bodies all (Some b)
  line-missing n a b ws h w e =
      let f : JobTree × Option Inside → Above =
      λ p. record { job = p.0; inside = p.1; missing = first_missing a.missing n (is_missing bodies ws) } in
      let m = made-ok f (any_line bodies a.job a.inside ws) b e in
      let same : b.missing ≡ first_missing a.missing n (is_missing bodies ws) = ap (λ (x : Above). x.missing) (sym m.2) in
      λ k t. first-kept bodies all n a.missing (is_missing bodies ws) h (ap (is_missing bodies) w) k (sym same ∙ t)

  kept-missing : (n : ℕ) (a b : Above) (ws : Words) → AreMissing bodies all (Some a) → words_at all n ≡ ws
      → kept_step bodies n a ws ≡ Ok b → AreMissing bodies all (Some b)
  kept-missing n a b ws h w e =
      elim (skip-ok (is_skipped ws) a b (line_step bodies n a ws) e) [
        | inl x ↦ subst (λ (y : Above). AreMissing bodies all (Some y)) x h
        | inr x ↦ line-missing n a b ws h w x
      ]

  step-missing : (n : ℕ) (p q : Option Above) (ws : Words) → AreMissing bodies all p → words_at all n ≡ ws
      → step bodies n p ws ≡ Ok q → AreMissing bodies all q
  step-missing n None q ws h w e =
      let none : missing_in q ≡ None = header-missing (is_skipped ws) (format_of ws) q e in
      λ k t. let no : ◌≡◌ {A = Option ℕ} None (Some k) = sym none ∙ t in absurd cc
  step-missing n (Some a) q ws h w e =
      let m = made-ok (λ (b : Above). Some b) (kept_step bodies n a ws) q e in
      subst (AreMissing bodies all) m.2 (kept-missing n a m.0 ws h w m.1)

  finished-late : (n : ℕ) (a : Above) (i : Option Inside) (o : Option ℕ) (r : Refusal)
      → ((m : ℕ) → o ≡ Some m → is_missing bodies (words_at all m) ≡ true)
      → finished n a i o ≡ Err r → IsLate bodies all n [] r
  finished-late n a (Some o) m r h e = let same : n ≡ r.line = cc in inl (omega (arith, same))
  finished-late n a None (Some k) r h e =
      let line : k ≡ r.line = cc in
      let code : UnknownName ≡ r.code = cc in
      inr (sym code, subst (λ (x : ℕ). is_missing bodies (words_at all x) ≡ true) line (h k refl))
  finished-late n a None None r h e = absurd cc

  end-late : (n : ℕ) (p : Option Above) (r : Refusal) → AreMissing bodies all p → read bodies n p [] ≡ Err r → IsLate bodies all n [] r
  end-late n None r h e = let same : n ≡ r.line = cc in inl (omega (arith, same))
  end-late n (Some a) r h e = finished-late n a a.inside a.missing r h e

  abbrev SpelledOut : ℕ → Option Above → List (List ℕ) → Refusal → Type 0
  SpelledOut n p ls r = IsFault (glance p) n ls r ⊎ IsLate bodies all n ls r

  further : (n : ℕ) (p q : Option Above) (l : List ℕ) (ls : List (List ℕ)) (r : Refusal) → step bodies n p (words_of l) ≡ Ok q
      → SpelledOut (n + 1) q ls r → SpelledOut n p (l ∷ ls) r
  further n p q l ls r s (inl f) =
      let one : see_words (glance p) (words_of l) ≡ Ok (glance q) = sym (step-seen bodies n p (words_of l)) ∙ ap (made glance) s in
      inl (record {
        front = l ∷ f.front;
        line = f.line;
        back = f.back;
        there = f.there;
        parts = ap (λ (x : List (List ℕ)). l ∷ x) f.parts;
        reads = ap (λ (x : Result (Option Seen) Code). x >>= λ w. see_lines w f.front) one ∙ f.reads;
        fault = f.fault;
        place = omega (arith, f.place);
      })
  further n p q l ls r s (inr (inl e)) = inr (inl (omega (arith, e)))
  further n p q l ls r s (inr (inr m)) = inr (inr m)

  here : (n : ℕ) (p : Option Above) (l : List ℕ) (ls : List (List ℕ)) (r : Refusal) (c : Code) → step bodies n p (words_of l) ≡ Err c
      → n ≡ r.line → c ≡ r.code → SpelledOut n p (l ∷ ls) r
  here n p l ls r c s line code =
      inl (record {
        front = [];
        line = l;
        back = ls;
        there = glance p;
        parts = refl;
        reads = refl;
        fault = sym (step-seen bodies n p (words_of l)) ∙ ap (made glance) (s ∙ ap (λ x. Err x) code);
        place = omega (arith, line);
      })

  by-step : (l : List ℕ) (ls : List (List ℕ)) (n : ℕ) (p : Option Above) (r : Refusal) (s : Result (Option Above) Code)
      → step bodies n p (words_of l) ≡ s → (at n s >>= λ q. read bodies (n + 1) q ls) ≡ Err r
      → ((q : Option Above) → step bodies n p (words_of l) ≡ Ok q → read bodies (n + 1) q ls ≡ Err r → SpelledOut (n + 1) q ls r)
      → SpelledOut n p (l ∷ ls) r
  by-step l ls n p r (Err c) s e later =
      let same : record { line = n; code = c } ≡ r = cc in
      here n p l ls r c s (ap (λ (x : Refusal). x.line) same) (ap (λ (x : Refusal). x.code) same)
  by-step l ls n p r (Ok q) s e later = further n p q l ls r s (later q s e)

  at-words : (done : List (List ℕ)) (l : List ℕ) (ls : List (List ℕ)) (n : ℕ) → all ≡ done ++ l ∷ ls → n ≡ length done + 1
      → words_at all n ≡ words_of l
  at-words done l ls n a e =
      let before : n - 1 ≡ length done = omega (arith, e) in
      ap (λ (x : List (List ℕ)). words_of (unwrap_or (slice_get x (n - 1)) [])) a
      ∙ ap (λ (k : ℕ). words_of (unwrap_or (slice_get (done ++ l ∷ ls) k) [])) before
      ∙ ap (λ (x : Option (List ℕ)). words_of (unwrap_or x [])) (get-behind done l ls)

  -- a refusal is of a line, or of the end, or of a body that isn't there
  pub spelled_out : (ls done : List (List ℕ)) (n : ℕ) (p : Option Above) (r : Refusal) → all ≡ done ++ ls → n ≡ length done + 1
      → AreMissing bodies all p
      → read bodies n p ls ≡ Err r → SpelledOut n p ls r
  spelled_out [] done n p r a e h f = inr (end-late n p r h f)
  spelled_out (l ∷ ls) done n p r a e h f =
      by-step l ls n p r (step bodies n p (words_of l)) refl (sym (read-next bodies n p l ls) ∙ f)
      (λ q s g.
      spelled_out ls (done ++ l ∷ []) (n + 1) q r (a ∙ sym (append_assoc done (l ∷ []) ls)) (omega (arith, e, length-append done (l ∷ [])))
      (step-missing n p q (words_of l) h (at-words done l ls n a e) s) g)

-- a fault of a line is one whatever follows it
pub stays : (bodies : List Word) (front : List (List ℕ)) (l : List ℕ) (back : List (List ℕ)) (n : ℕ) (p : Option Above) (w : Option Seen)
    (c : Code)
    → see_lines (glance p) front ≡ Ok w → see_words w (words_of l) ≡ Err c
    → read bodies n p (front ++ l ∷ back) ≡ refused (n + length front) c
stays bodies [] l back n p w c e f =
    let same : glance p ≡ w = cc in
    let bad : step bodies n p (words_of l) ≡ Err c =
    made-err glance (step bodies n p (words_of l)) c
    (step-seen bodies n p (words_of l) ∙ ap (λ (x : Option Seen). see_words x (words_of l)) same ∙ f) in
    read-next bodies n p l back
    ∙ ap (λ (r : Result (Option Above) Code). at n r >>= λ q. read bodies (n + 1) q back) bad
    ∙ ap (λ (k : ℕ). refused k c) (omega arith)
stays bodies (x ∷ front) l back n p w c e f =
    let m = bind-ok (see_words (glance p) (words_of x)) (λ (v : Option Seen). see_lines v front) w e in
    let s = made-ok glance (step bodies n p (words_of x)) m.0 (step-seen bodies n p (words_of x) ∙ m.1) in
    read-next bodies n p x (front ++ l ∷ back)
    ∙ ap (λ (r : Result (Option Above) Code). at n r >>= λ q. read bodies (n + 1) q (front ++ l ∷ back)) s.1
    ∙ stays bodies front l back (n + 1) s.0 w c (ap (λ (v : Option Seen). see_lines v front) s.2 ∙ m.2) f
    ∙ ap (λ (k : ℕ). refused k c) (omega arith)

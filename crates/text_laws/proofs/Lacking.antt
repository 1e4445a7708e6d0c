-- Bodies of the names that are missing are read, and then none is missing.
use Rattle.std.proofs.Common.{◌≡◌, ℕ, suc, ◌+◌, ◌≤◌, Bool, true, false, ◌||◌, ◌&&◌, List, [], ◌∷◌, ◌++◌, length, codes, Option, Some, None, Result, Ok, Err, refl, sym, ap, subst, ◌∙◌, arith, append_assoc, length-append}
use Rattle.std.specs.Prelude.{if◌then◌else◌, not, nat_le, ◌==◌}
use Rattle.std.specs.List.{cons_option, list_all}
use Rattle.std.specs.Str.{bytes_eq}
use Rattle.std.proofs.lemmas.Grind.{common_steps}
use Rattle.text_lines.specs.declared.refusal.Code.{Code}
use Rattle.text_lines.specs.declared.refusal.Code.TheVariants.{Twice, TooMany}
use Rattle.text_lines.specs.Text.{words_of, is_allowed}
use Rattle.text_lines.specs.Laws.{is_line, is_word}
use Rattle.text_lines.proofs.Readings.{spaced_words}
use Rattle.task_code.specs.Names.{is_in_name, begins_lower, is_name, is_reserved, is_free, is_among}
use Rattle.job_reader.specs.Faults.{both, made}
use Rattle.job_reader.specs.Words.{Word, Words}
use Rattle.job_reader.proofs.SaidLemmas.{and-true}
use Rattle.job_reader.proofs.GrowLemmas.{and-left, and-right}
use Rattle.job_reader.proofs.WrittenLemmas.{same-bytes, named-free}
use Rattle.job_reader.specs.Reading.{◌>>=◌, outer_of, declared_by, is_missing}
use Rattle.text_laws.specs.Refusals.{named_by, declared_in, named_in, lacking, empty_bodies}
use Rattle.text_laws.proofs.Seen.{Seen, see_body, see_any}
use Rattle.text_laws.proofs.Folds.{see_words, see_lines}
use Rattle.text_laws.proofs.Closing.{IsClosed, begun_body, after_body, begun-within, end_line, end-read}
use Rattle.text_laws.proofs.Ended.{are_found, are_allowed}
use Rattle.job_reader.proofs.WrittenExprs.{or-true}
use Rattle.job_reader.proofs.NotedNames.{or-true-left as or-this}
use Rattle.text_laws.proofs.TextOfLines.{all-through}

-- the bytes of names
word-byte : (c : ℕ) → is_in_name c ≡ true → not (c == 32) ≡ true
word-byte c e = grind (arith, common_steps)

line-byte : (c : ℕ) → is_in_name c ≡ true → not (c == 10) ≡ true
line-byte c e = grind (arith, common_steps)

allowed-byte : (c : ℕ) → is_in_name c ≡ true → is_allowed c ≡ true
allowed-byte c e = grind (arith, common_steps)

name-bytes : (w : Word) → is_free w ≡ true → list_all is_in_name w ≡ true
name-bytes w e = and-right (begins_lower w && nat_le (length w) 16) _ (and-left _ (not (is_reserved w)) e)

word-cases : (w : Word) → begins_lower w ≡ true → list_all is_in_name w ≡ true → is_word w ≡ true
word-cases [] b e = absurd cc
word-cases (c ∷ cs) b e = all-through is_in_name (λ d. not (d == 32)) (c ∷ cs) word-byte e

name-word : (w : Word) → is_free w ≡ true → is_word w ≡ true
name-word w e =
    let name : is_name w ≡ true = and-left _ (not (is_reserved w)) e in
    word-cases w (and-left (begins_lower w) _ (and-left (begins_lower w && nat_le (length w) 16) (list_all is_in_name w) name))
    (name-bytes w e)

-- the line of a body
module _ (w : Word) (free : is_free w ≡ true) where
  body-words : words_of (codes "body " ++ w) ≡ codes "body" ∷ w ∷ []
  body-words = (spaced_words (codes "body" ∷ []) refl).1 w (name-word w free)

  body-whole : is_line (codes "body " ++ w) ≡ true
  body-whole = all-through is_in_name (λ c. not (c == 10)) w line-byte (name-bytes w free)

  body-allowed : list_all is_allowed (codes "body " ++ w) ≡ true
  body-allowed = all-through is_in_name is_allowed w allowed-byte (name-bytes w free)

  declares : declared_by (words_of (codes "body " ++ w)) ≡ Some w
  unfolding outer_of
  declares = ap declared_by body-words

  not-missing : (bodies : List Word) → not (is_missing bodies (words_of (codes "body " ++ w))) ≡ true
  not-missing bodies = ap (λ (ws : Words). not (is_missing bodies ws)) body-words

  abbrev head : Word × List Word
  head = (w, [])

  body-named : (v : Seen) → see_any v None (codes "body" ∷ w ∷ []) ≡ see_body v head
  unfolding outer_of
  body-named v = ap (λ (r : Result (Unit {0}) Code). made (λ _. head) (both r (Ok tt)) >>= see_body v) (named-free w free)

  body-fits : (v : Seen) → is_among v.bodies w ≡ false → nat_le 64 (length v.bodies) ≡ false → see_body v head ≡ Ok (after_body v head)
  body-fits v e f =
      ap
      (λ (b : Bool). if b || false then Err Twice else if nat_le 64 (length v.bodies) || false then Err TooMany
      else Ok (after_body v head))
      e
      ∙ ap (λ (b : Bool). if b || false then Err TooMany else Ok (after_body v head)) f

  -- a body of this name, and lines after it
  body-read : (format : ℕ) (arrays there : List Word) (starts : ℕ) (ls : List (List ℕ)) → is_among there w ≡ false
      → nat_le 64 (length there) ≡ false
      → see_lines (Some (record { format = format; arrays = arrays; bodies = there; starts = starts; inside = None }))
      ((codes "body " ++ w) ∷ codes "end" ∷ ls)
      ≡ see_lines (Some (record { format = format; arrays = arrays; bodies = there ++ w ∷ []; starts = starts; inside = None })) ls
  body-read format arrays there starts ls e f =
      let v : Seen = record { format = format; arrays = arrays; bodies = there; starts = starts; inside = None } in
      let u : Seen = after_body v head in
      ap (λ (ws : Words). see_words (Some v) ws >>= λ x. see_lines x (codes "end" ∷ ls)) body-words
      ∙ ap (λ (r : Result Seen Code). made (λ x. Some x) r >>= λ x. see_lines x (codes "end" ∷ ls)) (body-named v ∙ body-fits v e f)
      ∙ ap (λ (r : Result Seen Code). made (λ x. Some x) r >>= λ x. see_lines x ls)
      (end-read u (begun_body head) (begun-within head (omega arith)))

below-limit : (n m : ℕ) → n + suc m ≤ 64 → nat_le 64 n ≡ false
below-limit n m h = grind (arith, common_steps)

-- bodies of the names that are missing
lacking-cases : (format : ℕ) (arrays there : List Word) (starts : ℕ) (w : Word) (ws : List Word) (b : Bool) → is_among there w ≡ b
    → is_free w ≡ true
    → length (there ++ (if b then lacking there ws else w ∷ lacking (there ++ w ∷ []) ws)) ≤ 64
    → (length (there ++ lacking there ws) ≤ 64
    → IsClosed
    (see_lines (Some (record { format = format; arrays = arrays; bodies = there; starts = starts; inside = None })) (empty_bodies (lacking there ws))))
    → (length ((there ++ w ∷ []) ++ lacking (there ++ w ∷ []) ws) ≤ 64
    → IsClosed
    (see_lines (Some (record { format = format; arrays = arrays; bodies = there ++ w ∷ []; starts = starts; inside = None })) (empty_bodies (lacking (there ++ w ∷ []) ws))))
    → IsClosed (see_lines (Some (record { format = format; arrays = arrays; bodies = there; starts = starts; inside = None }))
    (empty_bodies (if b then lacking there ws else w ∷ lacking (there ++ w ∷ []) ws)))
lacking-cases format arrays there starts w ws true e free h same more = same h
lacking-cases format arrays there starts w ws false e free h same more =
    let rest = lacking (there ++ w ∷ []) ws in
    let counted : length there + suc (length rest) ≤ 64 = omega (arith, h, length-append there (w ∷ rest)) in
    let r = more (subst (λ (x : List Word). length x ≤ 64) (sym (append_assoc there (w ∷ []) rest)) h) in
    (r.0, body-read w free format arrays there starts (empty_bodies rest) e (below-limit (length there) (length rest) counted) ∙ r.1, r.2)

pub lacking-read : (format : ℕ) (ws arrays there : List Word) (starts : ℕ) → list_all is_free ws ≡ true
    → length (there ++ lacking there ws) ≤ 64
    → IsClosed
    (see_lines (Some (record { format = format; arrays = arrays; bodies = there; starts = starts; inside = None })) (empty_bodies (lacking there ws)))
lacking-read format [] arrays there starts f h =
    (record { format = format; arrays = arrays; bodies = there; starts = starts; inside = None }, refl, refl)
lacking-read format (w ∷ ws) arrays there starts f h =
    let others : list_all is_free ws ≡ true = and-right (is_free w) _ f in
    lacking-cases format arrays there starts w ws (is_among there w) refl (and-left _ (list_all is_free ws) f) h
    (λ k. lacking-read format ws arrays there starts others k)
    (λ k. lacking-read format ws arrays (there ++ w ∷ []) starts others k)

if-free : (b : Bool) (w : Word) (xs ys : List Word) → is_free w ≡ true → list_all is_free xs ≡ true → list_all is_free ys ≡ true
    → list_all is_free (if b then xs else w ∷ ys) ≡ true
if-free true w xs ys e f g = f
if-free false w xs ys e f g = and-true _ _ e g

pub lacking-free : (there ws : List Word) → list_all is_free ws ≡ true → list_all is_free (lacking there ws) ≡ true
lacking-free there [] e = refl
lacking-free there (w ∷ ws) e =
    let others : list_all is_free ws ≡ true = and-right (is_free w) _ e in
    if-free (is_among there w) w _ _ (and-left _ (list_all is_free ws) e) (lacking-free there ws others)
    (lacking-free (there ++ w ∷ []) ws others)

-- what these lines declare, and that they are lines of allowed bytes that name no body
end-declares : (ls : List (List ℕ)) → declared_in (end_line ∷ ls) ≡ declared_in ls
unfolding outer_of
end-declares ls = refl

pub empty-declare : (ns : List Word) → list_all is_free ns ≡ true → declared_in (empty_bodies ns) ≡ ns
empty-declare [] e = refl
empty-declare (n ∷ ns) e =
    ap (λ (o : Option Word). cons_option o (declared_in (codes "end" ∷ empty_bodies ns))) (declares n (and-left _ (list_all is_free ns) e))
    ∙ ap (λ (x : List Word). n ∷ x) (end-declares (empty_bodies ns) ∙ empty-declare ns (and-right (is_free n) _ e))

pub empty-all : (p : List ℕ → Bool) (ns : List Word) → ((w : Word) → is_free w ≡ true → p (codes "body " ++ w) ≡ true)
    → p (codes "end") ≡ true
    → list_all is_free ns ≡ true
    → list_all p (empty_bodies ns) ≡ true
empty-all p [] h k e = refl
empty-all p (n ∷ ns) h k e =
    and-true _ _ (h n (and-left _ (list_all is_free ns) e)) (and-true _ _ k (empty-all p ns h k (and-right (is_free n) _ e)))

pub empty-whole : (ns : List Word) → list_all is_free ns ≡ true → list_all is_line (empty_bodies ns) ≡ true
empty-whole ns e = empty-all is_line ns body-whole refl e

pub empty-allowed : (ns : List Word) → list_all is_free ns ≡ true → are_allowed (empty_bodies ns) ≡ true
empty-allowed ns e = empty-all (λ l. list_all is_allowed l) ns body-allowed refl e

pub empty-found : (bodies ns : List Word) → list_all is_free ns ≡ true → are_found bodies (empty_bodies ns) ≡ true
empty-found bodies ns e = empty-all (λ l. not (is_missing bodies (words_of l))) ns (λ w f. not-missing w f bodies) refl e

among-or : (a b c : Bool) → (a || b) ≡ true → (b ≡ true → c ≡ true) → (a || c) ≡ true
among-or true b c e h = refl
among-or false b c e h = h e

among-front : (xs ys : List Word) (w : Word) → is_among xs w ≡ true → is_among (xs ++ ys) w ≡ true
among-front [] ys w e = absurd cc
among-front (x ∷ xs) ys w e = among-or (bytes_eq x w) (is_among xs w) (is_among (xs ++ ys) w) e (among-front xs ys w)

among-one : (xs : List Word) (w : Word) → is_among (xs ++ w ∷ []) w ≡ true
among-one [] w = or-this (bytes_eq w w) false (same-bytes w)
among-one (x ∷ xs) w = or-true (bytes_eq x w) _ (among-one xs w)

known-cases : (there : List Word) (w : Word) (ws : List Word) (b : Bool) → is_among there w ≡ b
    → list_all (is_among (there ++ lacking there ws)) ws ≡ true
    → list_all (is_among ((there ++ w ∷ []) ++ lacking (there ++ w ∷ []) ws)) ws ≡ true
    → list_all (is_among (there ++ (if b then lacking there ws else w ∷ lacking (there ++ w ∷ []) ws))) (w ∷ ws) ≡ true
known-cases there w ws true e same more = and-true _ _ (among-front there (lacking there ws) w e) same
known-cases there w ws false e same more =
    let rest = lacking (there ++ w ∷ []) ws in
    subst (λ (x : List Word). list_all (is_among x) (w ∷ ws) ≡ true) (append_assoc there (w ∷ []) rest)
    (and-true _ _ (among-front (there ++ w ∷ []) rest w (among-one there w)) more)

pub all-known : (there ws : List Word) → list_all (is_among (there ++ lacking there ws)) ws ≡ true
all-known there [] = refl
all-known there (w ∷ ws) = known-cases there w ws (is_among there w) refl (all-known there ws) (all-known (there ++ w ∷ []) ws)

-- a line whose body is there
found-not : (b : Bool) → b ≡ true → not (true && not b) ≡ true
found-not true e = refl
found-not false e = absurd cc

named-cases : (bodies : List Word) (b : Word) (rest : List Word) (t : Bool)
    → list_all (is_among bodies) (cons_option (if t then Some b else None) rest) ≡ true
    → (not (t && not (is_among bodies b)) ≡ true) × (list_all (is_among bodies) rest ≡ true)
named-cases bodies b rest true e =
    (found-not (is_among bodies b) (and-left _ (list_all (is_among bodies) rest) e), and-right (is_among bodies b) _ e)
named-cases bodies b rest false e = (refl, e)

named-found : (bodies : List Word) (ws : Words) (rest : List Word) → list_all (is_among bodies) (cons_option (named_by ws) rest) ≡ true
    → (not (is_missing bodies ws) ≡ true) × (list_all (is_among bodies) rest ≡ true)
named-found bodies [] rest e = (refl, e)
named-found bodies (k ∷ []) rest e = (refl, e)
named-found bodies (k ∷ b ∷ ws) rest e = named-cases bodies b rest (bytes_eq k (codes "spawn") || bytes_eq k (codes "start")) e

pub lines-found : (bodies : List Word) (ls : List (List ℕ)) → list_all (is_among bodies) (named_in ls) ≡ true → are_found bodies ls ≡ true
lines-found bodies [] e = refl
lines-found bodies (l ∷ ls) e =
    let f = named-found bodies (words_of l) (named_in ls) e in and-true _ _ f.0 (lines-found bodies ls f.1)

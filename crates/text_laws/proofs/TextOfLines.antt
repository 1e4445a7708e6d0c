-- A text of lines of printed words has just those lines and words.
use Rattle.std.proofs.Common.{◌≡◌, ℕ, ◌+◌, Bool, true, false, ◌&&◌, List, [], ◌∷◌, ◌++◌, map, Some, None, refl, sym, ap, ◌∙◌, arith, append_assoc, append-nil, nat_eq}
use Rattle.std.specs.Prelude.{if◌then◌else◌, not, nat_le, ◌==◌}
use Rattle.std.specs.List.{list_all}
use Rattle.std.proofs.lemmas.Grind.{common_steps}
use Rattle.std.proofs.lemmas.List.Folds.{list_all-append}
use Rattle.text_lines.specs.Text.{lines_of, words_of, is_skipped, begins_comment, is_allowed, bad_byte_line}
use Rattle.text_lines.specs.Laws as laws
use Rattle.text_lines.proofs.Readings.{joined_lines, spaced_words}
use Rattle.job_reader.specs.Words.{Word, Words}
use Rattle.job_reader.proofs.SaidLemmas.{and-true}
use Rattle.job_reader.proofs.GrowLemmas.{and-left, and-right}
use Rattle.job_reader.specs.Grammar.{spaced, line_text, text_of, kept}
use Rattle.job_reader.proofs.WrittenLemmas.{not-true}

-- a byte that is seen in print
abbrev pub is_seen : ℕ → Bool
is_seen c = nat_le 33 c && nat_le c 126

abbrev pub is_printed : Word → Bool
is_printed [] = false
is_printed (c ∷ cs) = list_all is_seen (c ∷ cs)

-- a line that isn't skipped
abbrev pub is_plain_line : Words → Bool
is_plain_line [] = false
is_plain_line (w ∷ ws) = not (begins_comment w) && is_printed w && list_all is_printed ws

-- a line without its LF
abbrev pub line_bytes : Words → List ℕ
line_bytes [] = []
line_bytes (w ∷ ws) = w ++ spaced ws

seen-no-lf : (c : ℕ) → is_seen c ≡ true → not (nat_eq c 10) ≡ true
seen-no-lf c e = grind (arith, common_steps)

seen-no-space : (c : ℕ) → is_seen c ≡ true → not (nat_eq c 32) ≡ true
seen-no-space c e = grind (arith, common_steps)

seen-allowed : (c : ℕ) → is_seen c ≡ true → is_allowed c ≡ true
seen-allowed c e = grind (arith, common_steps)

pub all-through : (p q : ℕ → Bool) (w : Word) → ((c : ℕ) → p c ≡ true → q c ≡ true) → list_all p w ≡ true → list_all q w ≡ true
all-through p q [] h e = refl
all-through p q (c ∷ cs) h e = and-true _ _ (h c (and-left _ (list_all p cs) e)) (all-through p q cs h (and-right (p c) _ e))

pub printed-seen : (w : Word) → is_printed w ≡ true → list_all is_seen w ≡ true
printed-seen [] e = absurd cc
printed-seen (c ∷ cs) e = e

printed-word : (w : Word) → is_printed w ≡ true → laws.is_word w ≡ true
printed-word [] e = absurd cc
printed-word (c ∷ cs) e = all-through is_seen (λ d. not (nat_eq d 32)) (c ∷ cs) seen-no-space e

-- words apart from the last one
record Parted (w : Word) (ws : Words) : Type 0 where
  front : Words
  last : Word
  bytes : w ++ spaced ws ≡ laws.spaced front ++ last
  words : front ++ last ∷ [] ≡ w ∷ ws
  fronts : list_all laws.is_word front ≡ true
  lasts : laws.is_word last ≡ true

parted : (w : Word) (ws : Words) → is_printed w ≡ true → list_all is_printed ws ≡ true → Parted w ws
parted w [] h k = record { front = []; last = w; bytes = append-nil w; words = refl; fronts = refl; lasts = printed-word w h }
parted w (v ∷ vs) h k =
    let p = parted v vs (and-left _ (list_all is_printed vs) k) (and-right (is_printed v) _ k) in
    record {
      front = w ∷ p.front;
      last = p.last;
      bytes = ap (λ (x : List ℕ). w ++ 32 ∷ x) p.bytes ∙ sym (append_assoc w (32 ∷ laws.spaced p.front) p.last);
      words = ap (λ (x : Words). w ∷ x) p.words;
      fronts = and-true _ _ (printed-word w h) p.fronts;
      lasts = p.lasts;
    }

words-back : (l : Words) → is_plain_line l ≡ true → words_of (line_bytes l) ≡ l
words-back [] e = absurd cc
words-back (w ∷ ws) e =
    let h : is_printed w ≡ true = and-right (not (begins_comment w)) _ (and-left _ (list_all is_printed ws) e) in
    let p = parted w ws h (and-right _ (list_all is_printed ws) e) in
    ap words_of p.bytes ∙ (spaced_words p.front p.fronts).1 p.last p.lasts ∙ p.words

-- a line that isn't skipped is read as its words
plain-kept : (l : Words) → is_plain_line l ≡ true → is_skipped l ≡ false
plain-kept [] e = absurd cc
plain-kept (w ∷ ws) e = not-true _ (and-left _ (is_printed w) (and-left _ (list_all is_printed ws) e))

spaced-no-lf : (ws : Words) → list_all is_printed ws ≡ true → laws.is_line (spaced ws) ≡ true
spaced-no-lf [] e = refl
spaced-no-lf (w ∷ ws) e =
    list_all-append (λ c. not (nat_eq c 10)) w (spaced ws)
    ∙ and-true _ _ (all-through is_seen (λ c. not (nat_eq c 10)) w seen-no-lf (printed-seen w (and-left _ (list_all is_printed ws) e)))
    (spaced-no-lf ws (and-right (is_printed w) _ e))

plain-no-lf : (l : Words) → is_plain_line l ≡ true → laws.is_line (line_bytes l) ≡ true
plain-no-lf [] e = absurd cc
plain-no-lf (w ∷ ws) e =
    spaced-no-lf (w ∷ ws)
    (and-true _ _ (and-right (not (begins_comment w)) _ (and-left _ (list_all is_printed ws) e)) (and-right _ (list_all is_printed ws) e))

all-lines : (ls : List Words) → list_all is_plain_line ls ≡ true → list_all laws.is_line (map line_bytes ls) ≡ true
all-lines [] e = refl
all-lines (l ∷ ls) e =
    and-true _ _ (plain-no-lf l (and-left _ (list_all is_plain_line ls) e)) (all-lines ls (and-right (is_plain_line l) _ e))

line-joined : (l : Words) → line_text l ≡ line_bytes l ++ 10 ∷ []
line-joined [] = refl
line-joined (w ∷ ws) = refl

text-joined : (ls : List Words) → text_of ls ≡ laws.joined (map line_bytes ls)
text-joined [] = refl
text-joined (l ∷ ls) =
    ap (λ (x : List ℕ). x ++ text_of ls) (line-joined l) ∙ append_assoc (line_bytes l) (10 ∷ []) (text_of ls)
    ∙ ap (λ (x : List ℕ). line_bytes l ++ 10 ∷ x) (text-joined ls)

kept-lines : (ls : List Words) → list_all is_plain_line ls ≡ true → kept (map line_bytes ls) ≡ ls
kept-lines [] e = refl
kept-lines (l ∷ ls) e =
    let here : is_plain_line l ≡ true = and-left _ (list_all is_plain_line ls) e in
    let words : words_of (line_bytes l) ≡ l = words-back l here in
    ap (λ (x : Words). if is_skipped x then kept (map line_bytes ls) else x ∷ kept (map line_bytes ls)) words
    ∙ ap (λ (b : Bool). if b then kept (map line_bytes ls) else l ∷ kept (map line_bytes ls)) (plain-kept l here)
    ∙ ap (λ (x : List Words). l ∷ x) (kept-lines ls (and-right (is_plain_line l) _ e))

-- the lines of their text, without those that are skipped
pub lines-back : (ls : List Words) → list_all is_plain_line ls ≡ true → kept (lines_of (text_of ls)) ≡ ls
lines-back ls e =
    ap (λ (x : List ℕ). kept (lines_of x)) (text-joined ls) ∙ ap kept (joined_lines (map line_bytes ls) (all-lines ls e)).0
    ∙ kept-lines ls e

spaced-allowed : (ws : Words) → list_all is_printed ws ≡ true → list_all is_allowed (spaced ws) ≡ true
spaced-allowed [] e = refl
spaced-allowed (w ∷ ws) e =
    list_all-append is_allowed w (spaced ws)
    ∙ and-true _ _ (all-through is_seen is_allowed w seen-allowed (printed-seen w (and-left _ (list_all is_printed ws) e)))
    (spaced-allowed ws (and-right (is_printed w) _ e))

line-allowed : (l : Words) → is_plain_line l ≡ true → list_all is_allowed (line_text l) ≡ true
line-allowed [] e = absurd cc
line-allowed (w ∷ ws) e =
    ap (list_all is_allowed) (line-joined (w ∷ ws))
    ∙ list_all-append is_allowed (w ++ spaced ws) (10 ∷ [])
    ∙ and-true _ true
    (spaced-allowed (w ∷ ws) (and-true _ _ (and-right (not (begins_comment w)) _ (and-left _ (list_all is_printed ws) e)) (and-right _ (list_all is_printed ws) e)))
    refl

text-allowed : (ls : List Words) → list_all is_plain_line ls ≡ true → list_all is_allowed (text_of ls) ≡ true
text-allowed [] e = refl
text-allowed (l ∷ ls) e =
    list_all-append is_allowed (line_text l) (text_of ls)
    ∙ and-true _ _ (line-allowed l (and-left _ (list_all is_plain_line ls) e)) (text-allowed ls (and-right (is_plain_line l) _ e))

none-bad : (n : ℕ) (text : List ℕ) → list_all is_allowed text ≡ true → bad_byte_line n text ≡ None
none-bad n [] e = refl
none-bad n (c ∷ cs) e =
    ap (λ (b : Bool). if b then bad_byte_line (if c == 10 then n + 1 else n) cs else Some n) (and-left _ (list_all is_allowed cs) e)
    ∙ none-bad (if c == 10 then n + 1 else n) cs (and-right (is_allowed c) _ e)

-- all their bytes are allowed
pub bytes-allowed : (ls : List Words) → list_all is_plain_line ls ≡ true → bad_byte_line 1 (text_of ls) ≡ None
bytes-allowed ls e = none-bad 1 (text_of ls) (text-allowed ls e)

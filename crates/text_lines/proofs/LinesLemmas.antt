-- The first line of a text, and the first word of a line, by the place at which they end.
use Rattle.std.proofs.Common.{◌≡◌, ◌≢◌, ℕ, ◌+◌, ◌<◌, ◌≤◌, zero, suc, true, false, nat_eq, List, [], ◌∷◌, length, take, drop, get_or, ap, ◌∙◌, refl, arith}
use Rattle.std.proofs.lemmas.Grind.{common_steps}
use Rattle.text_lines.specs.Text.{lines_of, words_of, onto_first, begins_word}

not_lf : (c : ℕ) → c ≢ 10 → nat_eq c 10 ≡ false
not_lf c h = grind (arith, common_steps)

lf : (c : ℕ) → c ≡ 10 → nat_eq c 10 ≡ true
lf c h = grind (arith, common_steps)

pub line_at : (text : List ℕ) (i : ℕ) → i < length text → ((k : ℕ) → k < i → get_or text k 0 ≢ 10) → get_or text i 0 ≡ 10
    → lines_of text ≡ take i text ∷ lines_of (drop (i + 1) text)
line_at [] i h none e = absurd (omega arith)
line_at (c ∷ cs) zero h none e = let here : nat_eq c 10 ≡ true = lf c e in rw here refl
line_at (c ∷ cs) (suc i) h none e =
    let here : nat_eq c 10 ≡ false = not_lf c (none 0 (omega arith)) in
    let short : i < length cs = omega arith in
    let rest : lines_of cs ≡ take i cs ∷ lines_of (drop (i + 1) cs) = line_at cs i short (λ k l. none (suc k) (omega arith)) e in
    let s : suc i + 1 ≡ suc (i + 1) = omega arith in
    rw (here, rest, s) refl

pub line_whole : (text : List ℕ) → 0 < length text → ((k : ℕ) → k < length text → get_or text k 0 ≢ 10) → lines_of text ≡ text ∷ []
line_whole [] h none = absurd (omega arith)
line_whole (c ∷ []) h none = let here : nat_eq c 10 ≡ false = not_lf c (none 0 (omega arith)) in rw here refl
line_whole (c ∷ d ∷ ds) h none =
    let here : nat_eq c 10 ≡ false = not_lf c (none 0 (omega arith)) in
    let rest : lines_of (d ∷ ds) ≡ (d ∷ ds) ∷ [] = line_whole (d ∷ ds) (omega arith) (λ k l. none (suc k) (omega arith)) in
    rw here (ap (onto_first c) rest)

not_space : (c : ℕ) → c ≢ 32 → nat_eq c 32 ≡ false
not_space c h = grind (arith, common_steps)

space : (c : ℕ) → c ≡ 32 → nat_eq c 32 ≡ true
space c h = grind (arith, common_steps)

pub words_skip : (line : List ℕ) (i : ℕ) → i ≤ length line → ((k : ℕ) → k < i → get_or line k 0 ≡ 32)
    → words_of line ≡ words_of (drop i line)
words_skip line zero h all = refl
words_skip [] (suc i) h all = absurd (omega arith)
words_skip (c ∷ cs) (suc i) h all =
    let here : nat_eq c 32 ≡ true = space c (all 0 (omega arith)) in
    let short : i ≤ length cs = omega arith in
    let rest : words_of cs ≡ words_of (drop i cs) = words_skip cs i short (λ k l. all (suc k) (omega arith)) in
    rw here rest

pub word_at : (line : List ℕ) (i : ℕ) → 0 < i → i ≤ length line → ((k : ℕ) → k < i → get_or line k 0 ≢ 32)
    → (i < length line → get_or line i 0 ≡ 32)
    → words_of line ≡ take i line ∷ words_of (drop i line)
word_at line zero p h none stop = absurd (omega arith)
word_at [] (suc i) p h none stop = absurd (omega arith)
word_at (c ∷ []) (suc zero) p h none stop = let here : nat_eq c 32 ≡ false = not_space c (none 0 (omega arith)) in rw here refl
word_at (c ∷ []) (suc (suc i)) p h none stop = absurd (omega arith)
word_at (c ∷ d ∷ ds) (suc zero) p h none stop =
    let here : nat_eq c 32 ≡ false = not_space c (none 0 (omega arith)) in
    let next : nat_eq d 32 ≡ true = space d (stop (omega arith)) in
    rw (here, next) refl
word_at (c ∷ d ∷ ds) (suc (suc i)) p h none stop =
    let here : nat_eq c 32 ≡ false = not_space c (none 0 (omega arith)) in
    let next : nat_eq d 32 ≡ false = not_space d (none 1 (omega arith)) in
    let short : suc i ≤ length (d ∷ ds) = omega arith in
    let rest : words_of (d ∷ ds) ≡ take (suc i) (d ∷ ds) ∷ words_of (drop (suc i) (d ∷ ds)) =
    word_at (d ∷ ds) (suc i) (omega arith) short (λ k l. none (suc k) (omega arith)) (λ l. stop (omega arith)) in
    let begins : begins_word (d ∷ ds) ≡ true = rw next refl in
    rw here (rw begins (ap (onto_first c) rest))

pub words_none : (line : List ℕ) → ((k : ℕ) → k < length line → get_or line k 0 ≡ 32) → words_of line ≡ []
words_none [] all = refl
words_none (c ∷ cs) all =
    let here : nat_eq c 32 ≡ true = space c (all 0 (omega arith)) in
    rw here (words_none cs (λ k l. all (suc k) (omega arith)))

pub line_split : (text front back after : List ℕ) (i : ℕ) → i < length text → ((k : ℕ) → k < i → get_or text k 0 ≢ 10)
    → get_or text i 0 ≡ 10
    → front ≡ take i text → back ≡ drop i text → after ≡ drop 1 back → lines_of text ≡ front ∷ lines_of after
line_split text front back after i h none e f b a =
    let same : after ≡ drop (i + 1) text = a ∙ ap (drop 1) b ∙ grind (arith, common_steps) in
    rw (f, same) (line_at text i h none e)

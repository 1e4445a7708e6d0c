-- Lines, words and numbers, read backwards.
use Rattle.std.proofs.Common.{◌≡◌, ◌≢◌, ◌⊎◌, inl, inr, ⊎_elim, ℕ, Bool, true, false, not, nat_eq, List, [], ◌∷◌, ◌++◌, refl, sym, ap, ◌∙◌, append_assoc, arith, cond}
use Rattle.std.proofs.lemmas.Grind.{common_steps}
use Rattle.std.specs.Prelude.{◌&&◌}
use Rattle.std.specs.List.{list_all}
use Rattle.text_lines.specs.Text.{lines_of, words_of, onto_first, begins_word}
use Rattle.text_lines.specs.Laws.{is_line, is_word, joined, spaced, JoinedLinesAreRead, LinesGiveBackTheText, SpacedWordsAreRead, WordsOfALine}

both_true : (a b : Bool) → a && b ≡ true → (a ≡ true) × (b ≡ true)
both_true true b e = (refl, e)
both_true false b e = absurd (let wrong : false ≡ true = e in cc)

is_false : (b : Bool) → not b ≡ true → b ≡ false
is_false true e = absurd (let wrong : false ≡ true = e in cc)
is_false false e = refl

either : (b : Bool) → (b ≡ true) ⊎ (b ≡ false)
either true = inl refl
either false = inr refl

-- a line in front of an LF
line_before : (line rest : List ℕ) → is_line line ≡ true → lines_of (line ++ 10 ∷ rest) ≡ line ∷ lines_of rest
line_before [] rest h = refl
line_before (c ∷ cs) rest h =
    let both = both_true (not (nat_eq c 10)) (is_line cs) h in
    let here : nat_eq c 10 ≡ false = is_false (nat_eq c 10) both.0 in
    let more : lines_of (cs ++ 10 ∷ rest) ≡ cs ∷ lines_of rest = line_before cs rest both.1 in
    rw here (ap (onto_first c) more)

-- a last line
line_alone : (c : ℕ) (cs : List ℕ) → is_line (c ∷ cs) ≡ true → lines_of (c ∷ cs) ≡ (c ∷ cs) ∷ []
line_alone c [] h =
    let both = both_true (not (nat_eq c 10)) true h in
    let here : nat_eq c 10 ≡ false = is_false (nat_eq c 10) both.0 in rw here refl
line_alone c (d ∷ ds) h =
    let both = both_true (not (nat_eq c 10)) (is_line (d ∷ ds)) h in
    let here : nat_eq c 10 ≡ false = is_false (nat_eq c 10) both.0 in
    rw here (ap (onto_first c) (line_alone d ds both.1))

last_line : (last : List ℕ) → is_line last ≡ true → last ≢ [] → lines_of last ≡ last ∷ []
last_line [] h some = absurd (some refl)
last_line (c ∷ cs) h some = line_alone c cs h

joined_read : (lines : List (List ℕ)) → list_all is_line lines ≡ true → lines_of (joined lines) ≡ lines
joined_read [] h = refl
joined_read (l ∷ ls) h =
    let both = both_true (is_line l) (list_all is_line ls) h in
    line_before l (joined ls) both.0 ∙ ap (λ (m : List (List ℕ)). l ∷ m) (joined_read ls both.1)

joined_last : (lines : List (List ℕ)) (last : List ℕ) → list_all is_line lines ≡ true → is_line last ≡ true → last ≢ []
    → lines_of (joined lines ++ last) ≡ lines ++ last ∷ []
joined_last [] last h k some = last_line last k some
joined_last (l ∷ ls) last h k some =
    let both = both_true (is_line l) (list_all is_line ls) h in
    ap lines_of (append_assoc l (10 ∷ joined ls) last) ∙ line_before l (joined ls ++ last) both.0
    ∙ ap (λ (m : List (List ℕ)). l ∷ m) (joined_last ls last both.1 k some)

pub joined_lines : JoinedLinesAreRead
joined_lines lines h = (joined_read lines h, λ last k some. joined_last lines last h k some)

-- a byte in front of the first line
onto_joined : (c : ℕ) (ls : List (List ℕ)) → ls ≢ [] → joined (onto_first c ls) ≡ c ∷ joined ls
onto_joined c [] some = absurd (some refl)
onto_joined c (l ∷ ls) some = refl

onto_lines : (c : ℕ) (ls : List (List ℕ)) → not (nat_eq c 10) ≡ true → list_all is_line ls ≡ true
    → list_all is_line (onto_first c ls) ≡ true
onto_lines c [] h k = rw h refl
onto_lines c (l ∷ ls) h k = rw h k

onto_some : (c : ℕ) (ls : List (List ℕ)) → onto_first c ls ≢ []
onto_some c [] e = cc
onto_some c (l ∷ ls) e = cc

some_lines : (c : ℕ) (cs : List ℕ) → lines_of (c ∷ cs) ≢ []
some_lines c cs e = ⊎_elim
    (λ (lf : nat_eq c 10 ≡ true). let same : lines_of (c ∷ cs) ≡ [] ∷ lines_of cs = rw lf refl in cc)
    (λ (other : nat_eq c 10 ≡ false). let same : lines_of (c ∷ cs) ≡ onto_first c (lines_of cs) = rw other refl in
    onto_some c (lines_of cs) (sym same ∙ e))
    (either (nat_eq c 10))

not_true : (b : Bool) → b ≡ false → not b ≡ true
not_true b e = rw e refl

each_line : (text : List ℕ) → list_all is_line (lines_of text) ≡ true
each_line [] = refl
each_line (c ∷ cs) = ⊎_elim
    (λ (lf : nat_eq c 10 ≡ true). rw lf (each_line cs))
    (λ (other : nat_eq c 10 ≡ false). rw other (onto_lines c (lines_of cs) (not_true (nat_eq c 10) other) (each_line cs)))
    (either (nat_eq c 10))

same_text : (text : List ℕ) → (joined (lines_of text) ≡ text) ⊎ (joined (lines_of text) ≡ text ++ 10 ∷ [])
same_text [] = inl refl
same_text (c ∷ []) = ⊎_elim
    (λ (lf : nat_eq c 10 ≡ true). let same : c ≡ 10 = grind (arith, common_steps) in inl (rw lf (ap (λ (d : ℕ). d ∷ []) (sym same))))
    (λ (other : nat_eq c 10 ≡ false). inr (rw other refl))
    (either (nat_eq c 10))
same_text (c ∷ d ∷ ds) = ⊎_elim
    (λ (lf : nat_eq c 10 ≡ true).
    let same : c ≡ 10 = grind (arith, common_steps) in
    let begins : joined (lines_of (c ∷ d ∷ ds)) ≡ c ∷ joined (lines_of (d ∷ ds)) =
    rw lf (ap (λ (e : ℕ). e ∷ joined (lines_of (d ∷ ds))) (sym same)) in
    behind c (joined (lines_of (c ∷ d ∷ ds))) (joined (lines_of (d ∷ ds))) (d ∷ ds) begins (same_text (d ∷ ds)))
    (λ (other : nat_eq c 10 ≡ false).
    let begins : joined (lines_of (c ∷ d ∷ ds)) ≡ c ∷ joined (lines_of (d ∷ ds)) =
    rw other (onto_joined c (lines_of (d ∷ ds)) (some_lines d ds)) in
    behind c (joined (lines_of (c ∷ d ∷ ds))) (joined (lines_of (d ∷ ds))) (d ∷ ds) begins (same_text (d ∷ ds)))
    (either (nat_eq c 10))
  where
    behind : (c : ℕ) (whole rest text : List ℕ) → whole ≡ c ∷ rest → (rest ≡ text) ⊎ (rest ≡ text ++ 10 ∷ [])
        → (whole ≡ c ∷ text) ⊎ (whole ≡ c ∷ (text ++ 10 ∷ []))
    behind c whole rest text e (inl f) = inl (e ∙ ap (λ (t : List ℕ). c ∷ t) f)
    behind c whole rest text e (inr f) = inr (e ∙ ap (λ (t : List ℕ). c ∷ t) f)

pub lines_back : LinesGiveBackTheText
lines_back text = (each_line text, same_text text)

-- a word in front of a space
word_before : (c : ℕ) (cs rest : List ℕ) → is_word (c ∷ cs) ≡ true → words_of ((c ∷ cs) ++ 32 ∷ rest) ≡ (c ∷ cs) ∷ words_of rest
word_before c [] rest h =
    let both = both_true (not (nat_eq c 32)) true h in
    let here : nat_eq c 32 ≡ false = is_false (nat_eq c 32) both.0 in rw here refl
word_before c (d ∷ ds) rest h =
    let both = both_true (not (nat_eq c 32)) (is_word (d ∷ ds)) h in
    let here : nat_eq c 32 ≡ false = is_false (nat_eq c 32) both.0 in
    let next : not (nat_eq d 32) ≡ true = (both_true (not (nat_eq d 32)) (list_all (λ e. not (nat_eq e 32)) ds) both.1).0 in
    rw here (rw next (ap (onto_first c) (word_before d ds rest both.1)))

word_alone : (c : ℕ) (cs : List ℕ) → is_word (c ∷ cs) ≡ true → words_of (c ∷ cs) ≡ (c ∷ cs) ∷ []
word_alone c [] h =
    let both = both_true (not (nat_eq c 32)) true h in
    let here : nat_eq c 32 ≡ false = is_false (nat_eq c 32) both.0 in rw here refl
word_alone c (d ∷ ds) h =
    let both = both_true (not (nat_eq c 32)) (is_word (d ∷ ds)) h in
    let here : nat_eq c 32 ≡ false = is_false (nat_eq c 32) both.0 in
    let next : not (nat_eq d 32) ≡ true = (both_true (not (nat_eq d 32)) (list_all (λ e. not (nat_eq e 32)) ds) both.1).0 in
    rw here (rw next (ap (onto_first c) (word_alone d ds both.1)))

no_word : is_word [] ≡ true → {A : Type 0} → A
no_word e = absurd (let wrong : false ≡ true = e in cc)

spaced_read : (words : List (List ℕ)) → list_all is_word words ≡ true → words_of (spaced words) ≡ words
spaced_read [] h = refl
spaced_read ([] ∷ ws) h = no_word (both_true (is_word []) (list_all is_word ws) h).0
spaced_read ((c ∷ cs) ∷ ws) h =
    let both = both_true (is_word (c ∷ cs)) (list_all is_word ws) h in
    word_before c cs (spaced ws) both.0 ∙ ap (λ (m : List (List ℕ)). (c ∷ cs) ∷ m) (spaced_read ws both.1)

spaced_last : (words : List (List ℕ)) (last : List ℕ) → list_all is_word words ≡ true → is_word last ≡ true
    → words_of (spaced words ++ last) ≡ words ++ last ∷ []
spaced_last [] [] h k = no_word k
spaced_last [] (c ∷ cs) h k = word_alone c cs k
spaced_last ([] ∷ ws) last h k = no_word (both_true (is_word []) (list_all is_word ws) h).0
spaced_last ((c ∷ cs) ∷ ws) last h k =
    let both = both_true (is_word (c ∷ cs)) (list_all is_word ws) h in
    ap words_of (append_assoc (c ∷ cs) (32 ∷ spaced ws) last) ∙ word_before c cs (spaced ws ++ last) both.0
    ∙ ap (λ (m : List (List ℕ)). (c ∷ cs) ∷ m) (spaced_last ws last both.1 k)

pub spaced_words : SpacedWordsAreRead
spaced_words words h = (spaced_read words h, λ last k. spaced_last words last h k)

onto_words : (c : ℕ) (ws : List (List ℕ)) → not (nat_eq c 32) ≡ true → list_all is_word ws ≡ true
    → list_all is_word (onto_first c ws) ≡ true
onto_words c [] h k = rw h refl
onto_words c ([] ∷ ws) h k = no_word (both_true (is_word []) (list_all is_word ws) k).0
onto_words c ((d ∷ ds) ∷ ws) h k = rw h k

one_word : (c : ℕ) (ws : List (List ℕ)) → not (nat_eq c 32) ≡ true → list_all is_word ws ≡ true → list_all is_word ((c ∷ []) ∷ ws) ≡ true
one_word c ws h k = rw h k

each_word : (line : List ℕ) → list_all is_word (words_of line) ≡ true
each_word [] = refl
each_word (c ∷ cs) = ⊎_elim
    (λ (space : nat_eq c 32 ≡ true). rw space (each_word cs))
    (λ (other : nat_eq c 32 ≡ false). rw other (chosen (begins_word cs) c (words_of cs) (not_true (nat_eq c 32) other) (each_word cs)))
    (either (nat_eq c 32))
  where
    chosen : (b : Bool) (c : ℕ) (ws : List (List ℕ)) → not (nat_eq c 32) ≡ true → list_all is_word ws ≡ true
        → list_all is_word (cond b (onto_first c ws) ((c ∷ []) ∷ ws)) ≡ true
    chosen true c ws h k = onto_words c ws h k
    chosen false c ws h k = one_word c ws h k

pub line_words : WordsOfALine
line_words line = (each_word line, refl)

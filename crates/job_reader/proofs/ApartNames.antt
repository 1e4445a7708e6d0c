-- Each word is looked up in a set of those above it: no word is there twice.
use Rattle.std.proofs.Common.{◌≡◌, ◌<◌, ◌+◌, ℕ, Bool, true, false, List, [], ◌∷◌, ◌++◌, cond, length, take, drop, get_or, refl, sym, ap, ◌∙◌, drop-cons, add-one}
use Rattle.std.proofs.lemmas.List.{take_more}
use Rattle.std.proofs.lemmas.Bool.{false≢true}
use Rattle.std.proofs.lemmas.Slice.Eq.{bytes_eq-Decides}
use Rattle.std.specs.Prelude.{not, ◌&&◌, ◌||◌}
use Rattle.std.specs.Borrow.{Bor}
use Rattle.std.specs.HashSet.{HashSet, Updates, contains}
use Rattle.std.specs.List.{list_all}
use Rattle.std.specs.declared.hash.FoldHasher.{FoldHasher}
use Rattle.std.specs.declared.hash.BuildHasherDefault.{BuildHasherDefault}
use Rattle.std.specs.Str.{bytes_eq}
use Rattle.task_code.specs.Names.{is_among}
use Rattle.job_reader.specs.Words.{Word}
use Rattle.job_reader.specs.Views.{lent}
use Rattle.job_reader.proofs.NotedLemmas.{lent-append}
use Rattle.job_reader.specs.Reading.{are_apart}

abbrev pub word_eq : Bor Word → Bor Word → Bool
word_eq v w = bytes_eq v.now w.now

abbrev pub WordSet : Type 0
WordSet = HashSet (Bor Word) (BuildHasherDefault FoldHasher)

-- the set has exactly the words of the list
abbrev pub AreFound : WordSet → List Word → Type 0
AreFound set names = (w : Bor Word) → contains word_eq set w ≡ is_among names w.now

-- no word is among the names, and none is there twice
abbrev pub apart_from : List Word → List Word → Bool
apart_from names [] = true
apart_from names (w ∷ ws) = not (is_among names w) && apart_from (names ++ w ∷ []) ws

abbrev none_among : List Word → List Word → Bool
none_among names ws = list_all (λ w. not (is_among names w)) ws

same : (a b : Bool) → (a ≡ true → b ≡ true) → (b ≡ true → a ≡ true) → a ≡ b
same true true f g = refl
same true false f g = absurd (false≢true (f refl))
same false true f g = absurd (false≢true (g refl))
same false false f g = refl

swapped : (v w : Word) → bytes_eq v w ≡ bytes_eq w v
swapped v w =
    same (bytes_eq v w) (bytes_eq w v) (λ e. (bytes_eq-Decides w v).1 (sym ((bytes_eq-Decides v w).0 e)))
    (λ e. (bytes_eq-Decides v w).1 (sym ((bytes_eq-Decides w v).0 e)))

or_assoc : (a b c : Bool) → (a || (b || c)) ≡ ((a || b) || c)
or_assoc true b c = refl
or_assoc false b c = refl

or_false : (a : Bool) → (a || false) ≡ a
or_false true = refl
or_false false = refl

among-more : (names : List Word) (w v : Word) → is_among (names ++ w ∷ []) v ≡ (is_among names v || bytes_eq w v)
among-more [] w v = or_false (bytes_eq w v)
among-more (n ∷ ns) w v = ap (λ (b : Bool). bytes_eq n v || b) (among-more ns w v) ∙ or_assoc (bytes_eq n v) (is_among ns v) (bytes_eq w v)

one_more : (a b n m : Bool) → (not (a || b) && (n && not m)) ≡ ((not a && n) && not (b || m))
one_more true b n m = refl
one_more false true true m = refl
one_more false true false m = refl
one_more false false n m = refl

none-more : (names : List Word) (w : Word) (ws : List Word) → none_among (names ++ w ∷ []) ws ≡ (none_among names ws && not (is_among ws w))
none-more names w [] = refl
none-more names w (v ∷ ws) =
    ap (λ (b : Bool). not b && none_among (names ++ w ∷ []) ws)
    (among-more names w v ∙ ap (λ (b : Bool). is_among names v || b) (swapped w v))
    ∙ (ap (λ (b : Bool). not (is_among names v || bytes_eq v w) && b) (none-more names w ws)
    ∙ one_more (is_among names v) (bytes_eq v w) (none_among names ws) (is_among ws w))

regrouped : (a n m r : Bool) → (a && ((n && m) && r)) ≡ ((a && n) && (m && r))
regrouped true true m r = refl
regrouped true false m r = refl
regrouped false n m r = refl

apart-splits : (names ws : List Word) → apart_from names ws ≡ (none_among names ws && are_apart ws)
apart-splits names [] = refl
apart-splits names (w ∷ ws) =
    ap (λ (b : Bool). not (is_among names w) && b)
    (apart-splits (names ++ w ∷ []) ws ∙ ap (λ (b : Bool). b && are_apart ws) (none-more names w ws))
    ∙ regrouped (not (is_among names w)) (none_among names ws) (not (is_among ws w)) (are_apart ws)

all-new : (ws : List Word) → none_among [] ws ≡ true
all-new [] = refl
all-new (w ∷ ws) = all-new ws

-- at the first word
pub apart-begins : (ws : List Word) → are_apart ws ≡ apart_from [] ws
apart-begins ws = sym (apart-splits [] ws ∙ ap (λ (b : Bool). b && are_apart ws) (all-new ws))

-- a new word
apart-goes-on : (names : List Word) (w : Word) (ws : List Word) → is_among names w ≡ false
    → apart_from names (w ∷ ws) ≡ apart_from (names ++ w ∷ []) ws
apart-goes-on names w ws e = ap (λ (b : Bool). not b && apart_from (names ++ w ∷ []) ws) e

either : (a b : Bool) → cond a true b ≡ (b || a)
either true true = refl
either true false = refl
either false true = refl
either false false = refl

-- the set after a word is put in
found-more : (s n : WordSet) (names : List Word) (w : Bor Word) → Updates word_eq s n w true → AreFound s names
    → AreFound n (names ++ w.now ∷ [])
found-more s n names w u found = λ q.
    u.0 q ∙ (ap (λ (b : Bool). cond (bytes_eq w.now q.now) true b) (found q)
    ∙ (either (bytes_eq w.now q.now) (is_among names q.now) ∙ sym (among-more names w.now q.now)))

lent-take : (ws : List (Bor Word)) (i : ℕ) (d : Bor Word) → i < length ws
    → lent (take (i + 1) ws) ≡ lent (take i ws) ++ (get_or ws i d).now ∷ []
lent-take ws i d h = ap lent (take_more ws i d h) ∙ lent-append (take i ws) (get_or ws i d ∷ [])

lent-drop : (ws : List (Bor Word)) (i : ℕ) (d : Bor Word) → i < length ws → lent (drop i ws) ≡ (get_or ws i d).now ∷ lent (drop (i + 1) ws)
lent-drop ws i d h = ap lent (drop-cons ws i d h) ∙ ap (λ (n : ℕ). (get_or ws i d).now ∷ lent (drop n ws)) (sym (add-one i))

absent : (b a : Bool) → a ≡ not b → a ≡ true → b ≡ false
absent true a e h = absurd (false≢true (sym e ∙ h))
absent false a e h = refl

-- the loop after a new word
pub apart-next : (s n : WordSet) (ws : List (Bor Word)) (i : ℕ) (d : Bor Word) (x a : Bool) → i < length ws
    → a ≡ not (contains word_eq s (get_or ws i d)) → a ≡ true → Updates word_eq s n (get_or ws i d) true
    → AreFound s (lent (take i ws)) → x ≡ apart_from (lent (take i ws)) (lent (drop i ws))
    → AreFound n (lent (take (i + 1) ws)) × (x ≡ apart_from (lent (take (i + 1) ws)) (lent (drop (i + 1) ws)))
apart-next s n ws i d x a h e t u found rest =
    let w = get_or ws i d in
    let names = lent (take i ws) in
    let new : is_among names w.now ≡ false = sym (found w) ∙ absent (contains word_eq s w) a e t in (
      λ q. found-more s n names w u found q ∙ ap (λ (ns : List Word). is_among ns q.now) (sym (lent-take ws i d h)),
      rest ∙ ap (apart_from names) (lent-drop ws i d h) ∙ apart-goes-on names w.now (lent (drop (i + 1) ws)) new
          ∙ ap (λ (ns : List Word). apart_from ns (lent (drop (i + 1) ws))) (sym (lent-take ws i d h)),
    )
